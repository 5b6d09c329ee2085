-- Which seat has a cell that is out.
use Rattle.std.proofs.Common.{◌≡◌, ◌≢◌, ℕ, List, get_or, set, refl, sym, ◌∙◌, subst}
use mathlib.Core.Logic.{dite}
use mathlib.Core.Option.{some}
use native.Mathlib.Decide.{ℕ_discrete}
use lib.ListN.{get_elem?}
use Rattle.atomic_table.proofs.Lists.{set_else}
use Rattle.base_board.specs.declared.view.SeatView.{SeatView}
use Rattle.base_board.specs.Stands.{HasOut, IsAway}
use Rattle.base_board.proofs.Rows.{set_at, one_there}

abbrev pick : {P : Type 0} → Dec P → ℕ → ℕ → ℕ
pick (yes _) a b = a
pick (no _) a b = b

-- the owner of i is now id
pub own : (ℕ → ℕ) → ℕ → ℕ → ℕ → ℕ
own owner i id k = pick (ℕ_discrete k i) id (owner k)

pub own_here : (owner : ℕ → ℕ) (i id : ℕ) → own owner i id i ≡ id
unfolding own
own_here owner i id = go (ℕ_discrete i i)
  where
    go : (d : Dec (i ≡ i)) → pick d id (owner i) ≡ id
    go (yes e) = refl
    go (no n) = absurd (n refl)

pub own_else : (owner : ℕ → ℕ) (i id k : ℕ) → k ≢ i → own owner i id k ≡ owner k
unfolding own
own_else owner i id k ne = go (ℕ_discrete k i)
  where
    go : (d : Dec (k ≡ i)) → pick d id (owner k) ≡ owner k
    go (yes e) = absurd (ne e)
    go (no n) = refl

module _ {C S : Type 0} where
  -- a cell stays out where one seat's view changes that still has it
  pub away_set : (words words' : List ℕ) (views : List (SeatView C S)) (id o k : ℕ) (old w : SeatView C S) → get_elem? views id ≡ some old → (get_or words k 0 ≢ 0 → get_or words' k 0 ≢ 0)
      → (HasOut k old → HasOut k w) → IsAway words views o k → IsAway words' (set views id w) o k
  away_set words words' views id o k old w at still has away = let v = away.1.0 in (
    still away.0,
    dite (ℕ_discrete o id)
        (λ e. let there : get_elem? views o ≡ some old = subst (λ (z : ℕ). get_elem? views z ≡ some old) (sym e) at in
        (w, subst (λ (z : ℕ). get_elem? (set views id w) z ≡ some w) (sym e) (set_at views id old w at), has (subst (HasOut k) (one_there views o v old away.1.1 there) away.1.2)))
        (λ ne. (v, set_else views id o w ne ∙ away.1.1, away.1.2)),
  )
