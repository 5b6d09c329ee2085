-- Each of the five kinds of step keeps the rule of the board.
use Rattle.std.proofs.Common.{◌≡◌, ◌≢◌, ℕ, ◌+◌, ◌<◌, List, [], ◌∷◌, ◌++◌, set, sym, ◌∙◌, subst, ⊎_elim, Some}
use Rattle.std.specs.Prelude.{Option}
use mathlib.Core.Option.{some, none}
use lib.ListN.{get_elem?}
use Rattle.atomic_table.specs.Table.{State}
use Rattle.atomic_table.proofs.Lists.{set_else}
use Rattle.base_board.specs.declared.view.SeatView.{SeatView}
use Rattle.base_board.specs.Outs.{OutsAreIn}
use Rattle.base_board.specs.Stands.{IsHome, IsAway, seat_view, Stands}
use Rattle.base_board.specs.Steps.{TakesCell, MissesCell, GivesCell, SplitsSeat, JoinsSeat}
use Rattle.base_board.proofs.Takes.{won, marked}
use Rattle.base_board.proofs.Gives.{given}
use Rattle.base_board.proofs.Parts.{splits_seat, joins_seat}

module _ {C S : Type 0} (stand : List C → List S → Type 0) (nobody : S) (parts : ℕ) where
  abbrev Law : State (Option C) (SeatView C S) → Type 0
  Law = Stands stand nobody parts

  pub takes_on : (s t : State (Option C) (SeatView C S)) → Law s → TakesCell s t → Law t
  takes_on s t r k = subst Law (sym k.after) (⊎_elim
      (λ (h : IsHome s.words s.homes r.cells k.i).
      let e : some (some (Some h.1.0)) ≡ some (some (Some k.c)) = sym h.1.2 ∙ k.here in let same : h.1.0 ≡ k.c = cc in
      subst (λ (c : C). Law record { words = set s.words k.i k.mark; homes = set s.homes k.i none; views = set s.views k.j (seat_view k.v.state k.v.parts ((k.i, c) ∷ k.v.out)) }) same
      (won stand nobody parts s r k.i k.mark k.j k.v k.inside k.marks k.at k.some_part k.below k.home h))
      (λ (a : IsAway s.words s.views (r.owner k.i) k.i). absurd (a.0 k.home))
      (r.each_cell k.i k.inside))

  pub misses_on : (s t : State (Option C) (SeatView C S)) → Law s → MissesCell s t → Law t
  misses_on s t r k = subst Law (sym k.after) (marked stand nobody parts s r k.i k.mark k.inside k.marks k.away)

  pub gives_on : (may : S → List (ℕ × C) → ℕ → C → S → Type 0)
      → ((cells : List C) (seats : List S) (j : ℕ) (s : S) (out : List (ℕ × C)) (i : ℕ) (c : C) (t : S) → stand cells seats → get_elem? seats j ≡ some s → OutsAreIn cells out → may s out i c t → stand (set cells i c) (set seats j t))
      → (s t : State (Option C) (SeatView C S)) → Law s → GivesCell may s t → Law t
  gives_on may visits s t r k = subst Law (sym k.after) (given stand nobody parts may visits s r k.j k.v k.i k.old k.c k.u k.others k.inside k.at k.some_part k.held k.allowed)

  pub splits_on : (kept split_off : S → ℕ → S)
      → ((cells : List C) (seats : List S) (j : ℕ) (s : S) (n : ℕ) → stand cells seats → get_elem? seats j ≡ some s → 0 < n → stand cells (set seats j (kept s n) ++ split_off s n ∷ []))
      → (s t : State (Option C) (SeatView C S)) → Law s → SplitsSeat kept split_off s t → Law t
  splits_on kept split_off law s t r k = subst Law (sym k.after) (splits_seat stand nobody parts kept split_off law k.j k.v k.n k.given k.left s r k.at)

  pub joins_on : (may_end : S → Type 0) (joined : S → S → S)
      → ((cells : List C) (seats : List S) (j k : ℕ) (s t : S) → stand cells seats → get_elem? seats j ≡ some s → get_elem? seats k ≡ some t → k ≢ j → may_end t → stand cells (set (set seats j (joined s t)) k nobody))
      → (s t : State (Option C) (SeatView C S)) → Law s → JoinsSeat may_end joined nobody s t → Law t
  joins_on may_end joined law s t r k = subst Law (sym k.after)
      (joins_seat stand nobody parts may_end joined law k.j k.v k.k k.w k.some_part k.idle k.ends s r k.at k.apart (set_else s.views k.j k.k (seat_view (joined k.v.state k.w.state) (k.v.parts + k.w.parts) k.v.out) k.apart ∙ k.other))
