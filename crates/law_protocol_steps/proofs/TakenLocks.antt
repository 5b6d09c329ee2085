-- Locks that aren't in the way.
use Rattle.std.proofs.Common.{◌≡◌, ◌≢◌, ℕ, not, Bool, true, false, cond, List, [], ◌∷◌, map, filter, Option, Some, None, refl, sym, ap, ◌∙◌}
use Rattle.std.proofs.lemmas.Bool.{ne_eqb}
use Rattle.std.specs.Prelude.{◌&&◌}
use Rattle.std.specs.List.{fold}
use Rattle.sql_types.specs.declared.lock.Hold.{Hold}
use Rattle.sql_types.specs.declared.lock.LockRequest.{LockRequest}
use Rattle.spec_model.specs.Locks.{requests_conflict}
use Rattle.spec_model.specs.InTheWay.{Holder, holder_of, bars, lesser, least_with, least, barrier, conflict_or, first_conflict}
use Rattle.spec_history.specs.Lists.{Each}

some_least : (hs : List Holder) (a : Holder) → fold least_with (Some a) hs ≡ None → ⊥
some_least [] a e = absurd cc
some_least (h ∷ hs) a e = some_least hs (lesser h (Some a)) e

module _ (id : ℕ) (request : LockRequest) where
  abbrev Passes : Hold → Type 0
  Passes h = h.tx ≢ id → requests_conflict request h.request ≡ false

  passes : (h : Hold) → bars id request h ≡ false → Passes h
  passes h e ne = sym (ap (λ (b : Bool). not b && requests_conflict request h.request) (ne_eqb h.tx id ne)) ∙ e

  passes_by : (h : Hold) (hs : List Hold) (b : Bool) → bars id request h ≡ b
      → least (map holder_of (cond b (h ∷ filter (bars id request) hs) (filter (bars id request) hs))) ≡ None
      → (least (map holder_of (filter (bars id request) hs)) ≡ None → Each Passes hs) → Each Passes (h ∷ hs)
  passes_by h hs true f e rest = absurd (some_least (map holder_of (filter (bars id request) hs)) (holder_of h) e)
  passes_by h hs false f e rest = (passes h f, rest e)

  pub all_pass : (hs : List Hold) → least (map holder_of (filter (bars id request) hs)) ≡ None → Each Passes hs
  all_pass [] e = tt
  all_pass (h ∷ hs) e = passes_by h hs (bars id request h) refl e (all_pass hs)

pub none_bars : (hs : List Hold) (id : ℕ) (request : LockRequest) → barrier hs id request ≡ None → Each (λ h. h.tx ≢ id → requests_conflict request h.request ≡ false) hs
unfolding barrier
none_bars hs id request e = all_pass id request hs e

free_by : (hs : List Hold) (id : ℕ) (w : LockRequest) (ws : List LockRequest) (b : Option Holder) → barrier hs id w ≡ b
    → conflict_or b w.item (first_conflict hs id ws) ≡ None
    → (first_conflict hs id ws ≡ None → Each (λ request. Each (λ h. h.tx ≢ id → requests_conflict request h.request ≡ false) hs) ws)
    → Each (λ request. Each (λ h. h.tx ≢ id → requests_conflict request h.request ≡ false) hs) (w ∷ ws)
free_by hs id w ws None f e rest = (none_bars hs id w f, rest e)
free_by hs id w ws (Some a) f e rest = absurd cc

-- no lock of another transaction conflicts with one of the wants
pub all_free : (hs : List Hold) (id : ℕ) (requests : List LockRequest) → first_conflict hs id requests ≡ None
    → Each (λ request. Each (λ h. h.tx ≢ id → requests_conflict request h.request ≡ false) hs) requests
unfolding first_conflict
all_free hs id [] e = tt
all_free hs id (w ∷ ws) e = free_by hs id w ws (barrier hs id w) refl e (all_free hs id ws)
