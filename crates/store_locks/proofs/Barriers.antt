-- The least holder that bars a want, and whether some hold answers it, as the holds at some places are looked at one after another.
use Rattle.std.proofs.Common.{◌≡◌, ◌<◌, ◌+◌, ℕ, Bool, true, false, cond, List, [], ◌∷◌, ◌++◌, take, length, get_or, map, Option, Some, None, refl, ap, ◌∙◌}
use Rattle.std.specs.List.{filter, fold, list_any, slice_get}
use Rattle.std.proofs.lemmas.List.{map-append}
use Rattle.std.proofs.lemmas.List.Folds.{list_any-append}
use Rattle.std.proofs.lemmas.Map.Keys.{any_passes_from_place}
use Rattle.std.proofs.lemmas.List.Elements.{filter-append}
use Rattle.std.proofs.lemmas.Grind.{fold-append}
use Rattle.sql_types.specs.declared.lock.LockRequest.{LockRequest}
use Rattle.sql_types.specs.declared.lock.Hold.{Hold}
use Rattle.store_locks.specs.Index.{picked}
use Rattle.store_locks.proofs.Places.{at_has}
use Rattle.store_locks.proofs.Indexes.{picked_has, picked_more}
use Rattle.spec_model.specs.InTheWay.{Holder, barrier, bars, holder_of, least, least_with}

-- the holders that bar a want
abbrev pub barring : List Hold → ℕ → LockRequest → List Holder
barring holds tx request = map holder_of (filter (bars tx request) holds)

abbrev pub with_hold : Bool → Option Holder → Hold → Option Holder
with_hold true best h = least_with best (holder_of h)
with_hold false best h = best

one_barring : (b : Bool) (best : Option Holder) (h : Hold) → fold least_with best (map holder_of (cond b (h ∷ []) [])) ≡ with_hold b best h
one_barring true best h = refl
one_barring false best h = refl

pub barrier_push : (holds : List Hold) (h : Hold) (tx : ℕ) (request : LockRequest) → barrier (holds ++ h ∷ []) tx request ≡ with_hold (bars tx request h) (barrier holds tx request) h
unfolding barrier
barrier_push holds h tx request =
    ap least (ap (map holder_of) (filter-append (bars tx request) holds (h ∷ [])) ∙ map-append holder_of (filter (bars tx request) holds) (filter (bars tx request) (h ∷ [])))
    ∙ (fold-append least_with _ (barring holds tx request) _ ∙ one_barring (bars tx request h) _ h)

pub barrier_none : (holds : List Hold) (tx : ℕ) (request : LockRequest) → barrier (picked holds []) tx request ≡ None
unfolding barrier picked
barrier_none holds tx request = refl

pub blocked_more : (holds : List Hold) (places : List ℕ) (i : ℕ) (h : Hold) (tx : ℕ) (request : LockRequest) → i < length places → slice_get holds (get_or places i 0) ≡ Some h → bars tx request h ≡ true
    → barrier (picked holds (take (i + 1) places)) tx request ≡ least_with (barrier (picked holds (take i places)) tx request) (holder_of h)
blocked_more holds places i h tx request inside at blocked =
    rw (picked_more holds places i h inside at) (barrier_push (picked holds (take i places)) h tx request ∙ ap (λ b. with_hold b (barrier (picked holds (take i places)) tx request) h) blocked)

pub passed_more : (holds : List Hold) (places : List ℕ) (i : ℕ) (h : Hold) (tx : ℕ) (request : LockRequest) → i < length places → slice_get holds (get_or places i 0) ≡ Some h → bars tx request h ≡ false
    → barrier (picked holds (take (i + 1) places)) tx request ≡ barrier (picked holds (take i places)) tx request
passed_more holds places i h tx request inside at passes =
    rw (picked_more holds places i h inside at) (barrier_push (picked holds (take i places)) h tx request ∙ ap (λ b. with_hold b (barrier (picked holds (take i places)) tx request) h) passes)

-- ---- what answers a want

pub none_answers : (holds : List Hold) (test : Hold → Bool) → list_any test (picked holds []) ≡ false
unfolding picked
none_answers holds test = refl

pub answers_more : (holds : List Hold) (places : List ℕ) (i : ℕ) (h : Hold) (test : Hold → Bool) → i < length places → slice_get holds (get_or places i 0) ≡ Some h
    → list_any test (picked holds (take i places)) ≡ false → test h ≡ false → list_any test (picked holds (take (i + 1) places)) ≡ false
answers_more holds places i h test inside at before here =
    rw (picked_more holds places i h inside at) (list_any-append test (picked holds (take i places)) (h ∷ []) ∙ rw (before, here) refl)

pub answers_there : (holds : List Hold) (places : List ℕ) (i : ℕ) (h : Hold) (test : Hold → Bool) → i < length places → slice_get holds (get_or places i 0) ≡ Some h
    → test h ≡ true → list_any test (picked holds places) ≡ true
answers_there holds places i h test inside at here =
    let there = picked_has holds places (get_or places i 0) h (at_has places i inside) at in
    any_passes_from_place test (picked holds places) there.0 h there.1 here
