-- Wants looked at one after another.
use Rattle.std.specs.Result.{IsErrAnd}
use Rattle.std.specs.Prelude.{◌≢◌, Result}
use Rattle.std.proofs.Common.{◌≡◌, ◌<◌, ◌≤◌, ◌+◌, ℕ, List, [], ◌∷◌, ◌++◌, take, drop, length, get_or, Option, Some, None, Ok, Err, refl, sym, ap, subst, ◌∙◌, true, false, Bool, cond, arith}
use Rattle.std.proofs.lemmas.List.{drop_more, drop_all, take-append-le, take_all, length_push}
use Rattle.sql_types.specs.declared.lock.LockRequest.{LockRequest}
use Rattle.sql_types.specs.declared.lock.Hold.{Hold}
use Rattle.spec_model.specs.Holds.{hold, holds_request, with_request, holds_after}
use Rattle.spec_model.specs.InTheWay.{Conflict, Holder, barrier, conflict_or, first_conflict}
use Rattle.store_locks.specs.Asked.{IsMeant, refused_or}
use Rattle.store_locks.specs.declared.lock_err.LockErr.{LockErr}
use Rattle.store_locks.specs.declared.lock_err.LockErr.TheVariants.{Locked, Memory}
use Rattle.sql_types.specs.declared.lock.Item.{Item}

pub conflict_more : (holds : List Hold) (tx : ℕ) (requests : List LockRequest) (i : ℕ) (w : LockRequest) → i < length requests → w ≡ get_or requests i w
    → first_conflict holds tx (drop i requests) ≡ conflict_or (barrier holds tx w) w.item (first_conflict holds tx (drop (i + 1) requests))
unfolding first_conflict
conflict_more holds tx requests i w inside is = rw (drop_more requests i w inside, ← is) refl

pub conflict_all : (holds : List Hold) (tx : ℕ) (requests : List LockRequest) (i : ℕ) → length requests ≤ i → first_conflict holds tx (drop i requests) ≡ None
unfolding first_conflict
conflict_all holds tx requests i past = rw (drop_all i requests past) refl

pub after_more : (holds : List Hold) (tx : ℕ) (requests : List LockRequest) (i : ℕ) (w : LockRequest) → i < length requests → w ≡ get_or requests i w
    → holds_after holds tx (drop i requests) ≡ holds_after (with_request holds tx w) tx (drop (i + 1) requests)
unfolding holds_after
after_more holds tx requests i w inside is = rw (drop_more requests i w inside, ← is) refl

pub after_all : (holds : List Hold) (tx : ℕ) (requests : List LockRequest) (i : ℕ) → length requests ≤ i → holds_after holds tx (drop i requests) ≡ holds
unfolding holds_after
after_all holds tx requests i past = rw (drop_all i requests past) refl

-- ---- what is held stays in front

grown_by : (b : Bool) (front holds : List Hold) (h : Hold) → take (length front) holds ≡ front → length front ≤ length holds
    → take (length front) (cond b holds (holds ++ h ∷ [])) ≡ front
grown_by true front holds h is more = is
grown_by false front holds h is more = take-append-le (length front) holds (h ∷ []) more ∙ is

pub grown : (front holds : List Hold) (tx : ℕ) (w : LockRequest) → take (length front) holds ≡ front → length front ≤ length holds
    → take (length front) (with_request holds tx w) ≡ front
grown front holds tx w is more = grown_by (holds_request holds tx w) front holds (hold tx w) is more

longer_by : (b : Bool) (n : ℕ) (holds : List Hold) (h : Hold) → n ≤ length holds → n ≤ length (cond b holds (holds ++ h ∷ []))
longer_by true n holds h more = more
longer_by false n holds h more = omega (arith, length_push holds h)

pub longer : (front holds : List Hold) (tx : ℕ) (w : LockRequest) → length front ≤ length holds → length front ≤ length (with_request holds tx w)
longer front holds tx w more = longer_by (holds_request holds tx w) (length front) holds (hold tx w) more

-- ---- refusals

pub refused_more : (holds : List Hold) (tx : ℕ) (requests : List LockRequest) (i : ℕ) (w : LockRequest) (b : Holder) (item : Item) → i < length requests → w ≡ get_or requests i w
    → first_conflict holds tx (drop i requests) ≡ first_conflict holds tx requests → barrier holds tx w ≡ Some b → item ≡ w.item
    → first_conflict holds tx requests ≡ Some (b, item)
refused_more holds tx requests i w b item inside is so_far blocked same =
    let step = conflict_more holds tx requests i w inside is in
    sym so_far ∙ (step ∙ rw (blocked, same) refl)

pub admitted_more : (holds : List Hold) (tx : ℕ) (requests : List LockRequest) (i : ℕ) (w : LockRequest) → i < length requests → w ≡ get_or requests i w
    → first_conflict holds tx (drop i requests) ≡ first_conflict holds tx requests → barrier holds tx w ≡ None
    → first_conflict holds tx (drop (i + 1) requests) ≡ first_conflict holds tx requests
admitted_more holds tx requests i w inside is so_far passes =
    let step = conflict_more holds tx requests i w inside is in
    sym (step ∙ rw passes refl) ∙ so_far

pub same_refusal : {A B : Type 0} (o : Option Conflict) (a : A) (b : B) (e : LockErr) → refused_or o a ≡ Err e → refused_or o b ≡ Err e
same_refusal None a b e is = absurd cc
same_refusal (Some c) a b e is = let same : Locked c.0.0 c.1 c.0.1 ≡ e = cc in ap Err same

pub not_refused : {A B : Type 0} (o : Option Conflict) (a : A) (b : B) → refused_or o a ≡ Ok a → refused_or o b ≡ Ok b
not_refused None a b is = refl
not_refused (Some c) a b is = absurd cc

-- a refusal goes on as it came
pub kept_refusal : {A B : Type 0} (o : Option Conflict) (a : A) (b : B) (r : Result B LockErr) (e : LockErr) → IsErrAnd r (λ x. x ≡ e)
    → (e ≢ Memory → refused_or o a ≡ Err e) → IsMeant (refused_or o b) r
kept_refusal o a b (Ok x) e is told = absurd is
kept_refusal o a b (Err x) e is told = λ other. subst (λ y. refused_or o b ≡ Err y) (sym is) (same_refusal o a b e (told (λ m. other (is ∙ m))))

-- ---- going back

grown_all : (front holds : List Hold) (tx : ℕ) (requests : List LockRequest) → take (length front) holds ≡ front → length front ≤ length holds
    → take (length front) (holds_after holds tx requests) ≡ front
unfolding holds_after
grown_all front holds tx [] is more = is
grown_all front holds tx (w ∷ ws) is more = grown_all front (with_request holds tx w) tx ws (grown front holds tx w is more) (longer front holds tx w more)

pub back_restores : (holds : List Hold) (tx : ℕ) (requests : List LockRequest) → take (length holds) (holds_after holds tx requests) ≡ holds
back_restores holds tx requests = grown_all holds holds tx requests (take_all (length holds) holds (omega arith)) (omega arith)
