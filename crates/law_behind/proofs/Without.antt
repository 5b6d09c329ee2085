-- What a history tells without its first sessions, which are over, it tells of the others.
use Rattle.std.proofs.Common.{◌≡◌, ◌≢◌, ℕ, zero, suc, ◌+◌, ◌-◌, ◌<◌, ◌≤◌, Bool, true, false, List, [], ◌∷◌, ◌++◌, Option, Some, None, refl, sym, ap, ◌∙◌, subst, ⊎_elim, arith}
use Rattle.std.specs.Prelude.{◌==◌, if◌then◌else◌}
use Rattle.std.proofs.lemmas.Bool.{cases_eq, eq-eqb, ne_eqb}
use Rattle.spec_history.specs.Lists.{Text}
use Rattle.spec_history.specs.Meaning.{Meaning}
use Rattle.spec_history.specs.Serial.{serial}
use Rattle.spec_history.specs.Transactions.{Transaction}
use Rattle.spec_history.specs.Transcripts.{end_of_session}
use Rattle.spec_history.specs.Acts.{SessionAct, says, meets, commits, issues, answers, Act, by, closes, of}
use Rattle.spec_history.specs.Sessions.{SessionTransaction, SessionState, viewed}
use Rattle.spec_history.specs.Worlds.{World, step}
use Rattle.spec_history.specs.Guards.{IsEnabledFor, Good}
use Rattle.spec_history.specs.Histories.{ClosesInStep, Due, EndsComeLast, IsIdle, OneAtATime, SessionsBelow, digest_next, full, full_or, line_by, lines_of, pending}
use Rattle.spec_history.specs.ExactRefusals.{HeldStatement, held_beside, held_by, in_the_way}
use Rattle.spec_history.specs.ByLocks.{IsByLocks, LocksDecide, in_its_way}
use Rattle.law_behind.specs.Forgotten.{without, IsWithout}
use Rattle.law_behind.proofs.Forgotten.{among_others, closed_then, its, without_then}

-- ---- closings

pub closes_without : (count N : ℕ) (due : Due) (es : List Act) → ClosesInStep N due es → ClosesInStep N due (without count es)
closes_without count N (pending p) [] c = c
closes_without count N (pending p) (closes k ∷ es) c = (c.0, c.1, closes_without count N digest_next es c.2)
closes_without count N (pending p) (by s (commits time place) ∷ es) c = closes_without count N (full_or (suc p == N) (suc p)) es c
closes_without count N (pending p) (by s (issues d mark) ∷ es) c = (c.0, closes_without count N (pending 0) es c.1)
closes_without count N (pending p) (by s a ∷ es) c = closes_without count N (pending p) es c
closes_without count N full [] c = c
closes_without count N full (closes k ∷ es) c = (c.0, closes_without count N (pending 0) es c.1)
closes_without count N full (by s a ∷ es) c = (c.0, closes_without count N full es c.1)
closes_without count N digest_next [] c = c
closes_without count N digest_next (closes k ∷ es) c = c
closes_without count N digest_next (by s (issues d mark) ∷ es) c = closes_without count N (pending 0) es c
closes_without count N digest_next (by s a ∷ es) c = c

-- ---- whose locks stand

held_none : (s k : ℕ) (opens : ℕ → Option Transaction) → ((t : ℕ) → t < k → opens t ≡ None) → held_beside s k opens ≡ []
held_none s zero opens none = refl
held_none s (suc k) opens none = λ i. held_none s k opens (λ t l. none t (omega (arith, l))) i ++ either (k == s) (held_by (opens k)) (ap held_by (none k (omega arith))) i
  where
    either : (b : Bool) (hs : List HeldStatement) → hs ≡ [] → (if b then [] else hs) ≡ []
    either true hs e = refl
    either false hs e = e

same_place : (count s n k : ℕ) → s ≡ count + n → (k == n) ≡ ((count + k) == s)
same_place count s n k e = ⊎_elim
    (λ (same : k ≡ n). eq-eqb k n same ∙ sym (eq-eqb (count + k) s (let also : count + k ≡ s = omega (arith, e, same) in also)))
    (λ (ne : k ≢ n). ne_eqb k n ne ∙ sym (ne_eqb (count + k) s (λ same. ne (let also : k ≡ n = omega (arith, e, same) in also))))
    (cases_eq k n)

module _ (count s n : ℕ) (number : s ≡ count + n) (opens others : ℕ → Option Transaction) (none : (t : ℕ) → t < count → opens t ≡ None) (same : (t : ℕ) → others t ≡ opens (count + t)) where
  held_same : (k m : ℕ) → m ≡ count + k → held_beside n k others ≡ held_beside s m opens
  held_same zero m e = sym (held_none s m opens (λ t l. none t (omega (arith, e, l))))
  held_same (suc k) m e =
      let before : held_beside n k others ≡ held_beside s (count + k) opens = held_same k (count + k) refl in
      let more : held_beside n (suc k) others ≡ held_beside s (suc (count + k)) opens = λ i. before i ++ (if same_place count s n k number i then [] else held_by (same k i)) in
      more ∙ ap (λ (j : ℕ). held_beside s j opens) (let last : suc (count + k) ≡ m = omega (arith, e) in last)

module _ (q : Meaning) (db : Text) (count : ℕ) where
  -- ---- parts

  numbers : (s n : ℕ) → count ≤ s → ((s - count) == n) ≡ (s == (count + n))
  numbers s n l = ⊎_elim
      (λ (same : s - count ≡ n). eq-eqb (s - count) n same ∙ sym (eq-eqb s (count + n) (let also : s ≡ count + n = omega (arith, l, same) in also)))
      (λ (ne : s - count ≢ n). ne_eqb (s - count) n ne ∙ sym (ne_eqb s (count + n) (λ same. ne (let also : s - count ≡ n = omega (arith, same) in also))))
      (cases_eq (s - count) n)

  pub of_without : (n : ℕ) (es : List Act) (w v : World) → IsWithout count w v → Good q db w es → of n (without count es) ≡ of (count + n) es
  of_without n [] w v z g = refl
  of_without n (by s a ∷ es) w v z g =
      let rest = of_without n es (step w (by s a)) (step v (by (s - count) a)) (without_then q db count w v z s a g.0) g.1 in
      λ i. if numbers s n (among_others q db count w v z s a g.0) i then a ∷ rest i else rest i
  of_without n (closes k ∷ es) w v z g = of_without n es (step w (closes k)) (step v (closes k)) (closed_then q db count w v k z) g.1

  pub below_without : (k : ℕ) (es : List Act) (w v : World) → IsWithout count w v → Good q db w es → SessionsBelow (count + k) es → SessionsBelow k (without count es)
  below_without k [] w v z g b = tt
  below_without k (by s a ∷ es) w v z g b = (
    (let l = among_others q db count w v z s a g.0 in let m = b.0 in omega (arith, l, m)),
    below_without k es (step w (by s a)) (step v (by (s - count) a)) (without_then q db count w v z s a g.0) g.1 b.1,
  )
  below_without k (closes n ∷ es) w v z g b = below_without k es (step w (closes n)) (step v (closes n)) (closed_then q db count w v n z) g.1 b

  -- ---- one statement after another

  pub alone_without : (es : List Act) (w v : World) → IsWithout count w v → Good q db w es → OneAtATime w es → OneAtATime v (without count es)
  alone_without [] w v z g h = tt
  alone_without (by s a ∷ es) w v z g h = (
    λ t ne. subst IsIdle (sym (z.at t)) (h.0 (count + t) (λ e. ne (let same : t ≡ s - count = omega (arith, e) in same))),
    alone_without es (step w (by s a)) (step v (by (s - count) a)) (without_then q db count w v z s a g.0) g.1 h.1,
  )
  alone_without (closes k ∷ es) w v z g h = alone_without es (step w (closes k)) (step v (closes k)) (closed_then q db count w v k z) g.1 h

  pub lines_without : (es : List Act) (w v : World) → IsWithout count w v → Good q db w es → lines_of v (without count es) ≡ lines_of w es
  lines_without [] w v z g = refl
  lines_without (by s a ∷ es) w v z g =
      let rest = lines_without es (step w (by s a)) (step v (by (s - count) a)) (without_then q db count w v z s a g.0) g.1 in
      λ i. line_by (its q db count w v z s a g.0 i) a ++ rest i
  lines_without (closes k ∷ es) w v z g = lines_without es (step w (closes k)) (step v (closes k)) (closed_then q db count w v k z) g.1

  pub ends_without : (es : List Act) (w v : World) → IsWithout count w v → Good q db w es → EndsComeLast w es → EndsComeLast v (without count es)
  ends_without [] w v z g h = tt
  ends_without (by s (answers (end_of_session end)) ∷ es) w v z g h =
      let a : SessionAct = answers (end_of_session end) in
      let after : IsWithout count (step w (by s a)) (step v (by (s - count) a)) = without_then q db count w v z s a g.0 in
      (lines_without es (step w (by s a)) (step v (by (s - count) a)) after g.1 ∙ h.0, ends_without es (step w (by s a)) (step v (by (s - count) a)) after g.1 h.1)
  ends_without (by s a ∷ es) w v z g h = ends_without es (step w (by s a)) (step v (by (s - count) a)) (without_then q db count w v z s a g.0) g.1 h
  ends_without (closes k ∷ es) w v z g h = ends_without es (step w (closes k)) (step v (closes k)) (closed_then q db count w v k z) g.1 h

  -- ---- locks

  module _ (k : ℕ) (w v : World) (z : IsWithout count w v) (s : ℕ) (a : SessionAct) (g : IsEnabledFor q db w s a) where
    number_is : s ≡ count + (s - count)
    number_is = let l = among_others q db count w v z s a g in omega (arith, l)

    in_way_so : (d : SessionTransaction) (text : Text) → in_its_way q k v (s - count) d text ≡ in_its_way q (count + k) w s d text
    in_way_so d text = λ i. in_the_way q (q.defs (serial q q.first (z.items i)))
        (held_same count s (s - count) number_is (λ t. viewed (w.at t).transaction) (λ t. viewed (v.at t).transaction) (λ t l. ap viewed (z.free t l)) (λ t. ap (λ (x : SessionState). viewed x.transaction) (z.at t)) k (count + k) refl i)
        d.id d.explicit text

    there_so : (d : SessionTransaction) → (v.at (s - count)).transaction ≡ Some d → (w.at s).transaction ≡ Some d
    there_so d e = ap (λ (x : SessionState). x.transaction) (sym (its q db count w v z s a g)) ∙ e

  by_locks_so : (k : ℕ) (w v : World) (z : IsWithout count w v) (s : ℕ) (a : SessionAct) → IsEnabledFor q db w s a → IsByLocks q (count + k) w s a → IsByLocks q k v (s - count) a
  by_locks_so k w v z s (says line) g h = λ d e. in_way_so k w v z s (says line) g d line.0 ∙ h d (there_so k w v z s (says line) g d e)
  by_locks_so k w v z s (meets text holder) g h = λ d e. in_way_so k w v z s (meets text holder) g d text ∙ h d (there_so k w v z s (meets text holder) g d e)
  by_locks_so k w v z s a g h = tt

  pub locks_without : (k : ℕ) (es : List Act) (w v : World) → IsWithout count w v → Good q db w es → LocksDecide q (count + k) w es → LocksDecide q k v (without count es)
  locks_without k [] w v z g h = tt
  locks_without k (by s a ∷ es) w v z g h = (
    by_locks_so k w v z s a g.0 h.0,
    locks_without k es (step w (by s a)) (step v (by (s - count) a)) (without_then q db count w v z s a g.0) g.1 h.1,
  )
  locks_without k (closes n ∷ es) w v z g h = locks_without k es (step w (closes n)) (step v (closes n)) (closed_then q db count w v n z) g.1 h
