-- What the side rules of a journal say of one of its items.
use Rattle.std.proofs.Common.{◌≡◌, ◌≢◌, ℕ, ◌+◌, ◌-◌, ◌≤◌, Bool, true, false, List, [], ◌∷◌, ◌++◌, refl, sym, arith}
use Rattle.std.specs.Prelude.{◌==◌, ◌||◌, not}
use Rattle.std.specs.List.{AllByRecursion}
use Rattle.std.proofs.lemmas.Bool.{and_parts, leb-true, eq-eqb}
use Rattle.sql_types.specs.declared.journal.JournalItem.{JournalItem}
use Rattle.sql_types.specs.declared.journal.JournalItem.TheVariants.{Tx, Close}
use Rattle.sql_types.specs.JournalRules.{Line, ItemRules, is_among, ids_differ, closes_follow}
use Rattle.spec_model.specs.Journals.{tx_count, closed, IsOther}

is_not : (b : Bool) → not b ≡ true → b ≡ false
is_not true h = cc
is_not false h = refl

other_id : (own id : ℕ) (rest : Bool) → ((id == own) || rest) ≡ false → own ≢ id
other_id own id rest h e = let same : (id == own) ≡ true = eq-eqb id own (sym e) in cc

rest_false : (a b : Bool) → (a || b) ≡ false → b ≡ false
rest_false true b h = cc
rest_false false b h = h

-- the id of a transaction is none of those before it
ids_before : (ids : List ℕ) (before : List JournalItem) (id : ℕ) (session : List ℕ) (time : ℕ) (explicit : Bool) (lines : List Line)
    (rest : List JournalItem) → ids_differ ids (before ++ Tx id session time explicit lines ∷ rest) ≡ true
    → AllByRecursion (IsOther id) before × (is_among id ids ≡ false)
ids_before ids [] id session time explicit lines rest h = (tt, is_not (is_among id ids) (and_parts _ _ h).0)
ids_before ids (Tx own s t o ls ∷ is) id session time explicit lines rest h =
    let more = ids_before (own ∷ ids) is id session time explicit lines rest (and_parts _ _ h).1 in
    ((other_id own id (is_among id ids) more.1, more.0), rest_false (id == own) (is_among id ids) more.1)
ids_before ids (Close k ∷ is) id session time explicit lines rest h =
    let more = ids_before ids is id session time explicit lines rest h in
    ((tt, more.0), more.1)

pub others : (before : List JournalItem) (id : ℕ) (session : List ℕ) (time : ℕ) (explicit : Bool) (lines : List Line)
    (rest : List JournalItem) → ids_differ [] (before ++ Tx id session time explicit lines ∷ rest) ≡ true
    → AllByRecursion (IsOther id) before
others before id session time explicit lines rest h = (ids_before [] before id session time explicit lines rest h).0

-- a closing takes no more than are pending
closes_before : (pending : ℕ) (before : List JournalItem) (k : ℕ) (rest : List JournalItem)
    → closes_follow pending (before ++ Close k ∷ rest) ≡ true → closed before + k ≤ pending + tx_count before
closes_before pending [] k rest h = omega (arith, leb-true k pending (and_parts _ _ h).0)
closes_before pending (Tx own s t o ls ∷ is) k rest h = omega (arith, closes_before (pending + 1) is k rest h)
closes_before pending (Close j ∷ is) k rest h =
    omega (arith, leb-true j pending (and_parts _ _ h).0, closes_before (pending - j) is k rest (and_parts _ _ h).1)

pub pending_enough : (before : List JournalItem) (k : ℕ) (rest : List JournalItem)
    → closes_follow 0 (before ++ Close k ∷ rest) ≡ true → closed before + k ≤ tx_count before
pending_enough before k rest h = omega (arith, closes_before 0 before k rest h)

pub rules_at : (before : List JournalItem) (i : JournalItem) (rest : List JournalItem)
    → AllByRecursion ItemRules (before ++ i ∷ rest) → ItemRules i
rules_at [] i rest h = h.0
rules_at (x ∷ xs) i rest h = rules_at xs i rest h.1
