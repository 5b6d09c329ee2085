-- Ids in an ordered set.
use Rattle.std.proofs.Common.{◌≡◌, ℕ, Bool, true, false, cond, List, [], ◌∷◌, refl, sym, ap, ◌∙◌, arith}
use Rattle.std.specs.Prelude.{◌&&◌, ◌||◌, not, ◌==◌}
use Rattle.std.specs.List.{list_any}
use Rattle.std.specs.Ordering.{nat_cmp}
use Rattle.std.specs.BTreeMap.{is_at}
use Rattle.std.proofs.lemmas.Bool.Decides.{nat_tests}
use Rattle.sql_types.specs.declared.journal.JournalItem.{JournalItem}
use Rattle.sql_types.specs.declared.journal.JournalItem.TheVariants.{Tx, Close}
use Rattle.sql_types.specs.JournalRules.{is_among, ids_differ}

-- two lists of the same ids
abbrev Same : List ℕ → List ℕ → Type 0
Same a b = (q : ℕ) → is_among q a ≡ is_among q b

same_more : (id : ℕ) (a b : List ℕ) → Same a b → Same (id ∷ a) (id ∷ b)
same_more id a b same q = ap (λ c. (q == id) || c) (same q)

differ_same : (items : List JournalItem) (a b : List ℕ) → Same a b → ids_differ a items ≡ ids_differ b items
differ_same [] a b same = refl
differ_same (Tx id session time explicit script ∷ items) a b same = rw (same id, differ_same items (id ∷ a) (id ∷ b) (same_more id a b same)) refl
differ_same (Close k ∷ items) a b same = differ_same items a b same

at_is : (q x : ℕ) → is_at (nat_cmp q) x ≡ (q == x)
at_is q x = grind (arith, nat_tests)

turned : (q x : ℕ) → (q == x) ≡ (x == q)
turned q x = grind (arith, nat_tests)

among_is : (q : ℕ) (keys : List ℕ) → list_any (is_at (nat_cmp q)) keys ≡ is_among q keys
among_is q [] = refl
among_is q (x ∷ keys) = rw (at_is q x, among_is q keys) refl

or_is : (a b : Bool) → cond a true b ≡ (a || b)
or_is true b = refl
or_is false b = refl

-- a set to which an id was added, as the list of those before with it at the front
added : (id : ℕ) (old new : List ℕ)
    → ((q : ℕ) → list_any (is_at (nat_cmp q)) new ≡ cond (is_at (nat_cmp id) q) true (list_any (is_at (nat_cmp q)) old))
    → (items : List JournalItem) → ids_differ (id ∷ old) items ≡ ids_differ new items
added id old new updates items =
    let same : Same (id ∷ old) new = λ q.
    let one : is_among q new ≡ cond (is_at (nat_cmp id) q) true (list_any (is_at (nat_cmp q)) old) = sym (among_is q new) ∙ updates q in
    let two : cond (is_at (nat_cmp id) q) true (list_any (is_at (nat_cmp q)) old) ≡ ((q == id) || is_among q old) = rw (at_is id q, turned id q, among_is q old) (or_is (q == id) (is_among q old)) in
    sym (one ∙ two) in
    differ_same items (id ∷ old) new same

pub inserted : (id : ℕ) (session : List ℕ) (time : ℕ) (explicit : Bool) (script : List (List ℕ × List ℕ))
    (old new : List ℕ) (is_new : Bool) → is_new ≡ not (list_any (is_at (nat_cmp id)) old)
    → ((q : ℕ) → list_any (is_at (nat_cmp q)) new ≡ cond (is_at (nat_cmp id) q) true (list_any (is_at (nat_cmp q)) old))
    → (items : List JournalItem) → ids_differ old (Tx id session time explicit script ∷ items) ≡ (is_new && ids_differ new items)
inserted id session time explicit script old new is_new is updates items = rw (is, among_is id old, added id old new updates items) refl
