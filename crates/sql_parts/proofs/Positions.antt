-- The first item that passes a test, in two lists one behind the other.
use Rattle.std.proofs.Common.{◌≡◌, ◌+◌, ℕ, suc, refl, ap, sym, ◌∙◌, Bool, true, false, cond, List, [], ◌∷◌, ◌++◌, map, length, Option, Some, None, slice_get, arith}
use Rattle.std.proofs.lemmas.Iterator.Adapters.{position_from-zero}
use Rattle.std.specs.List.{position_from}
use Rattle.std.specs.Prelude.{option_map, option_and_then, position}
use Rattle.spec_model.specs.Lists.{or_else}

abbrev pub first : {A : Type 0} → (A → Bool) → List A → Option ℕ
first test [] = None
first test (x ∷ xs) = cond (test x) (Some 0) (option_map suc (first test xs))

-- ---- it is `position`

later : (b : Bool) (i : ℕ) (r : Option ℕ) → cond b (Some i) (option_map (λ n. i + 1 + n) r) ≡ option_map (λ n. i + n) (cond b (Some 0) (option_map suc r))
later true i r = ap Some (omega arith)
later false i None = refl
later false i (Some n) = ap Some (omega arith)

from_first : {A : Type 0} (test : A → Bool) (i : ℕ) (xs : List A) → position_from test i xs ≡ option_map (λ n. i + n) (first test xs)
from_first test i [] = refl
from_first test i (x ∷ xs) = ap (cond (test x) (Some i)) (from_first test (i + 1) xs) ∙ later (test x) i (first test xs)

as_it_is : (r : Option ℕ) → option_map (λ n. 0 + n) r ≡ r
as_it_is None = refl
as_it_is (Some n) = ap Some (omega arith)

pub is_first : {A : Type 0} (test : A → Bool) (xs : List A) → position test xs ≡ first test xs
is_first test xs = position_from-zero test xs ∙ from_first test 0 xs ∙ as_it_is (first test xs)

-- ---- in both lists

further : (b : Bool) (n : ℕ) (r s : Option ℕ)
    → cond b (Some 0) (option_map suc (or_else r (option_map (λ k. n + k) s))) ≡ or_else (cond b (Some 0) (option_map suc r)) (option_map (λ k. suc n + k) s)
further true n r s = refl
further false n (Some k) s = refl
further false n None (Some k) = ap Some (omega arith)
further false n None None = refl

first_both : {A : Type 0} (test : A → Bool) (xs ys : List A) → first test (xs ++ ys) ≡ or_else (first test xs) (option_map (λ k. length xs + k) (first test ys))
first_both test [] ys = sym (as_it_is (first test ys))
first_both test (x ∷ xs) ys = ap (λ r. cond (test x) (Some 0) (option_map suc r)) (first_both test xs ys) ∙ further (test x) (length xs) (first test xs) (first test ys)

pub position_both : {A : Type 0} (test : A → Bool) (xs ys : List A) → position test (xs ++ ys) ≡ or_else (position test xs) (option_map (λ k. length xs + k) (position test ys))
position_both test xs ys =
    is_first test (xs ++ ys) ∙ first_both test xs ys
    ∙ (λ i. or_else (sym (is_first test xs) i) (option_map (λ k. length xs + k) (sym (is_first test ys) i)))

-- ---- the item itself

abbrev pub found : {A : Type 0} → (A → Bool) → List A → Option A
found test [] = None
found test (x ∷ xs) = cond (test x) (Some x) (found test xs)

item_of : {A : Type 0} (b : Bool) (x : A) (xs : List A) (r : Option ℕ) → option_and_then (slice_get (x ∷ xs)) (cond b (Some 0) (option_map suc r)) ≡ cond b (Some x) (option_and_then (slice_get xs) r)
item_of true x xs r = refl
item_of false x xs None = refl
item_of false x xs (Some n) = refl

is_found : {A : Type 0} (test : A → Bool) (xs : List A) → option_and_then (slice_get xs) (first test xs) ≡ found test xs
is_found test [] = refl
is_found test (x ∷ xs) = item_of (test x) x xs (first test xs) ∙ ap (cond (test x) (Some x)) (is_found test xs)

found_more : {A : Type 0} (b : Bool) (x : A) (r s : Option A) → cond b (Some x) (or_else r s) ≡ or_else (cond b (Some x) r) s
found_more true x r s = refl
found_more false x r s = refl

found_both : {A : Type 0} (test : A → Bool) (xs ys : List A) → found test (xs ++ ys) ≡ or_else (found test xs) (found test ys)
found_both test [] ys = refl
found_both test (x ∷ xs) ys = ap (cond (test x) (Some x)) (found_both test xs ys) ∙ found_more (test x) x (found test xs) (found test ys)

pub at_first : {A : Type 0} (test : A → Bool) (xs : List A) → option_and_then (slice_get xs) (position test xs) ≡ found test xs
at_first test xs = ap (option_and_then (slice_get xs)) (is_first test xs) ∙ is_found test xs

pub item_both : {A : Type 0} (test : A → Bool) (xs ys : List A)
    → option_and_then (slice_get (xs ++ ys)) (position test (xs ++ ys)) ≡ or_else (option_and_then (slice_get xs) (position test xs)) (option_and_then (slice_get ys) (position test ys))
item_both test xs ys = at_first test (xs ++ ys) ∙ found_both test xs ys ∙ (λ i. or_else (sym (at_first test xs) i) (sym (at_first test ys) i))

-- ---- in what a function gives of each

first_map : {A B : Type 0} (test : B → Bool) (f : A → B) (xs : List A) → first test (map f xs) ≡ first (λ x. test (f x)) xs
first_map test f [] = refl
first_map test f (x ∷ xs) = ap (λ r. cond (test (f x)) (Some 0) (option_map suc r)) (first_map test f xs)

pub position_map : {A B : Type 0} (test : B → Bool) (f : A → B) (xs : List A) → position test (map f xs) ≡ position (λ x. test (f x)) xs
position_map test f xs = is_first test (map f xs) ∙ first_map test f xs ∙ sym (is_first (λ x. test (f x)) xs)
