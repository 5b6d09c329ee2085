-- What stands side by side in a list that rises.
use Rattle.std.proofs.Common.{◌≡◌, ◌<◌, ◌≤◌, ◌+◌, ℕ, zero, suc, arith, sym, ap, ◌∙◌, false, List, [], ◌∷◌, ◌++◌, length, take, drop, get_or, is_lt, IsSorted, zero-le, suc-le-suc}
use Rattle.std.proofs.lemmas.List.{take-append-drop}
use Rattle.std.proofs.lemmas.List.Sorted.{ranks_by, sorted_far}
use Rattle.std.specs.Cmp.{IsTotalOrder}
use Rattle.std.specs.List.{AllByRecursion}
use Rattle.std.specs.declared.cmp.Ordering.{Ordering}
use Rattle.audit_definitions.proofs.Walks.{from_here}
use Rattle.audit_columns.specs.Runs.{Neighbours}

module _ {A : Type 0} (P : A → Type 0) where
  of_front : (xs : List A) (k : ℕ) (d : A) → ((i : ℕ) → i < k → i < length xs → P (get_or xs i d)) → AllByRecursion P (take k xs)
  of_front xs zero d h = tt
  of_front [] (suc k) d h = tt
  of_front (x ∷ xs) (suc k) d h = (h zero (suc-le-suc zero-le) (suc-le-suc zero-le), of_front xs k d (λ i lt within. h (suc i) (suc-le-suc lt) (suc-le-suc within)))

  of_back : (xs : List A) (k : ℕ) (d : A) → ((i : ℕ) → k ≤ i → i < length xs → P (get_or xs i d)) → AllByRecursion P (drop k xs)
  of_back [] zero d h = tt
  of_back [] (suc k) d h = tt
  of_back (x ∷ xs) zero d h = (h zero zero-le (suc-le-suc zero-le), of_back xs zero d (λ i le within. h (suc i) zero-le (suc-le-suc within)))
  of_back (x ∷ xs) (suc k) d h = of_back xs k d (λ i le within. h (suc i) (suc-le-suc le) (suc-le-suc within))

module _ {A : Type 0} (cmp : A → A → Ordering) (total : IsTotalOrder cmp) (xs : List A) (up : IsSorted cmp xs) where
  far : (i j : ℕ) (d : A) → i ≤ j → j < length xs → is_lt (cmp (get_or xs j d) (get_or xs i d)) ≡ false
  far = sorted_far (λ a b. is_lt (cmp a b)) (ranks_by total (λ x. x)) xs up

  pub neighbours : (k : ℕ) (d : A) → k + 1 < length xs → Neighbours cmp xs (get_or xs k d) (get_or xs (k + 1) d)
  neighbours k d within =
      let u = get_or xs k d in
      let v = get_or xs (k + 1) d in
      record {
        front = take k xs;
        rest = drop (k + 1 + 1) xs;
        whole = sym (take-append-drop k xs) ∙ ap (λ l. take k xs ++ l) (from_here xs k d (omega (arith, within)) ∙ ap (λ l. u ∷ l) (from_here xs (k + 1) d within));
        first = of_front (λ y. is_lt (cmp u y) ≡ false) xs k d (λ i lt inside. far i k d (omega (arith, lt)) (omega (arith, within)));
        order = far k (k + 1) d (omega arith) within;
        behind = of_back (λ y. is_lt (cmp y u) ≡ false) xs (k + 1 + 1) d (λ i le inside. far k i d (omega (arith, le)) inside);
        last = of_back (λ y. is_lt (cmp y v) ≡ false) xs (k + 1 + 1) d (λ i le inside. far (k + 1) i d (omega (arith, le)) inside);
      }

  -- the first, and none of the others is less
  pub first_is : (d : A) → 0 < length xs → xs ≡ get_or xs 0 d ∷ drop 1 xs
  first_is d some = from_here xs 0 d some

  pub behind_first : (d : A) → 0 < length xs → AllByRecursion (λ y. is_lt (cmp y (get_or xs 0 d)) ≡ false) (drop 1 xs)
  behind_first d some = of_back (λ y. is_lt (cmp y (get_or xs 0 d)) ≡ false) xs 1 d (λ i le inside. far 0 i d (omega (arith, le)) inside)
