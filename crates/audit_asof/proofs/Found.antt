-- What is found in numbers that rise.
use Rattle.std.proofs.Common.{◌≡◌, ◌<◌, ◌∙◌, ◌⊎◌, sym, ap, ℕ, false, List, length, get_or, Result, Ok, Err, inl, inr, ⊎_elim, arith}
use Rattle.std.specs.Prelude.{◌==◌}
use Rattle.std.specs.List.{list_any}
use Rattle.std.specs.Ordering.{nat_cmp}
use Rattle.std.specs.Result.{is_ok}
use Rattle.std.specs.List.Sorted.{IsBinarySearchResult, IsNonDecreasing, IsPermutation, IsSorted}
use Rattle.std.proofs.lemmas.Bool.{cases_lt, eq-eqb, ne_eqb}
use Rattle.std.proofs.lemmas.List.{get_or_default}
use Rattle.std.proofs.lemmas.List.Folds.{list_any_at, list_any_none}
use Rattle.std.proofs.lemmas.List.Sorted.{IsNonDecreasingBy-from_sort, list_any-IsPermutation, searched}
use Rattle.spec_model.specs.Lists.{is_among}

pub rising : (ids : List ℕ) → IsSorted nat_cmp ids → IsNonDecreasing ids
rising ids h = IsNonDecreasingBy-from_sort (λ (n : ℕ). n) ids h

pub same_ids : (all ids then_ids : List ℕ) → ids ≡ all → IsPermutation ids then_ids → (id : ℕ) → is_among then_ids id ≡ is_among all id
same_ids all ids then_ids e p id = sym (list_any-IsPermutation (λ n. n == id) ids then_ids p) ∙ ap (λ (xs : List ℕ). list_any (λ n. n == id) xs) e

pub tells : (ids : List ℕ) (id : ℕ) (r : Result ℕ ℕ) → IsNonDecreasing ids → IsBinarySearchResult (λ y. nat_cmp y id) ids r → is_ok r ≡ is_among ids id
tells ids id (Ok i) up h = let w = searched ids id (Ok i) h (λ a b l k. up a b 0 l k) in
    sym (list_any_at (λ n. n == id) ids i 0 w.0 (eq-eqb (get_or ids i 0) id w.1))
tells ids id (Err i) up h = let w = searched ids id (Err i) h (λ a b l k. up a b 0 l k) in
    sym (list_any_none (λ n. n == id) ids (λ k d l. other k d l (⊎_elim (λ (b : k < i). inl (w.1 k b)) (λ b. inr (w.2 k (omega (arith, b)) l)) (cases_lt k i))))
  where
    other : (k d : ℕ) → k < length ids → (get_or ids k 0 < id) ⊎ (id < get_or ids k 0) → (get_or ids k d == id) ≡ false
    other k d l h = ne_eqb (get_or ids k d) id (λ e. let same = get_or_default ids k d 0 l in ⊎_elim (λ b. omega (arith, b, e, same)) (λ b. omega (arith, b, e, same)) h)
