-- What sorting leaves: filters, parts of which one is below the other, orders that agree.
use Rattle.std.proofs.Common.{◌≡◌, Bool, true, false, cond, List, [], ◌∷◌, ◌++◌, filter, is_lt, refl, sym, ap, ap₂, ◌∙◌}
use Rattle.std.specs.List.{AllByRecursion}
use Rattle.std.specs.Cmp.{IsTotalOrder}
use Rattle.std.specs.List.Sorted.{ties}
use Rattle.std.specs.Ordering.{is_gt}
use Rattle.std.specs.declared.cmp.Ordering.{Ordering}
use Rattle.std.proofs.lemmas.Bool.{cond-false, cond_both}
use Rattle.std.proofs.lemmas.List.Kept.{IsSortedBy-filter}
use Rattle.std.proofs.lemmas.List.Sorted.{ranks_by}
use Rattle.spec_model.specs.Lists.{inserted, sorted}
use Rattle.sql_parts.proofs.Sorting.{sorted_stably, is_sorted, is_stable}

-- two filters in either order
filter_swap : {A : Type 0} (p q : A → Bool) (xs : List A) → filter q (filter p xs) ≡ filter p (filter q xs)
filter_swap p q [] = refl
filter_swap {A} p q (x ∷ xs) = by (p x) (q x) refl refl (filter_swap p q xs)
  where
    by : (b c : Bool) → p x ≡ b → q x ≡ c → filter q (filter p xs) ≡ filter p (filter q xs)
        → filter q (cond b (x ∷ filter p xs) (filter p xs)) ≡ filter p (cond c (x ∷ filter q xs) (filter q xs))
    by true true e f rest =
        ap (λ (b : Bool). cond b (x ∷ filter q (filter p xs)) (filter q (filter p xs))) f
        ∙ ap (λ (l : List A). x ∷ l) rest
        ∙ sym (ap (λ (b : Bool). cond b (x ∷ filter p (filter q xs)) (filter p (filter q xs))) e)
    by true false e f rest = ap (λ (b : Bool). cond b (x ∷ filter q (filter p xs)) (filter q (filter p xs))) f ∙ rest
    by false true e f rest = rest ∙ sym (ap (λ (b : Bool). cond b (x ∷ filter p (filter q xs)) (filter p (filter q xs))) e)
    by false false e f rest = rest

-- those that pass of a sorted list are those that pass, sorted
pub filter_sorted : {A : Type 0} (cmp : A → A → Ordering) → IsTotalOrder cmp → (p : A → Bool) (xs : List A) → filter p (sorted cmp xs) ≡ sorted cmp (filter p xs)
filter_sorted {A} cmp total p xs =
    let less : A → A → Bool = λ (x y : A). is_lt (cmp x y) in
    sorted_stably cmp total (filter p xs) (filter p (sorted cmp xs))
    (IsSortedBy-filter less (ranks_by total (λ (x : A). x)) p (sorted cmp xs) (is_sorted cmp total xs))
    (λ x. filter_swap p (ties less x) (sorted cmp xs) ∙ ap (filter p) (is_stable cmp total xs x) ∙ filter_swap (ties less x) p xs)

module _ {A : Type 0} (cmp : A → A → Ordering) where
  all_inserted : (P : A → Type 0) (x : A) (ys : List A) → P x → AllByRecursion P ys → AllByRecursion P (inserted cmp x ys)
  all_inserted P x [] px all = (px, tt)
  all_inserted P x (y ∷ ys) px all = cond_both (is_gt (cmp x y)) (y ∷ inserted cmp x ys) (x ∷ y ∷ ys) (AllByRecursion P)
      (λ e. (all.0, all_inserted P x ys px all.1)) (λ e. (px, all))

  -- what holds of all holds of all when they are sorted
  pub all_sorted : (P : A → Type 0) (xs : List A) → AllByRecursion P xs → AllByRecursion P (sorted cmp xs)
  all_sorted P [] all = tt
  all_sorted P (x ∷ xs) all = all_inserted P x (sorted cmp xs) all.0 (all_sorted P xs all.1)

  -- x is above none of these
  abbrev pub IsBelow : List A → A → Type 0
  IsBelow ys x = AllByRecursion (λ y. is_gt (cmp x y) ≡ false) ys

  put_in_front : (x : A) (xs ys : List A) → IsBelow ys x → inserted cmp x (xs ++ ys) ≡ inserted cmp x xs ++ ys
  put_in_front x [] [] below = refl
  put_in_front x [] (y ∷ ys) below = cond-false (is_gt (cmp x y)) (y ∷ inserted cmp x ys) (x ∷ y ∷ ys) below.0
  put_in_front x (z ∷ zs) ys below = by (is_gt (cmp x z)) (put_in_front x zs ys below)
    where
      by : (b : Bool) → inserted cmp x (zs ++ ys) ≡ inserted cmp x zs ++ ys
          → cond b (z ∷ inserted cmp x (zs ++ ys)) (x ∷ z ∷ (zs ++ ys)) ≡ cond b (z ∷ inserted cmp x zs) (x ∷ z ∷ zs) ++ ys
      by true rest = ap (λ (l : List A). z ∷ l) rest
      by false rest = refl

  -- two parts of which none of the first is above one of the second are sorted each
  pub sorted_parts : (xs ys : List A) → AllByRecursion (IsBelow ys) xs → sorted cmp (xs ++ ys) ≡ sorted cmp xs ++ sorted cmp ys
  sorted_parts [] ys all = refl
  sorted_parts (x ∷ xs) ys all =
      ap (inserted cmp x) (sorted_parts xs ys all.1)
      ∙ put_in_front x (sorted cmp xs) (sorted cmp ys) (all_sorted (λ y. is_gt (cmp x y) ≡ false) ys all.0)

-- two orders that agree among these sort them alike
module _ {A : Type 0} (f g : A → A → Ordering) (P : A → Type 0) (agree : (x y : A) → P x → P y → f x y ≡ g x y) where
  inserted_agree : (x : A) (ys : List A) → P x → AllByRecursion P ys → inserted f x ys ≡ inserted g x ys
  inserted_agree x [] px all = refl
  inserted_agree x (y ∷ ys) px all = ap₂ (λ (o : Ordering) (l : List A). cond (is_gt o) (y ∷ l) (x ∷ y ∷ ys)) (agree x y px all.0) (inserted_agree x ys px all.1)

  pub sorted_agree : (xs : List A) → AllByRecursion P xs → sorted f xs ≡ sorted g xs
  sorted_agree [] all = refl
  sorted_agree (x ∷ xs) all = inserted_agree x (sorted f xs) all.0 (all_sorted f P xs all.1) ∙ ap (inserted g x) (sorted_agree xs all.1)
