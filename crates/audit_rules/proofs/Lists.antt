-- Tests of lists that are mapped or filtered.
use Rattle.std.proofs.Common.{◌≡◌, refl, ap, ◌∙◌, Bool, true, false, cond, List, [], ◌∷◌, ◌++◌, map, filter}
use Rattle.std.specs.Prelude.{◌&&◌, ◌||◌}
use Rattle.std.specs.List.{list_all, list_any}

module _ {A B : Type 0} (f : A → B) where
  pub any_mapped : (p : B → Bool) (xs : List A) → list_any p (map f xs) ≡ list_any (λ x. p (f x)) xs
  any_mapped p [] = refl
  any_mapped p (x ∷ xs) = ap (λ b. p (f x) || b) (any_mapped p xs)

  pub all_mapped : (p : B → Bool) (xs : List A) → list_all p (map f xs) ≡ list_all (λ x. p (f x)) xs
  all_mapped p [] = refl
  all_mapped p (x ∷ xs) = ap (λ b. p (f x) && b) (all_mapped p xs)

module _ {A : Type 0} where
  pub any_filtered : (p q : A → Bool) (xs : List A) → list_any p (filter q xs) ≡ list_any (λ x. q x && p x) xs
  any_filtered p q [] = refl
  any_filtered p q (x ∷ xs) = here (q x) (any_filtered p q xs)
    where
      here : (b : Bool) → list_any p (filter q xs) ≡ list_any (λ x. q x && p x) xs → list_any p (cond b (x ∷ filter q xs) (filter q xs)) ≡ ((b && p x) || list_any (λ x. q x && p x) xs)
      here true more = ap (λ b. p x || b) more
      here false more = more

module _ {A : Type 0} (p : A → Bool) where
  pub all_append : (xs ys : List A) → list_all p (xs ++ ys) ≡ (list_all p xs && list_all p ys)
  all_append [] ys = refl
  all_append (x ∷ xs) ys = ap (λ b. p x && b) (all_append xs ys) ∙ and_assoc (p x) (list_all p xs) (list_all p ys)
    where
      and_assoc : (a b c : Bool) → (a && (b && c)) ≡ ((a && b) && c)
      and_assoc true b c = refl
      and_assoc false b c = refl
