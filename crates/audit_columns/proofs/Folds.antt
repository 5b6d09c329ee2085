-- What is gathered from a list, and from the list sorted.
use Rattle.std.proofs.Common.{◌≡◌, refl, sym, ap, ◌∙◌, Bool, true, false, cond, List, [], ◌∷◌}
use Rattle.std.specs.declared.cmp.Ordering.{Ordering}
use Rattle.std.specs.Ordering.{is_gt}
use Rattle.spec_model.specs.Lists.{inserted, sorted}

-- where steps of elements that sorting exchanges may be exchanged, sorting changes nothing
module _ {A B : Type 0} (cmp : A → A → Ordering) (step : A → B → B) (all : List A → B)
    (next : (x : A) (xs : List A) → all (x ∷ xs) ≡ step x (all xs))
    (exchange : (x y : A) (b : B) → is_gt (cmp x y) ≡ true → step y (step x b) ≡ step x (step y b)) where
  inserted_is : (x : A) (ys : List A) → all (inserted cmp x ys) ≡ all (x ∷ ys)
  inserted_is x [] = refl
  inserted_is x (y ∷ ys) = here (is_gt (cmp x y)) refl (inserted_is x ys)
    where
      here : (b : Bool) → is_gt (cmp x y) ≡ b → all (inserted cmp x ys) ≡ all (x ∷ ys) → all (cond b (y ∷ inserted cmp x ys) (x ∷ y ∷ ys)) ≡ all (x ∷ y ∷ ys)
      here false is more = refl
      here true is more =
          next y (inserted cmp x ys) ∙ ap (step y) (more ∙ next x ys) ∙ exchange x y (all ys) is
          ∙ ap (step x) (sym (next y ys)) ∙ sym (next x (y ∷ ys))

  pub sorted_is : (xs : List A) → all (sorted cmp xs) ≡ all xs
  sorted_is [] = refl
  sorted_is (x ∷ xs) = inserted_is x (sorted cmp xs) ∙ next x (sorted cmp xs) ∙ ap (step x) (sorted_is xs) ∙ sym (next x xs)
