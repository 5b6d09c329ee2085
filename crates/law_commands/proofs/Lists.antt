-- Parts of lists.
use Rattle.std.proofs.Common.{◌≡◌, ◌⊎◌, List, [], ◌∷◌, ◌++◌, map, refl, subst, inr, ⊎_elim}
use Rattle.spec_history.specs.Lists.{Each, In}

pub each_front : {A : Type 0} (P : A → Type 0) (xs ys : List A) → Each P (xs ++ ys) → Each P xs
each_front P [] ys h = tt
each_front P (x ∷ xs) ys h = (h.0, each_front P xs ys h.1)

pub each_back : {A : Type 0} (P : A → Type 0) (xs ys : List A) → Each P (xs ++ ys) → Each P ys
each_back P [] ys h = h
each_back P (x ∷ xs) ys h = each_back P xs ys h.1

pub each_of : {A : Type 0} (P : A → Type 0) (xs : List A) (x : A) → Each P xs → In x xs → P x
each_of P [] x h i = absurd i
each_of P (y ∷ ys) x h i = ⊎_elim (λ (e : y ≡ x). subst P e h.0) (λ k. each_of P ys x h.1 k) i

-- what holds of each of some values holds of the one that is made of an element
pub each_made : {A B : Type 0} (P : B → Type 0) (f : A → B) (xs : List A) (x : A) → Each P (map f xs) → In x xs → P (f x)
each_made P f [] x h i = absurd i
each_made P f (y ∷ ys) x h i = ⊎_elim (λ (e : y ≡ x). subst (λ z. P (f z)) e h.0) (λ k. each_made P f ys x h.1 k) i

-- each value is such, or made of an element that is
pub each_made_or : {A B : Type 0} (P : B → Type 0) (Q : A → Type 0) (f : A → B) (xs : List A) → Each Q xs → Each (λ y. P y ⊎ ((x : A) × Q x × (f x ≡ y))) (map f xs)
each_made_or P Q f [] h = tt
each_made_or P Q f (x ∷ xs) h = (inr (x, h.0, refl), each_made_or P Q f xs h.1)
