-- What holds of all of a list, or of one of it.
use Rattle.std.proofs.Common.{◌≡◌, ◌<◌, zero, suc, refl, arith, Bool, true, false, List, [], ◌∷◌, length}
use Rattle.std.specs.Prelude.{◌&&◌, not, if◌then◌else◌}
use Rattle.std.specs.List.{AllByRecursion, Any, filter, list_all}

pub front : (a b : Bool) → (a && b) ≡ true → a ≡ true
front true b e = refl
front false b e = cc

pub behind : (a b : Bool) → (a && b) ≡ true → b ≡ true
behind true b e = e
behind false b e = cc

pub each_passes : {A : Type 0} (test : A → Bool) (xs : List A) → list_all test xs ≡ true → AllByRecursion (λ x. test x ≡ true) xs
each_passes test [] e = tt
each_passes test (x ∷ xs) e = (front (test x) (list_all test xs) e, each_passes test xs (behind (test x) (list_all test xs) e))

-- what holds of those that pass and of those that don't holds of all
pub of_both_parts : {A : Type 0} (P : A → Type 0) (test : A → Bool) (xs : List A) → AllByRecursion P (filter test xs) → AllByRecursion P (filter (λ x. not (test x)) xs) → AllByRecursion P xs
of_both_parts P test [] h k = tt
of_both_parts P test (x ∷ xs) h k = here (test x) h k (λ f g. of_both_parts P test xs f g)
  where
    here : (b : Bool) → AllByRecursion P (if b then x ∷ filter test xs else filter test xs) → AllByRecursion P (if not b then x ∷ filter (λ y. not (test y)) xs else filter (λ y. not (test y)) xs)
        → (AllByRecursion P (filter test xs) → AllByRecursion P (filter (λ y. not (test y)) xs) → AllByRecursion P xs) → AllByRecursion P (x ∷ xs)
    here true f g more = (f.0, more f.1 g)
    here false f g more = (g.0, more f g.1)

-- ---- one of a list

module _ {A : Type 0} where
  pub any_here : (P : A → Type 0) (x : A) (xs : List A) → P x → Any P (x ∷ xs)
  any_here P x xs p = (zero, x, omega arith, refl, p)

  pub any_after : (P : A → Type 0) (x : A) (xs : List A) → Any P xs → Any P (x ∷ xs)
  any_after P x xs a = (suc a.0, a.1, (let lt : a.0 < length xs = a.2 in omega (arith, lt)), a.3, a.4)

  pub any_weaker : (P Q : A → Type 0) → ((x : A) → P x → Q x) → (xs : List A) → Any P xs → Any Q xs
  any_weaker P Q f xs a = (a.0, a.1, a.2, a.3, f a.1 a.4)
