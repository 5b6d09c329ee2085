-- Where nothing is at fault, no first place is found.
use Rattle.std.proofs.Common.{◌≡◌, ℕ, ◌+◌, refl, Bool, true, false, List, [], ◌∷◌, Option, None, bytes_eq}
use Rattle.std.specs.List.{AllByRecursion}
use Rattle.std.proofs.lemmas.Slice.Eq.{bytes_eq-Decides}
use Rattle.std.specs.Prelude.{◌&&◌}
use Rattle.spec_model.specs.Lists.{or_else}
use Rattle.spec_verify.specs.declared.place.Place.{Place}
use Rattle.spec_verify.specs.First.{unless, first_from}

pub same_bytes : (a b : List ℕ) → a ≡ b → bytes_eq a b ≡ true
same_bytes a b e = (bytes_eq-Decides a b).1 e

pub both : {a b : Bool} → a ≡ true → b ≡ true → (a && b) ≡ true
both p q = rw (p, q) refl

pub passes : (b : Bool) (place : Place) → b ≡ true → unless b place ≡ None
passes true place e = refl
passes false place e = cc

pub neither : {A : Type 0} (a b : Option A) → a ≡ None → b ≡ None → or_else a b ≡ None
neither a b e f = rw (e, f) refl

-- what holds of each element, at whatever place
pub nothing_first : {A B : Type 0} (fault : ℕ → A → Option B) (n : ℕ) (xs : List A) → AllByRecursion (λ x. (k : ℕ) → fault k x ≡ None) xs → first_from fault n xs ≡ None
nothing_first fault n [] h = refl
nothing_first fault n (x ∷ xs) h = neither (fault n x) (first_from fault (n + 1) xs) (h.0 n) (nothing_first fault (n + 1) xs h.1)
