-- What is said of an outcome, said of an equal one.
use Rattle.std.proofs.Common.{◌≡◌, subst}
use Rattle.std.specs.Prelude.{IfOk, Result}

pub same_ok : {A E : Type 0} (r : Result A E) (x y : A) → x ≡ y → IfOk r (λ v. v ≡ x) → IfOk r (λ v. v ≡ y)
same_ok {A} r x y e h = subst (λ (z : A). IfOk r (λ (v : A). v ≡ z)) e h
