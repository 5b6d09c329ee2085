-- What a call leaves where it succeeds.
use Rattle.std.proofs.Common.{◌≡◌, refl, Ok, Err}
use Rattle.std.specs.Prelude.{Result, if◌then◌else◌}
use Rattle.std.specs.Result.{IsOk, is_ok}

pub if_ok : {T E X : Type 0} (r : Result T E) (x y : X) → IsOk r → (if is_ok r then x else y) ≡ x
if_ok (Ok t) x y ok = refl
if_ok (Err e) x y ok = cc
