-- What stands at a place.
use Rattle.std.proofs.Common.{◌≡◌, ℕ, List, sym}
use Rattle.std.specs.Prelude.{get_or, slice_get, unwrap_or}
use Rattle.std.proofs.lemmas.Option.{unwrap_or-slice_get}

pub at_or : {A : Type 0} (xs : List A) (k : ℕ) (d : A) → get_or xs k d ≡ unwrap_or (slice_get xs k) d
at_or xs k d = sym (unwrap_or-slice_get xs k d)
