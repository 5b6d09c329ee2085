-- The table that a row is about, and an id.
use Rattle.std.specs.Prelude.{ℕ, ℤ, pos, Bool, false, Option, Some, None}
use Rattle.std.specs.Ordering.{int_cmp, int_eq, is_lt}

-- it is this one
abbrev pub about_number : ℤ → Option ℤ → Bool
about_number id None = false
about_number id (Some n) = int_eq n id

-- it has a lower id
abbrev pub before_number : ℕ → Option ℤ → Bool
before_number id None = false
before_number id (Some n) = is_lt (int_cmp n (pos id))
