-- Exact numbers: v in units of 10^-s.
use Rattle.std.specs.Prelude.{ℕ, ℤ, pos, negsuc, neg_ℤ, unsigned_abs, Bool, nat_lt, ◌+◌, ◌-◌, ◌/◌, ◌^◌, ◌*ℤ◌}

-- the same number in units that are smaller by so many places
unfoldable pub raised : ℤ → ℕ → ℤ
raised v places = v *ℤ pos (10 ^ places)

-- a size with the sign of v
abbrev pub with_sign : ℤ → ℕ → ℤ
with_sign (pos n) size = pos size
with_sign (negsuc n) size = neg_ℤ (pos size)

-- a size in units that are greater by so many places: half such a unit counts as one
unfoldable pub rounded_size : ℕ → ℕ → ℕ
rounded_size n places = (n + 10 ^ places / 2) / 10 ^ places

-- a number in units that are greater by so many places, rounded half away from zero
abbrev pub rounded : ℤ → ℕ → ℤ
rounded v places = with_sign v (rounded_size (unsigned_abs v) places)

-- v in units of 10^-s, in units of 10^-z: of the two differences one is 0
abbrev pub rescaled : ℤ → ℕ → ℕ → ℤ
rescaled v s z = rounded (raised v (z - s)) (s - z)

-- the number has at most so many digits
abbrev pub has_digits : ℤ → ℕ → Bool
has_digits v p = nat_lt (unsigned_abs v) (10 ^ p)
