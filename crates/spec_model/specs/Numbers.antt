-- Arithmetic on exact numbers, v in units of 10^-s. What reaches 10^38 in size is NumberOutOfRange.
use Rattle.std.specs.Prelude.{ℕ, ℤ, ◌+◌, ◌-◌, max, ◌+ℤ◌, ◌-ℤ◌, ◌*ℤ◌, neg_ℤ, nat_le, ◌&&◌, if◌then◌else◌, Ok, Err}
use Rattle.sql_value.specs.declared.value.Value.{Value}
use Rattle.sql_value.specs.declared.value.Value.TheVariants.{Num}
use Rattle.sql_value.specs.declared.refusal.Refusal.TheVariants.{TypeMismatch, NumberOutOfRange}
use Rattle.sql_value.specs.Number.{raised, has_digits}
use Rattle.spec_model.specs.Refusals.{Checked}

-- a result
abbrev pub in_38_digits : ℤ → ℕ → Checked Value
in_38_digits v s = if has_digits v 38 then Ok (Num s v) else Err NumberOutOfRange

-- what is made of two operands of one scale
abbrev pub combined : (ℤ → ℤ → ℤ) → ℤ → ℤ → ℕ → Checked Value
combined f v w s = if has_digits v 38 && has_digits w 38 then in_38_digits (f v w) s else Err NumberOutOfRange

-- the same of two operands that are brought to the greater scale: of the two differences one is 0
abbrev pub aligned : (ℤ → ℤ → ℤ) → ℤ → ℕ → ℤ → ℕ → Checked Value
aligned f v s w z = combined f (raised v (z - s)) (raised w (s - z)) (max s z)

unfoldable pub sum_of : ℤ → ℕ → ℤ → ℕ → Checked Value
sum_of v s w z = aligned (λ a b. a +ℤ b) v s w z

unfoldable pub difference_of : ℤ → ℕ → ℤ → ℕ → Checked Value
difference_of v s w z = aligned (λ a b. a -ℤ b) v s w z

-- the scales are added, and their sum is at most 38
unfoldable pub product_of : ℤ → ℕ → ℤ → ℕ → Checked Value
product_of v s w z = if nat_le (s + z) 38 then in_38_digits (v *ℤ w) (s + z) else Err TypeMismatch

unfoldable pub negative_of : ℤ → ℕ → Checked Value
negative_of v s = in_38_digits (neg_ℤ v) s
