-- Exact numbers: which operands can be brought to one scale, and what a result is.
use Rattle.std.specs.Prelude.{ℕ, ℤ, ◌-◌, IsTrue, Result, Ok, Err, ◌≡◌}
use Rattle.sql_value.specs.declared.value.Value.{Value}
use Rattle.sql_value.specs.declared.value.Value.TheVariants.{Num}
use Rattle.sql_value.specs.declared.refusal.Refusal.{Refusal}
use Rattle.sql_value.specs.Number.{raised, has_digits}
use Rattle.spec_model.specs.Refusals.{Checked}
use Rattle.sql_expr.specs.declared.arithmetic.Number.{Number}

-- both stay below 10^38 in size
abbrev pub AreInSize : ℤ → ℕ → ℤ → ℕ → Type 0
AreInSize v s w z = IsTrue (has_digits (raised v (z - s)) 38) × IsTrue (has_digits (raised w (s - z)) 38)

-- the number that is meant, or its refusal
abbrev pub IsNumber : Checked Value → Result Number Refusal → Type 0
IsNumber meant (Ok n) = meant ≡ Ok (Num n.s n.v)
IsNumber meant (Err e) = meant ≡ Err e
