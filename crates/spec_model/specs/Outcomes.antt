-- Outcomes of a class.
use Rattle.std.specs.Prelude.{◌≡◌, Ok, Err, ⊤}
use Rattle.sql_value.specs.declared.value.Value.TheVariants as val
use Rattle.sql_value.specs.declared.refusal.Refusal.TheVariants.{NumberOutOfRange}
use Rattle.sql_value.specs.declared.expr.Class.{Class}
use Rattle.sql_value.specs.declared.expr.Class.TheVariants.{Whole, Dec, Text, Bytes, Date, Truth}
use Rattle.sql_types.specs.declared.outcome.Outcome.{Outcome}
use Rattle.sql_types.specs.declared.outcome.Outcome.TheVariants as out
use Rattle.spec_model.specs.Evaluation.{Answer}

-- an outcome is of a class: a truth of Truth, NULL of each other, a number of that with its scale, other
-- values of their own
abbrev pub IsOf : Class → Outcome → Type 0
IsOf Truth (out.Truth t) = ⊤
IsOf Truth (out.Value x) = ⊥
IsOf _ (out.Truth t) = ⊥
IsOf _ (out.Value val.Null) = ⊤
IsOf Whole (out.Value (val.Num s v)) = s ≡ 0
IsOf (Dec z) (out.Value (val.Num s v)) = s ≡ z
IsOf Text (out.Value (val.Text x)) = ⊤
IsOf Bytes (out.Value (val.Bytes x)) = ⊤
IsOf Date (out.Value (val.Date d)) = ⊤
IsOf _ (out.Value x) = ⊥

-- an answer of a class: an outcome of it, or NumberOutOfRange
abbrev pub Answers : Class → Answer → Type 0
Answers c (Ok o) = IsOf c o
Answers c (Err e) = e ≡ NumberOutOfRange
