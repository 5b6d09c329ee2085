-- Which values are written as literals.
use Rattle.std.specs.Prelude.{◌<◌, ◌≤◌, ◌^◌, ◌≢◌, unsigned_abs, ⊤}
use Rattle.hex.specs.Hex.{IsBytes}
use Rattle.sql_value.specs.declared.value.Value.{Value}
use Rattle.sql_value.specs.declared.value.Value.TheVariants.{Null, Num, Text, Bytes, Date}

-- a literal writes the value: all but days, and numbers of more than 38 digits
abbrev pub IsLiteral : Value → Type 0
IsLiteral Null = ⊤
IsLiteral (Num s v) = (unsigned_abs v < 10 ^ 38) × (s ≤ 38)
IsLiteral (Text t) = ⊤
IsLiteral (Bytes b) = IsBytes b
IsLiteral (Date d) = ⊥

-- the number, if v is one, has a digit before its point
abbrev pub HasWholePart : Value → Type 0
HasWholePart (Num s v) = s ≢ 38
HasWholePart _ = ⊤
