-- How a value that a column stores is written.
use Rattle.std.specs.Prelude.{◌≡◌, ⊤, Some, Ok}
use Rattle.hex.specs.Hex.{IsBytes}
use Rattle.sql_value.specs.declared.sql_type.SqlType.{SqlType}
use Rattle.sql_value.specs.declared.value.Value.{Value}
use Rattle.sql_value.specs.declared.value.Value.TheVariants.{Bytes}
use Rattle.sql_value.specs.Conversion.{conversion_of}
use Rattle.sql_value.specs.Literal.{literal_of}
use Rattle.sql_value.specs.Printed.{literal_text}

-- the bytes of a value, if it has some, are numbers below 256
abbrev pub HasBytes : Value → Type 0
HasBytes (Bytes b) = IsBytes b
HasBytes _ = ⊤

-- what is written of the value as a literal is read as a value of which a column of the type makes this one
pub record IsWrittenFor (ty : SqlType) (v : Value) : Type 0 where
  pub read : Value
  pub literal : literal_of (literal_text v) ≡ Some read
  pub makes : conversion_of read ty ≡ Ok v
