-- How formats and system tables write a type: its code, and two parameters.
use Rattle.std.specs.Prelude.{ℕ}
use Rattle.sql_value.specs.declared.sql_type.SqlType.{SqlType}
use Rattle.sql_value.specs.declared.sql_type.SqlType.TheVariants.{Bit, Int, BigInt, Decimal, NVarChar, VarBinary, Date}

abbrev pub type_code : SqlType → ℕ
type_code Bit = 1
type_code Int = 2
type_code BigInt = 3
type_code (Decimal p s) = 4
type_code (NVarChar n) = 5
type_code (VarBinary n) = 6
type_code Date = 7

-- the digits of a DECIMAL, or the greatest length of a text or of bytes
abbrev pub first_parameter : SqlType → ℕ
first_parameter (Decimal p s) = p
first_parameter (NVarChar n) = n
first_parameter (VarBinary n) = n
first_parameter _ = 0

-- the digits of a DECIMAL after the point
abbrev pub second_parameter : SqlType → ℕ
second_parameter (Decimal p s) = s
second_parameter _ = 0
