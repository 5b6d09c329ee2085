-- Which types there are, and which values each of them stores.
use Rattle.std.specs.Prelude.{ℕ, ℤ, pos, negsuc, ◌^◌, Bool, true, false, ◌&&◌, ◌==◌, nat_lt, nat_le, List, length}
use Rattle.sql_value.specs.declared.value.Value.{Value}
use Rattle.sql_value.specs.declared.value.Value.TheVariants.{Null, Num, Text, Bytes, Date}
use Rattle.sql_value.specs.declared.sql_type.SqlType.{SqlType}
use Rattle.sql_value.specs.declared.sql_type.SqlType.TheVariants as t
use Rattle.sql_value.specs.Number.{has_digits}
use Rattle.sql_value.specs.Text.{utf16_units}
use Rattle.sql_value.specs.Day.{last_day}

-- the parameters of a type are in their ranges
unfoldable pub is_in_range : SqlType → Bool
is_in_range (t.Decimal p s) = (nat_le 1 p && nat_le p 38) && nat_le s p
is_in_range (t.NVarChar n) = nat_le 1 n && nat_le n 4000
is_in_range (t.VarBinary n) = nat_le 1 n && nat_le n 8000
is_in_range t.Bit = true
is_in_range t.Int = true
is_in_range t.BigInt = true
is_in_range t.Date = true

-- v is 0 or 1
abbrev pub is_bit : ℤ → Bool
is_bit (pos n) = nat_lt n 2
is_bit (negsuc n) = false

-- v is from -2^bits to 2^bits - 1
abbrev pub in_bits : ℕ → ℤ → Bool
in_bits bits (pos n) = nat_lt n (2 ^ bits)
in_bits bits (negsuc n) = nat_lt n (2 ^ bits)

-- the numbers of a type: whole ones in its range, or in units of 10^-z those of at most p digits
abbrev pub number_stored : SqlType → ℤ → ℕ → Bool
number_stored t.Bit v s = s == 0 && is_bit v
number_stored t.Int v s = s == 0 && in_bits 31 v
number_stored t.BigInt v s = s == 0 && in_bits 63 v
number_stored (t.Decimal p z) v s = s == z && has_digits v p
number_stored _ v s = false

abbrev pub text_stored : SqlType → List ℕ → Bool
text_stored (t.NVarChar n) x = nat_le (utf16_units x) n
text_stored _ x = false

abbrev pub bytes_stored : SqlType → List ℕ → Bool
bytes_stored (t.VarBinary n) x = nat_le (length x) n
bytes_stored _ x = false

abbrev pub day_stored : SqlType → ℕ → Bool
day_stored t.Date d = nat_le d last_day
day_stored _ d = false

abbrev pub is_value_of : SqlType → Value → Bool
is_value_of ty Null = true
is_value_of ty (Num s v) = number_stored ty v s
is_value_of ty (Text x) = text_stored ty x
is_value_of ty (Bytes x) = bytes_stored ty x
is_value_of ty (Date d) = day_stored ty d

-- v is NULL or a value that a column of the type stores; a type outside its ranges stores none
unfoldable pub is_stored : Value → SqlType → Bool
is_stored Null ty = true
is_stored v ty = is_in_range ty && is_value_of ty v
