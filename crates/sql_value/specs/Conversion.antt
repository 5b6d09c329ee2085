-- What a column makes of a value.
use Rattle.std.specs.Prelude.{ℕ, ℤ, pos, ◌==◌, unsigned_abs, Bool, true, false, nat_le, if◌then◌else◌, List, length, Option, Some, None, Result, Ok, Err}
use Rattle.sql_value.specs.declared.value.Value.{Value}
use Rattle.sql_value.specs.declared.value.Value.TheVariants.{Null, Num, Text, Bytes, Date}
use Rattle.sql_value.specs.declared.sql_type.SqlType.{SqlType}
use Rattle.sql_value.specs.declared.sql_type.SqlType.TheVariants as t
use Rattle.sql_value.specs.declared.refusal.ValueErr.{ValueErr}
use Rattle.sql_value.specs.declared.refusal.ValueErr.TheVariants.{Mismatch, OutOfRange, TooLong}
use Rattle.sql_value.specs.Number.{rescaled, has_digits}
use Rattle.sql_value.specs.Text.{utf16_units}
use Rattle.sql_value.specs.Day.{day_of, last_day}
use Rattle.sql_value.specs.Stored.{is_in_range, in_bits}

abbrev pub Converted : Type 0
Converted = Result Value ValueErr

abbrev pub only_if : Bool → ValueErr → Value → Converted
only_if true e v = Ok v
only_if false e v = Err e

-- 0 for 0, else 1
abbrev pub bit_of : ℤ → ℤ
bit_of v = if unsigned_abs v == 0 then pos 0 else pos 1

-- a whole number becomes a bit or stays itself
abbrev pub whole_to : SqlType → ℤ → Converted
whole_to t.Bit v = Ok (Num 0 (bit_of v))
whole_to t.Int v = only_if (in_bits 31 v) OutOfRange (Num 0 v)
whole_to t.BigInt v = only_if (in_bits 63 v) OutOfRange (Num 0 v)
whole_to _ v = Err Mismatch

-- a number is rounded to the places of a DECIMAL; to the other types go whole numbers alone
abbrev pub number_to : SqlType → ℤ → ℕ → Converted
number_to (t.Decimal p z) v s = only_if (has_digits (rescaled v s z) p) OutOfRange (Num z (rescaled v s z))
number_to ty v s = if s == 0 then whole_to ty v else Err Mismatch

abbrev pub day_or_mismatch : Option ℕ → Converted
day_or_mismatch (Some day) = Ok (Date day)
day_or_mismatch None = Err Mismatch

-- a text stays itself, and for a DATE is read as a date
abbrev pub text_to : SqlType → List ℕ → Converted
text_to (t.NVarChar n) x = only_if (nat_le (utf16_units x) n) TooLong (Text x)
text_to t.Date x = day_or_mismatch (day_of x)
text_to _ x = Err Mismatch

abbrev pub bytes_to : SqlType → List ℕ → Converted
bytes_to (t.VarBinary n) x = only_if (nat_le (length x) n) TooLong (Bytes x)
bytes_to _ x = Err Mismatch

abbrev pub day_to : SqlType → ℕ → Converted
day_to t.Date d = only_if (nat_le d last_day) Mismatch (Date d)
day_to _ d = Err Mismatch

abbrev pub converted : SqlType → Value → Converted
converted ty Null = Ok Null
converted ty (Num s v) = number_to ty v s
converted ty (Text x) = text_to ty x
converted ty (Bytes x) = bytes_to ty x
converted ty (Date d) = day_to ty d

-- what a column of the type makes of v: NULL stays, and a type outside its ranges takes nothing else
unfoldable pub conversion_of : Value → SqlType → Converted
conversion_of Null ty = Ok Null
conversion_of v ty = if is_in_range ty then converted ty v else Err Mismatch
