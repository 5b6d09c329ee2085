-- Reading a leaf from left to right.
use Rattle.std.specs.Prelude.{ℕ, ℤ, ◌==◌, ◌&&◌, Bool, List, Option, Some, None, if◌then◌else◌}
use Rattle.std.specs.Int.{w8, w32, w64}
use Rattle.std.specs.Str.{is_utf8}
use Rattle.base_fields.specs.Fields.{u8_field}
use Rattle.base_fields.specs.Readers.{Reader, ◌>>=◌, signed, u8_at, u16_at, u32_at, u64_at, i128_at, long_at, after, both, depends, mapped, decoded, where_, listed, whole}
use Rattle.sql_value.specs.declared.sql_type.SqlType.{SqlType}
use Rattle.sql_value.specs.declared.sql_type.SqlType.TheVariants as types
use Rattle.sql_value.specs.declared.value.Value.{Value}
use Rattle.sql_value.specs.declared.value.Value.TheVariants as values
use Rattle.sql_value.specs.Stored.{is_stored}
use Rattle.sql_types.specs.declared.event.Event.{Event}
use Rattle.sql_types.specs.declared.event.EventField.{EventField}
use Rattle.format_event.specs.Leaf.{type_code, first_parameter, second_parameter, ordinals_rise}

-- ---- types

-- the type of this code with these parameters, as far as it has some
abbrev pub coded : ℕ → ℕ → ℕ → SqlType
coded code first second =
    if code == 1 then types.Bit
    else (if code == 2 then types.Int
    else (if code == 3 then types.BigInt
    else (if code == 4 then types.Decimal first second
    else (if code == 5 then types.NVarChar first
    else (if code == 6 then types.VarBinary first
    else types.Date)))))

-- the type has this code and these parameters
abbrev pub is_coded : SqlType → ℕ → ℕ → ℕ → Bool
is_coded ty code first second =
    type_code ty == code && (first_parameter ty == first && second_parameter ty == second)

-- the type that a code and two parameters stand for, if there is one
abbrev pub type_of : (ℕ × ℕ) × ℕ → Option SqlType
type_of x = let ty = coded x.0.0 x.0.1 x.1 in if is_coded ty x.0.0 x.0.1 x.1 then Some ty else None

unfoldable pub type_at : Reader SqlType
type_at = decoded type_of (both (both u8_at u16_at) u8_at)

-- ---- values

-- a number, if the bytes are one of the type
abbrev pub number_of : Reader ℤ → ℕ → List ℕ → Option Value
number_of a s bytes = whole a bytes >>= λ v. Some (values.Num s v)

-- a text, if the bytes are UTF-8
abbrev pub text_of : List ℕ → Option Value
text_of bytes = if is_utf8 bytes then Some (values.Text bytes) else None

-- a day, if there are 4 bytes
abbrev pub day_of : List ℕ → Option Value
day_of bytes = whole u32_at bytes >>= λ day. Some (values.Date day)

-- the value of this type that the bytes spell, if there is one
unfoldable pub value_of : SqlType → List ℕ → Option Value
value_of types.Bit bytes = number_of (signed w8) 0 bytes
value_of types.Int bytes = number_of (signed w32) 0 bytes
value_of types.BigInt bytes = number_of (signed w64) 0 bytes
value_of (types.Decimal p s) bytes = number_of i128_at s bytes
value_of (types.NVarChar n) bytes = text_of bytes
value_of (types.VarBinary n) bytes = Some (values.Bytes bytes)
value_of types.Date bytes = day_of bytes

-- ---- columns

abbrev pub field : ℕ → SqlType → Value → EventField
field ordinal ty value = record { ordinal = ordinal; ty = ty; value = value }

-- the column, if the bytes spell a value that its type stores
abbrev pub field_of : ℕ × (SqlType × List ℕ) → Option EventField
field_of x = value_of x.1.0 x.1.1 >>= λ v. if is_stored v x.1.0 then Some (field x.0 x.1.0 v) else None

unfoldable pub column_at : Reader EventField
column_at = decoded field_of (both u16_at (both type_at long_at))

unfoldable pub columns_at : Reader (List EventField)
columns_at = where_ ordinals_rise (listed u16_at column_at)

-- ---- the event

-- the table, start or end, the transaction and the number in it
abbrev pub Head : Type 0
Head = ℕ × (ℕ × (ℕ × ℕ))

unfoldable pub head_at : Reader Head
head_at = after (u8_field 1) (both u32_at (both u8_at (both u64_at u64_at)))

abbrev pub some_start : ℕ × ℕ → Option (ℕ × ℕ)
some_start start = Some start

-- for an end the start of the version
unfoldable pub start_at : ℕ → Reader (Option (ℕ × ℕ))
start_at op bytes =
    if op == 1 then Some (None, bytes)
    else (if op == 2 then mapped some_start (both u64_at u64_at) bytes else None)

abbrev pub event_of : Head × (Option (ℕ × ℕ) × List EventField) → Event
event_of x =
    record { table = x.0.0; tx = x.0.1.1.0; seq = x.0.1.1.1; ends = x.1.0; columns = x.1.1 }

unfoldable pub event_at : Reader Event
event_at = mapped event_of (depends head_at (λ head. both (start_at head.1.0) columns_at))
