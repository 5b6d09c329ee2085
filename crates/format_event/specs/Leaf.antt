-- The leaf of a row event: its one spelling in bytes.
use Rattle.std.specs.Prelude.{FitsSigned, ◌≡◌, ◌<◌, ◌^◌, ◌&&◌, nat_lt, ℕ, ℤ, Bool, true, false, List, [], ◌∷◌, ◌++◌, length, filter, flat_map, Option, Some, None, IfSome}
use Rattle.std.specs.List.{AllByRecursion}
use Rattle.std.specs.Str.{is_utf8}
use Rattle.std.specs.Int.{w8, w32, w64}
use Rattle.base_fields.specs.Fields.{u8_field, u16_field, u32_field, u64_field, signed_field, i128_field, long_field}
use Rattle.sql_value.specs.declared.sql_type.SqlType.{SqlType}
use Rattle.sql_value.specs.declared.sql_type.SqlType.TheVariants as types
use Rattle.sql_value.specs.declared.value.Value.{Value}
use Rattle.sql_value.specs.declared.value.Value.TheVariants as values
use Rattle.sql_value.specs.Stored.{is_stored}
pub use Rattle.sql_value.specs.TypeCodes.{type_code, first_parameter, second_parameter}
use Rattle.sql_types.specs.declared.event.Event.{Event}
use Rattle.sql_types.specs.declared.event.EventField.{EventField}

-- ---- the type of a column: its code, and two parameters

-- 1 byte, 2 bytes and 1 byte
abbrev pub type_bytes : SqlType → List ℕ
type_bytes ty = (u8_field (type_code ty) ++ u16_field (first_parameter ty)) ++ u8_field (second_parameter ty)

-- ---- a value under its type

-- 1, 4 or 8 bytes, and for a DECIMAL the units in 16
abbrev pub number_bytes : SqlType → ℤ → List ℕ
number_bytes types.Bit v = signed_field w8 v
number_bytes types.Int v = signed_field w32 v
number_bytes types.BigInt v = signed_field w64 v
number_bytes _ v = i128_field v

-- numbers by their type, texts in UTF-8, bytes as they are, days in 4 bytes
abbrev pub value_bytes : SqlType → Value → List ℕ
value_bytes ty values.Null = []
value_bytes ty (values.Num s v) = number_bytes ty v
value_bytes ty (values.Text text) = text
value_bytes ty (values.Bytes bytes) = bytes
value_bytes ty (values.Date day) = u32_field day

-- the ordinal, the type, and the value behind its length in 4 bytes
abbrev pub column_bytes : EventField → List ℕ
column_bytes f = u16_field f.ordinal ++ (type_bytes f.ty ++ long_field (value_bytes f.ty f.value))

-- ---- the event

abbrev pub is_told : Value → Bool
is_told values.Null = false
is_told _ = true

-- the column is not NULL
abbrev pub has_value : EventField → Bool
has_value f = is_told f.value

-- the event without its NULL columns
abbrev pub without_nulls : Event → Event
without_nulls e = record {
  table = e.table;
  tx = e.tx;
  seq = e.seq;
  ends = e.ends;
  columns = filter has_value e.columns;
}

-- the transaction and the number of the start of the version that an end ends
abbrev pub start_bytes : Option (ℕ × ℕ) → List ℕ
start_bytes None = []
start_bytes (Some start) = u64_field start.0 ++ u64_field start.1

-- the count of the columns in 2 bytes, and each of them
abbrev pub columns_bytes : List EventField → List ℕ
columns_bytes columns = u16_field (length columns) ++ flat_map column_bytes columns

-- the number of the format, the table, start or end, the transaction and the number in it
abbrev pub head_of : ℕ → ℕ → ℕ × ℕ → List ℕ
head_of table op id = u8_field 1 ++ (u32_field table ++ (u8_field op ++ (u64_field id.0 ++ u64_field id.1)))

-- 1 for a start, 2 for an end
abbrev pub op_of : Option (ℕ × ℕ) → ℕ
op_of None = 1
op_of (Some start) = 2

abbrev pub head_bytes : Event → List ℕ
head_bytes e = head_of e.table (op_of e.ends) (e.tx, e.seq)

-- the head, for an end the start, and the columns
abbrev pub encoded : Event → List ℕ
encoded e = head_bytes e ++ (start_bytes e.ends ++ columns_bytes e.columns)

-- the leaf of an event: NULL columns are left out
unfoldable pub event_bytes : Event → List ℕ
event_bytes e = encoded (without_nulls e)

-- ---- which events have a leaf

-- a transaction and a number in it, in 8 bytes each
abbrev pub IsPair : ℕ × ℕ → Type 0
IsPair id = (id.0 < 2 ^ 64) × (id.1 < 2 ^ 64)

-- a text is UTF-8
abbrev pub is_text : Value → Bool
is_text (values.Text text) = is_utf8 text
is_text _ = true

-- a column that is not NULL, with a value that its type stores
pub record IsField (f : EventField) : Type 0 where
  pub ordinal : f.ordinal < 2 ^ 16
  pub told : has_value f ≡ true
  pub stored : is_stored f.value f.ty ≡ true
  pub text : is_text f.value ≡ true

abbrev pub rise_from : ℕ → List EventField → Bool
rise_from last [] = true
rise_from last (f ∷ fs) = nat_lt last f.ordinal && rise_from f.ordinal fs

-- the ordinals are from 1 and rise strictly
abbrev pub ordinals_rise : List EventField → Bool
ordinals_rise fs = rise_from 0 fs

-- an event without NULL columns that has a leaf
pub record IsEvent (e : Event) : Type 0 where
  pub table : e.table < 2 ^ 32
  pub ends : IfSome e.ends IsPair
  pub tx : e.tx < 2 ^ 64
  pub seq : e.seq < 2 ^ 64
  pub count : length e.columns < 2 ^ 16
  pub columns : AllByRecursion IsField e.columns
  pub rise : ordinals_rise e.columns ≡ true

-- an event that has a leaf
abbrev pub HasLeaf : Event → Type 0
HasLeaf e = IsEvent (without_nulls e)

-- a column of an event that has a leaf
abbrev pub IsFieldOrNull : EventField → Type 0
IsFieldOrNull f = has_value f ≡ true → IsField f

-- a number that the bytes of its type can tell
abbrev pub FitsNumber : SqlType → ℤ → Type 0
FitsNumber types.Bit v = FitsSigned w8 v
FitsNumber types.Int v = FitsSigned w32 v
FitsNumber types.BigInt v = FitsSigned w64 v
FitsNumber _ v = Unit {0}

abbrev pub FitsBytes : SqlType → Value → Type 0
FitsBytes ty (values.Num s v) = FitsNumber ty v
FitsBytes ty _ = Unit {0}
