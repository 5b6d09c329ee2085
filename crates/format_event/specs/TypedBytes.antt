-- A value with its type: its one spelling in bytes, and reading it.
use Rattle.std.specs.Prelude.{◌≡◌, ◌<◌, ◌^◌, true, List, ℕ, ◌++◌, length, Option, Some, None, IfSome, if◌then◌else◌}
use Rattle.std.specs.List.{AllByRecursion}
use Rattle.base_fields.specs.Fields.{long_field}
use Rattle.base_fields.specs.Readers.{Reader, ◌>>=◌, long_at, both, decoded}
use Rattle.sql_value.specs.declared.sql_type.SqlType.{SqlType}
use Rattle.sql_value.specs.Stored.{is_stored}
use Rattle.sql_types.specs.declared.version.TypedValue.{TypedValue}
use Rattle.format_event.specs.Leaf.{type_bytes, value_bytes, is_told, is_text}
use Rattle.format_event.specs.LeafReading.{type_at, value_of}

-- the type, and the value behind its length in 4 bytes
abbrev pub typed_bytes : TypedValue → List ℕ
typed_bytes t = type_bytes t.ty ++ long_field (value_bytes t.ty t.value)

-- a value other than NULL that its type stores
pub record IsTyped (t : TypedValue) : Type 0 where
  pub told : is_told t.value ≡ true
  pub stored : is_stored t.value t.ty ≡ true
  pub text : is_text t.value ≡ true

-- NULL, or such a value
abbrev pub IsValue : Option TypedValue → Type 0
IsValue v = IfSome v IsTyped

-- values of a row that have a spelling
abbrev pub AreValues : List (Option TypedValue) → Type 0
AreValues row = (length row < 2 ^ 16) × AllByRecursion IsValue row

-- NULL, or a value that is UTF-8 where it is a text
abbrev pub IsUtf8Text : Option TypedValue → Type 0
IsUtf8Text v = IfSome v (λ t. is_text t.value ≡ true)

-- the value, if the bytes spell one that the type stores
abbrev pub typed_of : SqlType × List ℕ → Option TypedValue
typed_of x = value_of x.0 x.1 >>= λ v. if is_stored v x.0 then Some (record { ty = x.0; value = v }) else None

unfoldable pub typed_at : Reader TypedValue
typed_at = decoded typed_of (both type_at long_at)
