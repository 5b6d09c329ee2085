-- Rows of the tables of the system, as values that are asked for one by one.
use Rattle.std.specs.Prelude.{ℕ, ℤ, pos, FitsSigned, ◌&&◌, ◌==◌, not, Bool, List, [], ◌∷◌, map, length, Option, Some, None, IfSome}
use Rattle.std.specs.Borrow.{Bor}
use Rattle.std.specs.List.{filter, list_all, list_any}
use Rattle.std.specs.Int.{w64}
use Rattle.std.specs.Ordering.{int_eq}
use Rattle.sql_value.specs.declared.value.Value.{Value}
use Rattle.sql_value.specs.declared.value.Value.TheVariants as values
use Rattle.sql_types.specs.declared.table.TableDef.{TableDef}
use Rattle.sql_types.specs.declared.version.Version.{Version}
use Rattle.spec_model.specs.Catalog.{Defs}
use Rattle.spec_model.specs.Rows.{Row, values_of}
use Rattle.spec_model.specs.Keys.{same_key}
use Rattle.law_catalog_rows.specs.Differs.{encode_def, is_encoded, table_of}
use Rattle.law_catalog_rows.specs.Encoded.{about, latest_table_row, latest_item_rows}
use Rattle.law_catalog_rows.specs.Changes.{follows}
use Rattle.law_catalog_rows.specs.Latest.{without_change}
pub use Rattle.spec_verify.specs.Definitions.{base_in}
use Rattle.audit_definitions.specs.declared.items.ExpectedValue.{ExpectedValue}
use Rattle.audit_definitions.specs.declared.items.ExpectedValue.TheVariants as wants

abbrev pub value_of : ExpectedValue → Value
value_of wants.Null = values.Null
value_of (wants.Number n) = values.Num 0 n
value_of (wants.Name name) = values.Text name.now

abbrev pub rows_in : List Version → List Row
rows_in versions = map values_of versions

abbrev pub rows_seen : List (Bor Version) → List Row
rows_seen versions = map (λ (v : Bor Version). values_of v.now) versions

abbrev pub row_seen : Option (Bor Version) → Option Row
row_seen None = None
row_seen (Some v) = Some (values_of v.now)

-- one of these rows is this one
abbrev pub has_row : List Row → Row → Bool
has_row rows row = list_any (same_key row) rows

-- the number of the table that the row is about has 64 bits
abbrev pub HasSmallId : Version → Type 0
HasSmallId v = IfSome (table_of (values_of v)) (λ n. FitsSigned w64 n)

-- one of these rows says this, whatever its change, which stands behind the place
abbrev pub is_said : ℕ → List Row → Row → Bool
is_said k rows row = list_any (λ r. same_key row (without_change k r)) rows

-- they say these, and no more
abbrev pub are_said : ℕ → List Row → List Row → Bool
are_said k rows wanted = length rows == length wanted && list_all (is_said k rows) wanted

-- the latest rows say the definition, and what they say of items follows from the rows before
abbrev pub say_def : List Row → List Row → List Row → TableDef → Bool
say_def latest_tables items latest_items def =
    are_said 0 latest_tables (latest_table_row def ∷ []) && are_said 1 latest_items (latest_item_rows def)
    && list_all (follows items) latest_items

-- the rows about its table say the definition
abbrev pub encodes : List Row → List Row → TableDef → Bool
encodes first second def = encode_def (about (pos def.id) first) (about (pos def.id) second) def

-- the ids of those of these definitions that the rows spell
abbrev pub ids_encoded : List Row → List Row → Defs → List ℕ
ids_encoded first second defs =
    map (λ (d : TableDef). d.id) (filter (is_encoded first second defs) defs)

-- it is none of these ids
abbrev pub is_missing : List ℕ → ℤ → Bool
is_missing ids id = not (list_any (λ n. int_eq (pos n) id) ids)
