-- Which definitions the rows of the two system tables spell.
use Rattle.std.specs.Prelude.{ℕ, ℤ, pos, negsuc, ◌+◌, ◌≡◌, ◌≢◌, ◌⊎◌, Bool, true, false, if◌then◌else◌, List, [], ◌∷◌, ◌++◌, map}
use Rattle.std.specs.List.{AllByRecursion, filter}
use Rattle.std.specs.List.Sorted.{IsPermutation}
use Rattle.std.specs.Ordering.{int_eq}
use Rattle.sql_value.specs.declared.value.Value.TheVariants.{Num, Text}
use Rattle.sql_value.specs.declared.column.ColumnDef.{ColumnDef}
use Rattle.sql_value.specs.TypeCodes.{type_code, first_parameter, second_parameter}
use Rattle.sql_types.specs.declared.table.TableDef.{TableDef}
use Rattle.sql_types.specs.declared.table.IndexDef.{IndexDef}
use Rattle.sql_types.specs.declared.version.Version.{Version}
use Rattle.spec_model.specs.Lists.{numbered, is_among}
use Rattle.spec_model.specs.Rows.{Row, number, values_of, live}
use Rattle.spec_model.specs.Catalog.{Defs, Tables, defs_of}
use Rattle.spec_model.specs.SystemTables.{kind_code, history_value, bit, column_rows, index_rows}
use Rattle.law_catalog_rows.specs.IsEncodableDef.{is_encodable_def, has_new_names}
use Rattle.law_catalog_rows.specs.Latest.{latest, latest_said}
use Rattle.law_catalog_rows.specs.Changes.{changes_are_right, items_follow}

-- ---- the rows of definitions

-- the values of the rows that stand, in the order of their starts
abbrev pub live_rows : List Version → List Row
live_rows versions = map values_of (live versions)

-- the rows of these indexes, the first of which is number g of its table
abbrev pub rows_of_indexes : ℕ → ℕ → List IndexDef → List Row
rows_of_indexes id g [] = []
rows_of_indexes id g (i ∷ is) = index_rows id g i ++ rows_of_indexes id (g + 1) is

-- the rows of a definition in the second system table: one for each column and for each part of each index
unfoldable pub item_rows : TableDef → List Row
item_rows def = column_rows def ++ rows_of_indexes def.id 1 def.indexes

-- the kind in the row of a table: 3 or 4 where it was dropped
abbrev pub kind_in_row : TableDef → ℕ
kind_in_row def = if def.gone then kind_code def.kind + 2 else kind_code def.kind

-- what the row of a table says that counts
unfoldable pub latest_table_row : TableDef → Row
latest_table_row def =
    number def.id ∷ number 0 ∷ Text def.name ∷ number (kind_in_row def)
    ∷ history_value def.kind def.history ∷ Text def.view ∷ []

-- the key position in the row of a column: -1 where it was dropped
abbrev pub position_in_row : TableDef → ℕ × ColumnDef → ℤ
position_in_row def c = if is_among def.dropped c.0 then negsuc 0 else pos c.1.key_position

-- the row of a column with this key position
abbrev pub column_row_at : ℕ → ℕ × ColumnDef → ℤ → Row
column_row_at id c position =
    number id ∷ number c.0 ∷ number 0 ∷ Text c.1.name ∷ number (type_code c.1.ty)
    ∷ number (first_parameter c.1.ty)
    ∷ number (second_parameter c.1.ty) ∷ number (bit c.1.nullable) ∷ Num 0 position ∷ []

-- what the row of a column says that counts
abbrev pub latest_column_row : TableDef → ℕ × ColumnDef → Row
latest_column_row def c = column_row_at def.id c (position_in_row def c)

-- what the rows of columns and of parts of indexes say that count
unfoldable pub latest_item_rows : TableDef → List Row
latest_item_rows def = map (latest_column_row def) (numbered 1 def.columns) ++ rows_of_indexes def.id 1 def.indexes

-- ---- table by table

-- the row is about the table with this id; one whose first value is no number is about none
abbrev pub is_about : ℤ → Row → Bool
is_about id (Num s n ∷ values) = int_eq n id
is_about id _ = false

abbrev pub about : ℤ → List Row → List Row
about id rows = filter (is_about id) rows

-- the definition is one of these
abbrev pub IsAmong : TableDef → Defs → Type 0
IsAmong def [] = ⊥
IsAmong def (d ∷ ds) = (d ≡ def) ⊎ IsAmong def ds

-- ---- by the rules

-- of the rows about this table those that count say its definition, whatever changes led there, and all changes
-- keep to their rules
pub record EncodeDef (first second : List Row) (def : TableDef) : Type 0 where
  pub table : IsPermutation (latest_said 0 (about (pos def.id) first)) (latest_table_row def ∷ [])
  pub items : IsPermutation (latest_said 1 (about (pos def.id) second)) (latest_item_rows def)
  pub changes : changes_are_right (about (pos def.id) first) (about (pos def.id) second) ≡ true
  pub follow : items_follow (about (pos def.id) second) ≡ true

-- the rows about each table spell its definition, and there are rows about no other table
pub record EncodeEach (first second : List Row) (defs : Defs) : Type 0 where
  pub one : (def : TableDef) → IsAmong def defs → EncodeDef first second def
  pub others : (id : ℤ) → ((def : TableDef) → IsAmong def defs → pos def.id ≢ id)
      → (about id first ≡ []) × (about id second ≡ [])

-- the rows spell these definitions and no more: those about each table spell its definition, and there are rows
-- about no other table; each definition keeps to the rules, and no name of a table is taken
pub record RowsEncode (first second : List Row) (defs : Defs) : Type 0 where
  pub one : (def : TableDef) → IsAmong def defs → EncodeDef first second def
  pub others : (id : ℤ) → ((def : TableDef) → IsAmong def defs → pos def.id ≢ id)
      → (about id first ≡ []) × (about id second ≡ [])
  pub rules : AllByRecursion (λ def. is_encodable_def def ≡ true) defs
  pub names : AllByRecursion (λ def. has_new_names (latest 0 first) def ≡ true) defs

-- ---- tables

-- the rows that stand in the two system tables spell the definitions of all other tables, and no more
abbrev pub HaveTheirRows : Tables → Type 0
HaveTheirRows (first ∷ second ∷ users) =
    EncodeEach (live_rows first.versions) (live_rows second.versions) (defs_of users)
HaveTheirRows _ = ⊥

-- and these definitions keep to the rules
abbrev pub AreEncodedByRows : Tables → Type 0
AreEncodedByRows (first ∷ second ∷ users) =
    RowsEncode (live_rows first.versions) (live_rows second.versions) (defs_of users)
AreEncodedByRows _ = ⊥
