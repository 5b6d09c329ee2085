-- Rows of the two system tables, each with its place: which are about a table, which are first and second about a
-- table or a column, and which are in force at a place. Numbers that are missing count as 0.
use Rattle.std.specs.Prelude.{ℕ, ℤ, pos, negsuc, ◌&&◌, not, Bool, true, false, List, map}
use Rattle.std.specs.List.{filter, list_any}
use Rattle.std.specs.Ordering.{int_cmp, int_eq, is_eq, is_lt}
use Rattle.sql_value.specs.declared.value.Value.{Value}
use Rattle.sql_value.specs.declared.value.Value.TheVariants.{Null, Text}
use Rattle.sql_value.specs.Order.{value_cmp}
use Rattle.sql_types.specs.declared.entry.TxEntry.{TxEntry}
use Rattle.sql_types.specs.declared.version.Version.{Version}
use Rattle.spec_model.specs.Alter.{dropped_name}
use Rattle.spec_model.specs.ProperNames.{is_proper_name}
use Rattle.law_catalog_rows.specs.Encoded.{is_about}
use Rattle.law_catalog_rows.specs.Latest.{number_at, same_number, change_of, is_past}
use Rattle.spec_rules.specs.Places.{EventPlace, PlacedRow, placed, stands_before}

-- the rows of the table of tables, and those of the table of columns
pub record CatalogRows : Type 0 where
  pub tables : List PlacedRow
  pub items : List PlacedRow

-- those of an image that has these entries, and these base rows in its system tables
abbrev pub catalog_rows : List TxEntry → List Version → List Version → CatalogRows
catalog_rows entries first second =
    record { tables = map (placed entries) first; items = map (placed entries) second }

-- ---- what a row says

-- the number at this place, counted from 0
abbrev pub says : ℕ → ℤ → PlacedRow → Bool
says k n r = int_eq (number_at k r.row) n

-- of a row of the table of columns: the ordinal of a column, or a number of a part of an index
abbrev pub item_of : PlacedRow → ℤ
item_of r = number_at 1 r.row

abbrev pub is_column_row : PlacedRow → Bool
is_column_row r = is_lt (int_cmp (item_of r) (pos 1000))

-- the row was made with its table, column or index, which is named at k
abbrev pub has_no_change : ℕ → PlacedRow → Bool
has_no_change k r = int_eq (change_of k r.row) (pos 0)

-- of a row of the table of columns: it says that its column was dropped
abbrev pub says_dropped : PlacedRow → Bool
says_dropped r = int_eq (number_at 8 r.row) (negsuc 0)

-- ---- rows about a table

abbrev pub is_about_table : ℤ → PlacedRow → Bool
is_about_table t r = is_about t r.row

abbrev pub tables_about : CatalogRows → ℤ → List PlacedRow
tables_about rows t = filter (is_about_table t) rows.tables

abbrev pub items_about : CatalogRows → ℤ → List PlacedRow
items_about rows t = filter (is_about_table t) rows.items

abbrev pub columns_about : CatalogRows → ℤ → List PlacedRow
columns_about rows t = filter is_column_row (items_about rows t)

abbrev pub indexes_about : CatalogRows → ℤ → List PlacedRow
indexes_about rows t = filter (λ r. not (is_column_row r)) (items_about rows t)

-- ---- first and second rows, where what they are about is named at k

-- both are about one thing
abbrev pub same_thing : ℕ → PlacedRow → PlacedRow → Bool
same_thing k a b = same_number k a.row b.row

-- none of these rows is about the same thing and has a lesser change
abbrev pub is_first_of : ℕ → List PlacedRow → PlacedRow → Bool
is_first_of k rows r = not (list_any (λ b. is_past k r.row b.row) rows)

abbrev pub firsts : ℕ → List PlacedRow → List PlacedRow
firsts k rows = filter (is_first_of k rows) rows

-- any other is a second row
abbrev pub seconds : ℕ → List PlacedRow → List PlacedRow
seconds k rows = filter (λ r. not (is_first_of k rows r)) rows

-- ---- rows in force

abbrev pub earlier_than : EventPlace → List PlacedRow → List PlacedRow
earlier_than place rows = filter (λ r. stands_before r.place place) rows

-- none of these rows is about the same thing and stands after this one
abbrev pub is_last_of : ℕ → List PlacedRow → PlacedRow → Bool
is_last_of k rows r = not (list_any (λ b. same_thing k b r && stands_before r.place b.place) rows)

-- the last row about each thing before a place
abbrev pub in_force : ℕ → EventPlace → List PlacedRow → List PlacedRow
in_force k place rows = filter (is_last_of k (earlier_than place rows)) (earlier_than place rows)

-- ---- names

abbrev pub is_null : Value → Bool
is_null Null = true
is_null _ = false

abbrev pub is_proper_text : Value → Bool
is_proper_text (Text name) = is_proper_name name
is_proper_text _ = false

abbrev pub same_value : Value → Value → Bool
same_value a b = is_eq (value_cmp a b)

-- the name of what was dropped and had this name; what has none gets none
abbrev pub dropped_text : List ℕ → Value → ℕ → Value
dropped_text what (Text name) n = Text (dropped_name what name n)
dropped_text what _ n = Null
