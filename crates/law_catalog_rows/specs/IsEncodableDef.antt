-- Definitions that may be spelled by rows of the two system tables.
use Rattle.std.specs.Prelude.{ℕ, pos, ◌==◌, ◌&&◌, ◌||◌, not, nat_le, Bool, true, false, if◌then◌else◌, List, [], ◌∷◌, map, length, Option, Some, None}
use Rattle.std.specs.List.{list_any, list_all, filter, filter_map, range_with_len}
use Rattle.std.specs.Ordering.{int_cmp, is_lt}
use Rattle.sql_value.specs.declared.value.Value.{Value}
use Rattle.sql_value.specs.declared.value.Value.TheVariants.{Num, Text}
use Rattle.sql_value.specs.declared.column.ColumnDef.{ColumnDef}
use Rattle.sql_value.specs.Stored.{is_in_range}
use Rattle.sql_types.specs.declared.table.TableDef.{TableDef}
use Rattle.sql_types.specs.declared.table.IndexDef.{IndexDef}
use Rattle.spec_model.specs.Lists.{has_name, is_among, numbered, repeats, rise_within}
use Rattle.spec_model.specs.Rows.{Row}
use Rattle.spec_model.specs.SystemTables.{tables_def, columns_def}
use Rattle.spec_model.specs.Create.{names_of, table_names, all_names, is_ledger_name, has_null_key}
pub use Rattle.spec_model.specs.ProperNames.{is_name_byte, is_proper_name, has_its_history}

abbrev pub number_repeats : List ℕ → Bool
number_repeats [] = false
number_repeats (n ∷ ns) = if is_among ns n then true else number_repeats ns

abbrev pub is_between : ℕ → ℕ → ℕ → Bool
is_between low high n = nat_le low n && nat_le n high

abbrev pub greatest : List ℕ → ℕ
greatest [] = 0
greatest (n ∷ ns) = if nat_le n (greatest ns) then greatest ns else n

-- they are 1 to k, each once, with k from 1 to 4
abbrev pub are_key_positions : List ℕ → Bool
are_key_positions positions =
    is_between 1 4 (greatest positions)
    && list_all (is_among positions) (range_with_len 1 (greatest positions))
    && not (number_repeats positions)

-- those that aren't 0
abbrev pub positions_of : List ColumnDef → List ℕ
positions_of columns = filter (λ n. not (n == 0)) (map (λ c. c.key_position) columns)

abbrev pub is_encodable_column : ColumnDef → Bool
is_encodable_column c = is_in_range c.ty && is_proper_name c.name && not (is_ledger_name c.name)

abbrev pub is_encodable_index : ℕ → IndexDef → Bool
is_encodable_index columns i =
    is_proper_name i.name && is_between 1 4 (length i.ordinals) && list_all (is_between 1 columns) i.ordinals
    && not (number_repeats i.ordinals)

-- ordinals of columns, each once, of which none is in the key
abbrev pub dropped_are_right : TableDef → Bool
dropped_are_right def =
    rise_within 0 (length def.columns) def.dropped
    && list_all (λ c. not (is_among def.dropped c.0) || c.1.key_position == 0) (numbered 1 def.columns)

-- by itself
abbrev pub is_encodable_def : TableDef → Bool
is_encodable_def def =
    is_between 3 34 def.id
    && is_proper_name def.name && has_its_history def.kind def.history && is_proper_name def.view
    && not (repeats (table_names def)) && dropped_are_right def
    && is_between 1 64 (length def.columns) && list_all is_encodable_column def.columns
    && not (repeats (names_of def.columns))
    && are_key_positions (positions_of def.columns) && not (has_null_key def)
    && nat_le (length def.indexes) 4 && list_all (is_encodable_index (length def.columns)) def.indexes
    && not (repeats (map (λ i. i.name) def.indexes))

-- ---- new names

abbrev pub text_of : Value → Option (List ℕ)
text_of (Text name) = Some name
text_of _ = None

-- the names in a row of the first system table: of a table, its history and its view
abbrev pub names_in : Row → List (List ℕ)
names_in row = filter_map text_of row

-- the row is about a table with a lower id
abbrev pub is_before : ℕ → Row → Bool
is_before id (Num s n ∷ values) = is_lt (int_cmp n (pos id))
is_before id _ = false

-- one of these names is a name of the table
abbrev pub share_name : List (List ℕ) → TableDef → Bool
share_name names def = list_any (has_name names) (table_names def)

-- no name of the table is one of a system table, or stands in one of these rows of the first system table with a
-- lower id
abbrev pub has_new_names : List Row → TableDef → Bool
has_new_names rows def =
    not (share_name (all_names (tables_def ∷ columns_def ∷ [])) def)
    && not (list_any (λ row. is_before def.id row && share_name (names_in row) def) rows)
