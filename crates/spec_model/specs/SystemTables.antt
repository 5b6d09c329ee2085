-- The tables of the system: their definitions, and the rows that they have of each table and index.
use Rattle.std.specs.Prelude.{ℕ, ℤ, pos, negsuc, ◌+◌, ◌*◌, Bool, true, false, if◌then◌else◌, List, [], ◌∷◌, map, codes}
use Rattle.sql_value.specs.declared.value.Value.{Value}
use Rattle.sql_value.specs.declared.value.Value.TheVariants.{Null, Num, Text}
use Rattle.sql_value.specs.declared.column.ColumnDef.{ColumnDef}
use Rattle.sql_value.specs.declared.column.TableKind.{TableKind}
use Rattle.sql_value.specs.declared.column.TableKind.TheVariants.{AppendOnly, Updatable}
use Rattle.sql_value.specs.declared.sql_type.SqlType.{SqlType}
use Rattle.sql_value.specs.declared.sql_type.SqlType.TheVariants.{Bit, Int, NVarChar}
use Rattle.sql_types.specs.declared.table.TableDef.{TableDef}
use Rattle.sql_types.specs.declared.table.IndexDef.{IndexDef}
use Rattle.sql_types.specs.declared.version.Table.{Table}
use Rattle.sql_value.specs.TypeCodes.{type_code, first_parameter, second_parameter}
use Rattle.spec_model.specs.Lists.{numbered}
use Rattle.spec_model.specs.LiveColumns.{is_dropped}
use Rattle.spec_model.specs.Rows.{Row, number}

-- ---- definitions

abbrev pub a_column : List ℕ → SqlType → Bool → ℕ → ColumnDef
a_column name ty nullable key = record { name = name; ty = ty; nullable = nullable; key_position = key }

abbrev pub name_type : SqlType
name_type = NVarChar 128

-- a row for each table, its key is the table and the change
abbrev pub tables_columns : List ColumnDef
tables_columns =
    a_column (codes "table_id") Int false 1
    ∷ a_column (codes "change") Int false 2
    ∷ a_column (codes "name") name_type false 0
    ∷ a_column (codes "kind") Int false 0
    ∷ a_column (codes "history_name") name_type true 0
    ∷ a_column (codes "view_name") name_type false 0 ∷ []

-- a row for each column of a table and for each column of an index, its key is the table, the item and the
-- change
abbrev pub columns_columns : List ColumnDef
columns_columns =
    a_column (codes "table_id") Int false 1
    ∷ a_column (codes "item") Int false 2
    ∷ a_column (codes "change") Int false 3
    ∷ a_column (codes "name") name_type false 0
    ∷ a_column (codes "type_code") Int false 0
    ∷ a_column (codes "p") Int false 0
    ∷ a_column (codes "s") Int false 0
    ∷ a_column (codes "nullable") Bit false 0
    ∷ a_column (codes "key_position") Int false 0 ∷ []

abbrev pub system_def : ℕ → List ℕ → List ColumnDef → TableDef
system_def id name columns =
    record {
      id = id;
      name = name;
      kind = AppendOnly;
      gone = false;
      history = [];
      view = [];
      columns = columns;
      dropped = [];
      indexes = [];
    }

abbrev pub tables_id : ℕ
tables_id = 1

abbrev pub columns_id : ℕ
columns_id = 2

abbrev pub tables_def : TableDef
tables_def = system_def tables_id (codes "sys_ledger_tables") tables_columns

abbrev pub columns_def : TableDef
columns_def = system_def columns_id (codes "sys_ledger_columns") columns_columns

abbrev pub empty_table : TableDef → Table
empty_table def = record { def = def; versions = [] }

-- what stands before any transaction
unfoldable pub first_tables : List Table
first_tables = empty_table tables_def ∷ empty_table columns_def ∷ []

-- ---- rows

abbrev pub kind_code : TableKind → ℕ
kind_code AppendOnly = 1
kind_code Updatable = 2

-- an append-only table has no history
abbrev pub history_value : TableKind → List ℕ → Value
history_value AppendOnly name = Null
history_value Updatable name = Text name

abbrev pub bit : Bool → ℕ
bit true = 1
bit false = 0

-- the row of a table, by this change and with this kind
abbrev pub table_row_with : ℕ → ℕ → TableDef → Row
table_row_with change kind def =
    number def.id ∷ number change ∷ Text def.name ∷ number kind
    ∷ history_value def.kind def.history ∷ Text def.view ∷ []

-- the row of a new table; its change is 0
unfoldable pub table_row : TableDef → Row
table_row def = table_row_with 0 (kind_code def.kind) def

-- the row of a column of the table with this id, by this change and with this key position; its item is its ordinal
abbrev pub column_row_with : ℕ → ℤ → ℕ → ℕ × ColumnDef → Row
column_row_with change position id c =
    number id ∷ number c.0 ∷ number change ∷ Text c.1.name ∷ number (type_code c.1.ty)
    ∷ number (first_parameter c.1.ty)
    ∷ number (second_parameter c.1.ty) ∷ number (bit c.1.nullable) ∷ Num 0 position ∷ []

-- the row of a column of a new table
abbrev pub column_row : ℕ → ℕ × ColumnDef → Row
column_row id c = column_row_with 0 (pos c.1.key_position) id c

-- one for each column, by ordinal
unfoldable pub column_rows : TableDef → List Row
column_rows def = map (column_row def.id) (numbered 1 def.columns)

-- the row of a part of an index: index g has the items 1000 * g + 1 and on, and the place of the key has the
-- ordinal
abbrev pub index_row : ℕ → ℕ → List ℕ → ℕ × ℕ → Row
index_row id g name part =
    number id ∷ number (1000 * g + part.0) ∷ number 0 ∷ Text name ∷ number 0 ∷ number 0
    ∷ number 0 ∷ number 0 ∷ number part.1 ∷ []

-- one for each part of the index that is number g of its table
unfoldable pub index_rows : ℕ → ℕ → IndexDef → List Row
index_rows id g index = map (index_row id g index.name) (numbered 1 index.ordinals)

-- ---- rows of later changes

-- the kind in the row of a table: 3 or 4 where it was dropped
abbrev pub kind_in_row : TableDef → ℕ
kind_in_row def = if def.gone then kind_code def.kind + 2 else kind_code def.kind

-- the key position in the row of a column: -1 where it was dropped
abbrev pub position_in_row : TableDef → ℕ × ColumnDef → ℤ
position_in_row def c = if is_dropped def c.0 then negsuc 0 else pos c.1.key_position

-- the row of a table as this change leaves it
unfoldable pub changed_table_row : ℕ → TableDef → Row
changed_table_row change def = table_row_with change (kind_in_row def) def

-- the row of a column as this change leaves it
unfoldable pub changed_column_row : ℕ → TableDef → ℕ × ColumnDef → Row
changed_column_row change def c = column_row_with change (position_in_row def c) def.id c
