-- Small catalogs, for worked examples: a table that was created, and a row more that keeps a rule or breaks it.
use Rattle.std.specs.Prelude.{ℕ, pos, negsuc, false, true, List, [], ◌∷◌, codes}
use Rattle.sql_value.specs.declared.column.ColumnDef.{ColumnDef}
use Rattle.sql_value.specs.declared.sql_type.SqlType.TheVariants.{Int}
use Rattle.sql_types.specs.declared.table.TableDef.{TableDef}
use Rattle.spec_model.specs.Alter.{dropped_column_name, dropped_table}
use Rattle.spec_model.specs.Create.{table_def}
use Rattle.spec_model.specs.Rows.{Row}
use Rattle.spec_model.specs.SystemTables.{a_column, changed_table_row, column_row, column_row_with, index_row, table_row}
use Rattle.law_catalog_rows.specs.Samples.{create}
use Rattle.spec_rules.specs.Places.{PlacedRow}
use Rattle.spec_rules.specs.Rows.{CatalogRows}

-- the row starts as this event of the transaction at this position
abbrev pub at : ℕ → ℕ → Row → PlacedRow
at position n row = record { place = (position, n); row = row }

abbrev pub id_column : ColumnDef
id_column = a_column (codes "id") Int false 1

abbrev pub v_column : ColumnDef
v_column = a_column (codes "v") Int true 0

-- id INT, and v INT NULL
abbrev pub def : TableDef
def = table_def 3 (create (codes "t") (codes "h") (a_column (codes "id") Int false 0 ∷ v_column ∷ []))

-- CREATE TABLE as transaction 0, and these rows besides
abbrev pub with_rows : List PlacedRow → List PlacedRow → CatalogRows
with_rows tables items =
    record {
      tables = at 0 0 (table_row def) ∷ tables;
      items = at 0 1 (column_row 3 (1, id_column)) ∷ at 0 2 (column_row 3 (2, v_column)) ∷ items;
    }

-- the row of a column with this ordinal that was added by this change
abbrev pub added : ℕ → ℕ → ColumnDef → Row
added ordinal change c = column_row_with change (pos 0) 3 (ordinal, c)

abbrev pub named : List ℕ → ColumnDef
named name = a_column name Int true 0

-- v was dropped
abbrev pub v_dropped : ℕ → Row
v_dropped change = column_row_with change (negsuc 0) 3 (2, named (dropped_column_name (codes "v") 2))

-- the table was dropped
abbrev pub t_dropped : ℕ → Row
t_dropped change = changed_table_row change (dropped_table def)

-- an index of one part, on the column with this ordinal
abbrev pub index_on : ℕ → Row
index_on ordinal = index_row 3 1 (codes "i") (1, ordinal)

-- the row of another table
abbrev pub another : ℕ → List ℕ → Row
another id name = table_row (table_def id (create name (codes "g") (v_column ∷ [])))
