-- Rows that start.
use Rattle.std.specs.Prelude.{List, map}
use Rattle.sql_value.specs.declared.column.ColumnDef.{ColumnDef}
use Rattle.spec_model.specs.Rows.{Row, stored_row}
use Rattle.spec_model.specs.Changes.{Change, Starts}

-- the starts of rows in a table with these columns
abbrev pub started_rows : List ColumnDef → List Row → List Change
started_rows columns rows = map (λ row. Starts (stored_row columns row)) rows
