use Rattle.std.proofs.Common.{◌≡◌, ◌++◌, drop}
use Rattle.audit_columns.specs.ColumnRows.{read_rows}
use Rattle.audit_columns.proofs.column_rows.read_rows.Given as goal

abbrev pub invariant-loop-row : goal.invariant-loop-row
invariant-loop-row l = l.read.items ++ read_rows l.positions l.columns (drop l.row-index l.rows) ≡ read_rows l.positions l.columns l.rows
