use Rattle.std.proofs.Common.{◌≡◌, ◌++◌, drop, filter}
use Rattle.spec_rules.specs.Rows.{is_column_row}
use Rattle.audit_rules.specs.Seen.{seen}
use Rattle.audit_rules.proofs.rows.column_rows.Given as goal

abbrev pub invariant-loop-row : goal.invariant-loop-row
invariant-loop-row l = seen l.columns.items ++ filter (is_column_row) (seen (drop l.row-index l.rows)) ≡ filter (is_column_row) (seen l.rows)
