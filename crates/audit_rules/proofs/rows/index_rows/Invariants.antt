use Rattle.std.proofs.Common.{◌≡◌, ◌++◌, drop, filter}
use Rattle.std.specs.Prelude.{not}
use Rattle.spec_rules.specs.Rows.{is_column_row}
use Rattle.audit_rules.specs.Seen.{seen}
use Rattle.audit_rules.proofs.rows.index_rows.Given as goal

abbrev pub invariant-loop-row : goal.invariant-loop-row
invariant-loop-row l = seen l.parts.items ++ filter (λ r. not (is_column_row r)) (seen (drop l.row-index l.rows)) ≡ filter (λ r. not (is_column_row r)) (seen l.rows)
