use Rattle.std.proofs.Common.{◌≡◌, ◌++◌, drop, filter}
use Rattle.spec_rules.specs.Rows.{is_about_table}
use Rattle.audit_rules.specs.Seen.{seen}
use Rattle.audit_rules.proofs.rows.rows_about.Given as goal

abbrev pub invariant-loop-row : goal.invariant-loop-row
invariant-loop-row l = seen l.own.items ++ filter (is_about_table l.table) (seen (drop l.row-index l.rows)) ≡ filter (is_about_table l.table) (seen l.rows)
