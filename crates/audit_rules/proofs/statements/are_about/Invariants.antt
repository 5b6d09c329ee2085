use Rattle.std.proofs.Common.{◌≡◌, drop}
use Rattle.std.specs.Prelude.{pos}
use Rattle.std.specs.List.{list_all}
use Rattle.spec_rules.specs.Rows.{is_about_table}
use Rattle.audit_rules.specs.Seen.{seen}
use Rattle.audit_rules.proofs.statements.are_about.Given as goal

abbrev pub invariant-loop-row : goal.invariant-loop-row
invariant-loop-row l =
    list_all (is_about_table (pos l.table)) (seen (drop l.row-index l.rows))
    ≡ list_all (is_about_table (pos l.table)) (seen l.rows)
