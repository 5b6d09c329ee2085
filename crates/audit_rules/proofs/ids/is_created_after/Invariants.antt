use Rattle.std.proofs.Common.{◌≡◌, drop, filter}
use Rattle.std.specs.List.{list_any}
use Rattle.spec_rules.specs.Ids.{is_created_before}
use Rattle.spec_rules.specs.Rows.{is_about_table}
use Rattle.audit_rules.specs.Seen.{seen}
use Rattle.audit_rules.proofs.ids.is_created_after.Given as goal

abbrev pub invariant-loop-row : goal.invariant-loop-row
invariant-loop-row l =
    list_any (is_created_before (seen l.own)) (filter (is_about_table l.before) (seen (drop l.row-index l.tables)))
    ≡ list_any (is_created_before (seen l.own)) (filter (is_about_table l.before) (seen l.tables))
