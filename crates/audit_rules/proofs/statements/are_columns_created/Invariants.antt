use Rattle.std.proofs.Common.{◌≡◌, drop}
use Rattle.std.specs.List.{list_all}
use Rattle.spec_rules.specs.OneStatement.{is_column_created}
use Rattle.audit_rules.specs.Seen.{seen}
use Rattle.audit_rules.proofs.statements.are_columns_created.Given as goal

abbrev pub invariant-loop-row : goal.invariant-loop-row
invariant-loop-row l =
    list_all (is_column_created) (seen (drop l.row-index l.items))
    ≡ list_all (is_column_created) (seen l.items)
