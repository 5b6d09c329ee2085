use Rattle.std.proofs.Common.{◌≡◌, drop}
use Rattle.std.specs.List.{list_all}
use Rattle.spec_rules.specs.Columns.{is_new_column}
use Rattle.audit_rules.specs.Seen.{seen}
use Rattle.audit_rules.proofs.columns.are_new.Given as goal

abbrev pub invariant-loop-row : goal.invariant-loop-row
invariant-loop-row l =
    list_all (is_new_column) (seen (drop l.row-index l.first))
    ≡ list_all (is_new_column) (seen l.first)
