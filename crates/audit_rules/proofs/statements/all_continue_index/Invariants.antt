use Rattle.std.proofs.Common.{◌≡◌, drop}
use Rattle.std.specs.List.{list_all}
use Rattle.spec_rules.specs.OneStatement.{continues_index}
use Rattle.audit_rules.specs.Seen.{seen}
use Rattle.audit_rules.proofs.statements.all_continue_index.Given as goal

abbrev pub invariant-loop-row : goal.invariant-loop-row
invariant-loop-row l =
    list_all (continues_index l.first) (seen (drop l.row-index l.items))
    ≡ list_all (continues_index l.first) (seen l.items)
