use Rattle.std.proofs.Common.{◌≡◌, drop}
use Rattle.std.specs.List.{list_all}
use Rattle.spec_rules.specs.OrderOfChanges.{is_greatest}
use Rattle.audit_rules.specs.Seen.{seen}
use Rattle.audit_rules.proofs.changes.are_greatest.Given as goal

abbrev pub invariant-loop-row : goal.invariant-loop-row
invariant-loop-row l =
    list_all (is_greatest l.changes) (seen (drop l.row-index l.rows))
    ≡ list_all (is_greatest l.changes) (seen l.rows)
