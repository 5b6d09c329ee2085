use Rattle.std.proofs.Common.{◌≡◌, ◌++◌, drop, map}
use Rattle.spec_rules.specs.OrderOfChanges.{change_at}
use Rattle.audit_rules.specs.Seen.{seen}
use Rattle.audit_rules.proofs.changes.add_changes.Given as goal

abbrev pub invariant-loop-row : goal.invariant-loop-row
invariant-loop-row l =
    l.changes.items ++ map (change_at l.thing) (seen (drop l.row-index l.rows)) ≡ l.initial.changes.items ++ map (change_at l.thing) (seen l.rows)
