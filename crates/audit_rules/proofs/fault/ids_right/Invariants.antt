use Rattle.std.proofs.Common.{◌≡◌, ◌++◌, drop}
use Rattle.audit_rules.specs.Faults.{ids_right}
use Rattle.audit_rules.proofs.fault.ids_right.Given as goal

abbrev pub invariant-loop-id : goal.invariant-loop-id
invariant-loop-id l = l.right.items ++ ids_right l.catalog.0 l.catalog.1 (drop l.id-index l.ids) ≡ ids_right l.catalog.0 l.catalog.1 l.ids
