use Rattle.std.proofs.Common.{◌≡◌, ◌++◌, drop}
use Rattle.spec_rules.specs.Rows.{earlier_than}
use Rattle.audit_rules.specs.Seen.{seen}
use Rattle.audit_rules.proofs.in_force.earlier_than.Given as goal

abbrev pub invariant-loop-row : goal.invariant-loop-row
invariant-loop-row l = seen l.earlier.items ++ earlier_than l.place (seen (drop l.row-index l.rows)) ≡ earlier_than l.place (seen l.rows)
