use Rattle.std.proofs.Common.{◌≡◌, drop}
use Rattle.audit_rules.specs.InForce.{is_superseded}
use Rattle.audit_rules.specs.Seen.{row_of, seen}
use Rattle.audit_rules.proofs.table_names.is_superseded.Given as goal

abbrev pub invariant-loop-other : goal.invariant-loop-other
invariant-loop-other l =
    is_superseded l.place (row_of l.row) (seen (drop l.other-index l.rest)) ≡ is_superseded l.place (row_of l.row) (seen l.rest)
