use Rattle.std.proofs.Common.{◌≡◌, drop}
use Rattle.std.specs.List.{list_all}
use Rattle.spec_rules.specs.OrderOfChanges.{rises_by_ordinal}
use Rattle.audit_rules.specs.Seen.{row_of, seen}
use Rattle.audit_rules.proofs.changes.rises_by_ordinal_to_all.Given as goal

abbrev pub invariant-loop-b : goal.invariant-loop-b
invariant-loop-b l =
    list_all (rises_by_ordinal (row_of l.a)) (seen (drop l.b-index l.columns))
    ≡ list_all (rises_by_ordinal (row_of l.a)) (seen l.columns)
