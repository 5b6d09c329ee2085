use Rattle.std.proofs.Common.{◌≡◌, drop}
use Rattle.std.specs.List.{list_all}
use Rattle.spec_rules.specs.OrderOfChanges.{rises_by_ordinal}
use Rattle.audit_rules.specs.Seen.{seen}
use Rattle.audit_rules.proofs.changes.rise_by_ordinal.Given as goal

abbrev pub invariant-loop-a : goal.invariant-loop-a
invariant-loop-a l =
    list_all (λ a. list_all (rises_by_ordinal a) (seen l.columns)) (seen (drop l.a-index l.columns))
    ≡ list_all (λ a. list_all (rises_by_ordinal a) (seen l.columns)) (seen l.columns)
