use Rattle.std.proofs.Common.{◌≡◌, drop}
use Rattle.std.specs.List.{list_all}
use Rattle.spec_rules.specs.Places.{PlacedRow, stands_before}
use Rattle.audit_rules.specs.Seen.{seen}
use Rattle.audit_rules.proofs.indexes.is_before_all.Given as goal

abbrev pub invariant-loop-row : goal.invariant-loop-row
invariant-loop-row l =
    list_all (λ (s : PlacedRow). stands_before l.index.place s.place) (seen (drop l.row-index l.second))
    ≡ list_all (λ (s : PlacedRow). stands_before l.index.place s.place) (seen l.second)
