use Rattle.std.proofs.Common.{◌≡◌, drop}
use Rattle.std.specs.List.{list_all}
use Rattle.std.specs.Prelude.{◌||◌, not}
use Rattle.spec_rules.specs.Places.{PlacedRow, stands_before}
use Rattle.spec_rules.specs.Rows.{has_no_change}
use Rattle.audit_rules.specs.Seen.{seen}
use Rattle.audit_rules.proofs.ids.is_before_all_created.Given as goal

abbrev pub invariant-loop-other : goal.invariant-loop-other
invariant-loop-other l =
    list_all (λ (r : PlacedRow). not (has_no_change 0 r) || stands_before l.row.place r.place) (seen (drop l.other-index l.own))
    ≡ list_all (λ (r : PlacedRow). not (has_no_change 0 r) || stands_before l.row.place r.place) (seen l.own)
