use Rattle.std.proofs.Common.{◌≡◌, drop}
use Rattle.std.specs.Prelude.{◌&&◌}
use Rattle.std.specs.List.{list_any}
use Rattle.spec_rules.specs.Places.{PlacedRow, stands_before}
use Rattle.spec_rules.specs.Rows.{same_thing}
use Rattle.audit_rules.specs.Seen.{row_of, seen}
use Rattle.audit_rules.proofs.in_force.is_last_of.Given as goal

abbrev pub invariant-loop-other : goal.invariant-loop-other
invariant-loop-other l =
    list_any (λ (b : PlacedRow). same_thing 1 b (row_of l.row) && stands_before l.row.place b.place) (seen (drop l.other-index l.rows))
    ≡ list_any (λ (b : PlacedRow). same_thing 1 b (row_of l.row) && stands_before l.row.place b.place) (seen l.rows)
