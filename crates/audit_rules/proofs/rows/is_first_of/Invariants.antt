use Rattle.std.proofs.Common.{◌≡◌, drop}
use Rattle.std.specs.List.{list_any}
use Rattle.law_catalog_rows.specs.Latest.{is_past}
use Rattle.spec_rules.specs.Places.{PlacedRow}
use Rattle.audit_rules.specs.Seen.{row_of, seen}
use Rattle.audit_rules.proofs.rows.is_first_of.Given as goal

abbrev pub invariant-loop-other : goal.invariant-loop-other
invariant-loop-other l =
    list_any (λ (b : PlacedRow). is_past l.thing (row_of l.row).row b.row) (seen (drop l.other-index l.rows))
    ≡ list_any (λ (b : PlacedRow). is_past l.thing (row_of l.row).row b.row) (seen l.rows)
