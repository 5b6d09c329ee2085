use Rattle.std.proofs.Common.{◌≡◌, map, length}
use Rattle.spec_model.specs.Keys.{same_key}
use Rattle.spec_model.specs.Rows.{value_or_null}
use Rattle.audit_definitions.specs.DefinitionRows.{value_of}
use Rattle.audit_definitions.specs.LatestRows.{with_zero}
use Rattle.audit_definitions.proofs.items.is_row.Given as goal

abbrev pub invariant-each : goal.invariant-each
invariant-each l =
    same_key (map value_of l.wanted) (with_zero l.zero_at (map value_or_null l.row))
    ≡ same_key (map value_of l.fn.wanted) (with_zero l.fn.zero_at (map value_or_null l.fn.row))

abbrev pub decreases-each : goal.decreases-each
decreases-each l = length l.row
