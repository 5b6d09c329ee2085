use Rattle.std.proofs.Common.{◌≡◌, drop, length}
use Rattle.std.specs.Prelude.{◌==◌, not}
use Rattle.spec_model.specs.Rows.{values_of}
use Rattle.law_catalog_rows.specs.Changes.{rows_before}
use Rattle.audit_definitions.specs.DefinitionRows.{rows_seen}
use Rattle.audit_definitions.proofs.changes.has_rows_before.Given as goal

abbrev pub invariant-loop-item : goal.invariant-loop-item
invariant-loop-item l =
    not (length (rows_before (rows_seen (drop l.item-index l.items)) (values_of l.row)) == 0)
    ≡ not (length (rows_before (rows_seen l.items) (values_of l.row)) == 0)
