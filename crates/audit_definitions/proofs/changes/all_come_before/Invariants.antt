use Rattle.std.proofs.Common.{◌≡◌, drop}
use Rattle.std.specs.List.{list_all}
use Rattle.spec_model.specs.Rows.{values_of}
use Rattle.law_catalog_rows.specs.Changes.{comes_before, rows_before}
use Rattle.audit_definitions.specs.DefinitionRows.{rows_seen}
use Rattle.audit_definitions.proofs.changes.all_come_before.Given as goal

abbrev pub invariant-loop-item : goal.invariant-loop-item
invariant-loop-item l =
    list_all (comes_before (values_of l.row)) (rows_before (rows_seen (drop l.item-index l.items)) (values_of l.row))
    ≡ list_all (comes_before (values_of l.row)) (rows_before (rows_seen l.items) (values_of l.row))
