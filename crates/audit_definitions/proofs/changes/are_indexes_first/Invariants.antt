use Rattle.std.proofs.Common.{◌≡◌, drop}
use Rattle.std.specs.List.{list_all}
use Rattle.std.specs.Prelude.{◌||◌, not}
use Rattle.spec_model.specs.Rows.{Row}
use Rattle.law_catalog_rows.specs.Changes.{is_first, is_of_index}
use Rattle.audit_definitions.specs.DefinitionRows.{rows_seen}
use Rattle.audit_definitions.proofs.changes.are_indexes_first.Given as goal

abbrev pub invariant-loop-item : goal.invariant-loop-item
invariant-loop-item l =
    let right = λ (row : Row). not (is_of_index row) || is_first 1 row in
    list_all right (rows_seen (drop l.item-index l.items)) ≡ list_all right (rows_seen l.items)
