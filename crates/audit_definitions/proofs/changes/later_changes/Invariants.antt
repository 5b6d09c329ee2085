use Rattle.std.proofs.Common.{◌≡◌, ◌++◌, drop}
use Rattle.law_catalog_rows.specs.Changes.{later_changes}
use Rattle.audit_definitions.specs.DefinitionRows.{rows_seen}
use Rattle.audit_definitions.proofs.changes.later_changes.Given as goal

abbrev pub invariant-loop-table : goal.invariant-loop-table
invariant-loop-table l = l.changes.items ++ later_changes 0 (rows_seen (drop l.table-index l.tables)) ≡ later_changes 0 (rows_seen l.tables)

abbrev pub invariant-loop-item : goal.invariant-loop-item
invariant-loop-item l =
    l.changes.items ++ later_changes 1 (rows_seen (drop l.item-index l.items)) ≡ later_changes 0 (rows_seen l.tables) ++ later_changes 1 (rows_seen l.items)
