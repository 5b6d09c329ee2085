use Rattle.std.proofs.Common.{◌≡◌, ◌≤◌, ◌+◌, drop, filter, length}
use Rattle.law_catalog_rows.specs.Changes.{is_first}
use Rattle.audit_definitions.specs.DefinitionRows.{rows_seen}
use Rattle.audit_definitions.proofs.changes.has_one_first.Given as goal

abbrev pub invariant-loop-table : goal.invariant-loop-table
invariant-loop-table l = record {
  few : l.count ≤ l.table-index;
  count : l.count + length (filter (is_first 0) (rows_seen (drop l.table-index l.tables))) ≡ length (filter (is_first 0) (rows_seen l.tables));
}
