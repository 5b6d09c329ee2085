use Rattle.std.proofs.Common.{◌≡◌, drop}
use Rattle.std.specs.List.{list_all}
use Rattle.law_catalog_rows.specs.Changes.{follows}
use Rattle.audit_definitions.specs.DefinitionRows.{rows_seen}
use Rattle.audit_definitions.proofs.changes.items_follow.Given as goal

abbrev pub invariant-loop-row : goal.invariant-loop-row
invariant-loop-row l = list_all (follows (rows_seen l.items)) (rows_seen (drop l.row-index l.latest)) ≡ list_all (follows (rows_seen l.items)) (rows_seen l.latest)
