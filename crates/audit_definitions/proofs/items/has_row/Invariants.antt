use Rattle.std.proofs.Common.{◌≡◌, map, drop}
use Rattle.audit_definitions.specs.DefinitionRows.{value_of, rows_seen, has_row}
use Rattle.audit_definitions.proofs.items.has_row.Given as goal

abbrev pub invariant-loop-row : goal.invariant-loop-row
invariant-loop-row l = has_row (rows_seen (drop l.row-index l.rows)) (map value_of l.wanted) ≡ has_row (rows_seen l.rows) (map value_of l.wanted)
