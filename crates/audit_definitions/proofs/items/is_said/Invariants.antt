use Rattle.std.proofs.Common.{◌≡◌, map, drop}
use Rattle.audit_definitions.specs.DefinitionRows.{value_of, rows_seen, is_said}
use Rattle.audit_definitions.proofs.items.is_said.Given as goal

abbrev pub invariant-loop-row : goal.invariant-loop-row
invariant-loop-row l = is_said l.place (rows_seen (drop l.row-index l.rows)) (map value_of l.wanted) ≡ is_said l.place (rows_seen l.rows) (map value_of l.wanted)
