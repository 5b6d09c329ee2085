use Rattle.std.proofs.Common.{◌≡◌, drop}
use Rattle.audit_definitions.specs.DefinitionRows.{row_seen, rows_seen}
use Rattle.spec_asof.specs.DefTold.{last_row, last_row_from}
use Rattle.audit_asof.proofs.rows.last_row.Given as goal

abbrev pub invariant-loop-row : goal.invariant-loop-row
invariant-loop-row l =
    last_row_from l.place l.thing (row_seen l.last) (rows_seen (drop l.row-index l.rows))
    ≡ last_row l.place l.thing (rows_seen l.rows)
