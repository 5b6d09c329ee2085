use Rattle.std.proofs.Common.{◌≡◌, ◌++◌, drop, None}
use Rattle.audit_definitions.specs.DefinitionRows.{row_seen, rows_seen}
use Rattle.audit_definitions.specs.LatestRows.{newest}
use Rattle.audit_definitions.proofs.latest_rows.newest.Given as goal

abbrev pub invariant-loop-row : goal.invariant-loop-row
invariant-loop-row l =
    rows_seen l.latest.items ++ newest l.place (row_seen l.last) (rows_seen (drop l.row-index l.rows)) ≡ newest l.place None (rows_seen l.rows)
