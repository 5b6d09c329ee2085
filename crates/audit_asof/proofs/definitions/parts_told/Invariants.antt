use Rattle.std.proofs.Common.{◌≡◌, ◌+◌, ◌++◌, drop}
use Rattle.audit_definitions.specs.DefinitionRows.{rows_seen}
use Rattle.audit_asof.specs.Told.{parts_from}
use Rattle.audit_asof.proofs.definitions.parts_told.Given as goal

abbrev pub invariant-loop-place : goal.invariant-loop-place
invariant-loop-place l =
    l.told.items ++ parts_from (rows_seen l.rows) l.id (l.others + 1) l.name (l.place + 1) (drop l.place l.ordinals)
    ≡ parts_from (rows_seen l.rows) l.id (l.others + 1) l.name 1 l.ordinals
