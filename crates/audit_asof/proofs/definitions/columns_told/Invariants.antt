use Rattle.std.proofs.Common.{◌≡◌, ◌+◌, ◌++◌, drop}
use Rattle.audit_definitions.specs.DefinitionRows.{rows_seen}
use Rattle.audit_asof.specs.Told.{columns_from}
use Rattle.audit_asof.proofs.definitions.columns_told.Given as goal

abbrev pub invariant-loop-place : goal.invariant-loop-place
invariant-loop-place l =
    l.told.items ++ columns_from (rows_seen l.rows) (l.place + 1) (drop l.place l.columns)
    ≡ columns_from (rows_seen l.rows) 1 l.columns
