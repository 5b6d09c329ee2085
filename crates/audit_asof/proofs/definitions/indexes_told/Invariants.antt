use Rattle.std.proofs.Common.{◌≡◌, ◌+◌, ◌++◌, drop}
use Rattle.audit_definitions.specs.DefinitionRows.{rows_seen}
use Rattle.audit_asof.specs.Told.{indexes_from}
use Rattle.audit_asof.proofs.definitions.indexes_told.Given as goal

abbrev pub invariant-loop-others : goal.invariant-loop-others
invariant-loop-others l =
    l.told.items ++ indexes_from (rows_seen l.rows) l.id (l.others + 1) (drop l.others l.indexes)
    ≡ indexes_from (rows_seen l.rows) l.id 1 l.indexes
