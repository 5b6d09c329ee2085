use Rattle.std.proofs.Common.{◌≡◌, take}
use Rattle.audit_definitions.specs.DefinitionRows.{rows_seen}
use Rattle.spec_asof.specs.DefTold.{dropped_told}
use Rattle.audit_asof.proofs.definitions.dropped_told.Given as goal

abbrev pub invariant-loop-ordinal : goal.invariant-loop-ordinal
invariant-loop-ordinal l =
    l.told.items ≡ dropped_told (rows_seen l.rows) (take l.ordinal-index l.dropped)
