use Rattle.std.proofs.Common.{arith}
use Rattle.audit_definitions.specs.DefinitionRows.{rows_seen}
use Rattle.audit_asof.proofs.TellsOn.{columns_go_on}
use Rattle.audit_asof.proofs.definitions.columns_told.Goals as goal

pub loop-place-preserved : goal.loop-place-preserved
loop-place-preserved c =
    columns_go_on (rows_seen c.args.rows.now) c.args.columns.now c.loop-place.place c.index-columns-place.result c.loop-place.told.items c.tell_column.new.told.items _
    (omega (arith, c.loop-place-test.true)) c.index-columns-place.is c.in_ok-tell_column.ensures c.loop-place.invariant
