use Rattle.std.proofs.Common.{arith}
use Rattle.audit_roots.specs.EventIds.{ids_shown}
use Rattle.audit_roots.proofs.Owned.{part_next}
use Rattle.audit_roots.proofs.event_ids.add_tables.Goals as goal

pub loop-table-preserved : goal.loop-table-preserved
loop-table-preserved c =
    part_next ids_shown _ _ _ c.args.tables.now c.loop-table.table-index c.table-item.result (omega (arith, c.loop-table-test.true)) c.table-item.is
    c.in_ok-add_table.ensures c.loop-table.invariant
