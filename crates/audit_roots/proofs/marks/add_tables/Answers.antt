use Rattle.std.proofs.Common.{arith}
use Rattle.audit_roots.specs.Marks.{HaveEncodableValues, events_shown}
use Rattle.audit_roots.proofs.Owned.{part_next}
use Rattle.audit_definitions.proofs.Walks.{all_at}
use Rattle.audit_roots.proofs.marks.add_tables.Goals as goal

pub add_table-requires : goal.add_table-requires
add_table-requires c = all_at HaveEncodableValues c.args.tables.now c.loop-table.table-index c.table-item.result c.requires c.loop-table-test.true c.table-item.is

pub loop-table-preserved : goal.loop-table-preserved
loop-table-preserved c = record {
  values = λ h. c.in_ok-add_table.ensures.values (c.loop-table.invariant.values h);
  events = part_next events_shown _ _ _ c.args.tables.now c.loop-table.table-index c.table-item.result (omega (arith, c.loop-table-test.true)) c.table-item.is
      c.in_ok-add_table.ensures.events c.loop-table.invariant.events;
}
