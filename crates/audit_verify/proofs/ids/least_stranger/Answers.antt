use Rattle.spec_verify.specs.Entries.{table_event_cmp}
use Rattle.audit_roots.specs.declared.shown.ImageTable.{ImageTable}
use Rattle.audit_verify.specs.Ids.{strangers_in}
use Rattle.audit_roots.specs.ImageTable.{table_of}
use Rattle.audit_definitions.proofs.Walks.{least_next}
use Rattle.audit_verify.proofs.ids.least_stranger.Goals as goal

pub loop-table-preserved : goal.loop-table-preserved
loop-table-preserved c =
    least_next table_event_cmp (λ (t : ImageTable). strangers_in c.args.entries.now.all.now (table_of t)) c.loop-table.best c.lesser_in-best.result _ c.args.tables.now c.loop-table.table-index c.table-item.result
    c.loop-table-test.true c.table-item.is c.lesser_in-best.ensures c.loop-table.invariant
