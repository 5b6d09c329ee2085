use Rattle.spec_verify.specs.Entries.{table_event_cmp}
use Rattle.audit_roots.specs.declared.shown.ImageTable.{ImageTable}
use Rattle.audit_roots.specs.ImageTable.{table_of}
use Rattle.audit_verify.specs.Order.{AreStarted}
use Rattle.audit_verify.specs.Versions.{faulty_versions}
use Rattle.audit_definitions.proofs.Walks.{all_at, least_next}
use Rattle.audit_verify.proofs.versions.least_invalid_version.Goals as goal

pub worst_in-requires : goal.worst_in-requires
worst_in-requires c = all_at (AreStarted c.args.columns.now.0) c.args.tables.now c.loop-table.table-index c.table-item.result c.requires c.loop-table-test.true c.table-item.is

pub loop-table-preserved : goal.loop-table-preserved
loop-table-preserved c =
    λ rows times.
    least_next table_event_cmp (λ (t : ImageTable). faulty_versions c.args.columns.now.0 c.args.columns.now.1 rows (table_of t)) c.loop-table.worst c.in_ok-worst.worst _ c.args.tables.now c.loop-table.table-index c.table-item.result
    c.loop-table-test.true c.table-item.is (c.in_ok-worst.ensures rows times) (c.loop-table.invariant rows times)
