use Rattle.std.proofs.Common.{◌≡◌, drop, flat_map, None}
use Rattle.audit_roots.specs.declared.shown.ImageTable.{ImageTable}
use Rattle.law_catalog_rows.specs.Least.{least_from}
use Rattle.spec_verify.specs.Entries.{table_event_cmp}
use Rattle.audit_verify.specs.Ids.{strangers_in}
use Rattle.audit_roots.specs.ImageTable.{table_of}
use Rattle.audit_verify.proofs.ids.least_stranger.Given as goal

abbrev pub invariant-loop-table : goal.invariant-loop-table
invariant-loop-table l =
    let strangers = λ (t : ImageTable). strangers_in l.entries.all.now (table_of t) in
    least_from table_event_cmp l.best (flat_map strangers (drop l.table-index l.tables)) ≡ least_from table_event_cmp None (flat_map strangers l.tables)
