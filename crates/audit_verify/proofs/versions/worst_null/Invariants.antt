use Rattle.std.proofs.Common.{◌≡◌, drop}
use Rattle.law_catalog_rows.specs.Least.{least_from}
use Rattle.spec_verify.specs.Entries.{table_event_cmp}
use Rattle.audit_verify.specs.Versions.{null_among}
use Rattle.audit_verify.proofs.versions.worst_null.Given as goal

abbrev pub invariant-loop-row : goal.invariant-loop-row
invariant-loop-row l =
    least_from table_event_cmp l.worst (null_among l.columns.0 l.columns.1 l.def (drop l.row-index l.ranked)) ≡ least_from table_event_cmp l.fn.worst (null_among l.columns.0 l.columns.1 l.def l.ranked)
