use Rattle.std.proofs.Common.{◌≡◌, drop, flat_map}
use Rattle.law_catalog_rows.specs.Least.{least_from}
use Rattle.spec_verify.specs.Entries.{table_event_cmp}
use Rattle.audit_verify.specs.Ids.{strangers_of}
use Rattle.audit_verify.proofs.ids.lesser_among.Given as goal

abbrev pub invariant-loop-version : goal.invariant-loop-version
invariant-loop-version l =
    least_from table_event_cmp l.best (flat_map (strangers_of l.entries.all.now l.table) (drop l.version-index l.versions))
    ≡ least_from table_event_cmp l.fn.best (flat_map (strangers_of l.entries.all.now l.table) l.versions)
