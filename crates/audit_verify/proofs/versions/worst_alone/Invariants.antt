use Rattle.std.proofs.Common.{◌≡◌, drop}
use Rattle.law_catalog_rows.specs.Least.{least_from}
use Rattle.spec_verify.specs.Entries.{table_event_cmp}
use Rattle.audit_verify.specs.Versions.{unfit_among}
use Rattle.audit_verify.proofs.versions.worst_alone.Given as goal

abbrev pub invariant-loop-version : goal.invariant-loop-version
invariant-loop-version l =
    least_from table_event_cmp l.worst (unfit_among l.def (drop l.version-index l.versions)) ≡ least_from table_event_cmp l.fn.worst (unfit_among l.def l.versions)
