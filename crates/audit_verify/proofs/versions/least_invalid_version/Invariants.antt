use Rattle.std.proofs.Common.{◌≡◌, drop, flat_map, None}
use Rattle.law_catalog_rows.specs.Least.{least_from}
use Rattle.spec_rules.specs.Rows.{CatalogRows}
use Rattle.spec_verify.specs.Entries.{table_event_cmp}
use Rattle.audit_rules.specs.Times.{AreTimes}
use Rattle.audit_roots.specs.declared.shown.ImageTable.{ImageTable}
use Rattle.audit_roots.specs.ImageTable.{table_of}
use Rattle.audit_verify.specs.Versions.{faulty_versions}
use Rattle.audit_verify.proofs.versions.least_invalid_version.Given as goal

abbrev pub invariant-loop-table : goal.invariant-loop-table
invariant-loop-table l = (rows : CatalogRows) → AreTimes rows l.times
    → least_from table_event_cmp l.worst (flat_map (λ (t : ImageTable). faulty_versions l.columns.0 l.columns.1 rows (table_of t)) (drop l.table-index l.tables))
    ≡ least_from table_event_cmp None (flat_map (λ (t : ImageTable). faulty_versions l.columns.0 l.columns.1 rows (table_of t)) l.tables)
