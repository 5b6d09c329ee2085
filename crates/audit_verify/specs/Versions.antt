-- Versions that don't fit their table.
use Rattle.std.specs.Prelude.{◌&&◌, not, Bool, List, map, is_some}
use Rattle.std.specs.List.{filter}
use Rattle.sql_types.specs.declared.entry.TxEntry.{TxEntry}
use Rattle.sql_types.specs.declared.table.TableDef.{TableDef}
use Rattle.sql_types.specs.declared.version.Table.{Table}
use Rattle.sql_types.specs.declared.version.Version.{Version}
use Rattle.spec_model.specs.Checks.{is_append_only}
use Rattle.spec_verify.specs.Entries.{TableEvent}
use Rattle.spec_rules.specs.Rows.{CatalogRows}
use Rattle.spec_verify.specs.Order.{before, latest}
use Rattle.spec_verify.specs.Versions.{has_columns, respects_columns, version_holds, with_columns}
use Rattle.audit_verify.specs.Order.{keeps_rules}
use Rattle.audit_verify.specs.declared.order.VersionWithRanks.{VersionWithRanks}

-- a version keeps the rules of changes, if its table is a user's
abbrev pub keeps : List TxEntry → CatalogRows → Table → Version → Bool
keeps entries rows t v =
    keeps_rules entries rows t.def.id
    (latest entries (before entries t.def.columns (with_columns t.def.columns t.versions) v)) v

-- the starts of the versions of a table that it may not have, or that break a rule
abbrev pub faulty_versions : List TxEntry → List Version → CatalogRows → Table → List TableEvent
faulty_versions entries second rows t =
    map (λ (v : Version). (t.def.id, v.start))
    (filter (λ v. not (version_holds entries second t v && keeps entries rows t v)) t.versions)

-- by itself: its values are those of the table's columns, and it has no end where the table is append-only
abbrev pub fits_alone : TableDef → Version → Bool
fits_alone def v = has_columns def.columns v.values && not (is_append_only def.kind && is_some v.end)

-- the starts of those of these versions that don't
abbrev pub unfit_among : TableDef → List Version → List TableEvent
unfit_among def versions =
    map (λ (v : Version). (def.id, v.start)) (filter (λ v. not (fits_alone def v)) versions)

-- the starts of those of these versions in which NULL stands where it may not
abbrev pub null_among : List TxEntry → List Version → TableDef → List VersionWithRanks → List TableEvent
null_among entries second def ranked =
    map (λ (r : VersionWithRanks). (def.id, r.version.now.start))
    (filter (λ (r : VersionWithRanks). not (respects_columns entries second def r.version.now)) ranked)
