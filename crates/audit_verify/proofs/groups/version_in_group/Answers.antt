use Rattle.std.proofs.Common.{List, sym, ap, subst, flat_map, ◌∙◌}
use Rattle.std.specs.List.{All}
use Rattle.law_catalog_rows.specs.Least.{least}
use Rattle.sql_types.specs.declared.entry.TxEntry.{TxEntry}
use Rattle.sql_types.specs.declared.version.Version.{Version}
use Rattle.spec_verify.specs.Entries.{table_event_cmp, event_place}
use Rattle.spec_verify.specs.Rules.{rows_of_image}
use Rattle.audit_roots.specs.declared.shown.ImageTable.{ImageTable}
use Rattle.audit_verify.specs.Groups.{faulty}
use Rattle.audit_verify.specs.Order.{AreStarted}
use Rattle.audit_verify.specs.Versions.{faulty_versions}
use Rattle.audit_roots.specs.ImageTable.{table_of}
use Rattle.audit_definitions.proofs.Walks.{over_map}
use Rattle.audit_verify.proofs.groups.version_in_group.Goals as goal

pub least_invalid_version-requires : goal.least_invalid_version-requires
least_invalid_version-requires c = subst (λ (seen : List TxEntry × List Version). All (AreStarted seen.0) c.args.tables.now) (sym c.in_ok-columns.ensures) c.requires

pub times_of-requires : goal.times_of-requires
times_of-requires c = ap (λ (seen : List TxEntry × List Version). seen.0) c.in_ok-columns.ensures

pub returns : goal.returns
returns c =
    let tables = c.args.tables.now in
    let rows = rows_of_image c.args.image.now in
    c.event_place.ensures
    ∙ ap event_place (c.in_ok-worst.ensures rows c.in_ok-times.ensures
    ∙ ap (least table_event_cmp) (ap (λ (seen : List TxEntry × List Version). flat_map (λ (t : ImageTable). faulty_versions seen.0 seen.1 rows (table_of t)) tables) c.in_ok-columns.ensures
    ∙ sym (over_map (faulty c.args.image.now) table_of tables)))
