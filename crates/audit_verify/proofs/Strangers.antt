-- Strangers among the events of an image are those of each version.
use Rattle.std.proofs.Common.{◌≡◌, sym, ap, ◌∙◌, ℕ, Bool, cond, List, [], ◌∷◌, ◌++◌, map, flat_map, filter, Option, Some}
use Rattle.std.proofs.lemmas.List.Concat.{flat_map-append}
use Rattle.sql_types.specs.declared.entry.TxEntry.{TxEntry}
use Rattle.sql_types.specs.declared.event.Event.{Event}
use Rattle.sql_types.specs.declared.image.Image.{Image}
use Rattle.sql_types.specs.declared.version.Table.{Table}
use Rattle.sql_types.specs.declared.version.Version.{Version}
use Rattle.spec_model.specs.Events.{start_event, end_events, version_events}
use Rattle.spec_model.specs.Rows.{EventId}
use Rattle.law_catalog_rows.specs.Least.{lesser, least_from}
use Rattle.format_image.specs.Tables.{tables_in}
use Rattle.spec_verify.specs.Entries.{TableEvent, table_event_cmp, has_id, events_in, strangers}
use Rattle.audit_roots.specs.declared.shown.ImageTable.{ImageTable}
use Rattle.audit_verify.specs.Ids.{is_stranger, strangers_of, strangers_in}
use Rattle.audit_roots.specs.ImageTable.{def_of, rows_of, table_of, AreImageTables}
use Rattle.audit_roots.proofs.Tables.{are_tables}
use Rattle.audit_definitions.proofs.Walks.{filter_parts, map_parts, over_map, one_tested, least_append}

abbrev as_event : Event → TableEvent
as_event e = (e.table, (e.tx, e.seq))

by_version : (entries : List TxEntry) (t : Table) → strangers_in entries t ≡ flat_map (strangers_of entries t.def.id) t.versions
by_version entries t =
    ap (filter (is_stranger entries)) (map_parts as_event (version_events t.def.id) t.versions)
    ∙ filter_parts (is_stranger entries) (λ v. map as_event (version_events t.def.id v)) t.versions

pub by_part : (entries : List TxEntry) (s : ImageTable)
    → strangers_in entries (table_of s) ≡ flat_map (strangers_of entries (def_of s).id) (rows_of s).base ++ flat_map (strangers_of entries (def_of s).id) (rows_of s).history
by_part entries s =
    by_version entries (table_of s) ∙ flat_map-append (strangers_of entries (def_of s).id) (rows_of s).base (rows_of s).history

pub by_table : (ts : List ImageTable) (i : Image) → AreImageTables ts i → strangers i ≡ flat_map (λ t. strangers_in i.entries (table_of t)) ts
by_table ts i s =
    filter_parts (is_stranger i.entries) events_in (tables_in i)
    ∙ ap (flat_map (strangers_in i.entries)) (sym (are_tables ts i s))
    ∙ over_map (strangers_in i.entries) table_of ts

-- a version that has ended has two events
pub two_events : (entries : List TxEntry) (table : ℕ) (v : Version) (end : EventId) (best first found : Option TableEvent) → v.end ≡ Some end
    → first ≡ cond (has_id entries v.start.0) best (lesser table_event_cmp best (table, v.start))
    → found ≡ cond (has_id entries end.0) first (lesser table_event_cmp first (table, end))
    → found ≡ least_from table_event_cmp best (strangers_of entries table v)
two_events entries table v end best first found ends first_is found_is =
    let has : TableEvent → Bool = λ (e : TableEvent). has_id entries e.1.0 in
    found_is
    ∙ ap (λ b. cond (has_id entries end.0) b (lesser table_event_cmp b (table, end))) first_is
    ∙ sym (ap (λ (o : Option EventId). least_from table_event_cmp best (filter (is_stranger entries) (map as_event (start_event table v ∷ end_events table v o)))) ends
    ∙ one_tested table_event_cmp has best (table, v.start) ((table, end) ∷ [])
    ∙ one_tested table_event_cmp has (cond (has_id entries v.start.0) best (lesser table_event_cmp best (table, v.start))) (table, end) [])

-- base, then history
pub least_of_parts : (entries : List TxEntry) (s : ImageTable) (best : Option TableEvent)
    → least_from table_event_cmp best (strangers_in entries (table_of s))
    ≡ least_from table_event_cmp (least_from table_event_cmp best (flat_map (strangers_of entries (def_of s).id) (rows_of s).base)) (flat_map (strangers_of entries (def_of s).id) (rows_of s).history)
least_of_parts entries s best =
    ap (least_from table_event_cmp best) (by_part entries s)
    ∙ least_append table_event_cmp best (flat_map (strangers_of entries (def_of s).id) (rows_of s).base) (flat_map (strangers_of entries (def_of s).id) (rows_of s).history)
