use Rattle.std.proofs.Common.{List, sym, ap, ◌∙◌, flat_map}
use Rattle.sql_types.specs.declared.entry.TxEntry.{TxEntry}
use Rattle.law_catalog_rows.specs.Least.{least}
use Rattle.spec_verify.specs.Entries.{table_event_cmp, event_place, least_event, strangers, id_fault}
use Rattle.spec_model.specs.Lists.{or_else}
use Rattle.audit_verify.specs.Ids.{repeated_in, strangers_in}
use Rattle.audit_roots.specs.ImageTable.{table_of}
use Rattle.audit_verify.proofs.Strangers.{by_table}
use Rattle.audit_verify.proofs.ids.id_fault.Goals as goal

pub returns-in-Some : goal.returns-in-Some
unfolding id_fault
returns-in-Some c =
    ap (λ o. or_else o (least_event (strangers c.args.image.now))) (c.in-Some.ensures ∙ ap repeated_in c.requires.entries)

pub returns-in-None : goal.returns-in-None
unfolding id_fault
returns-in-None c =
    c.event_place.ensures
    ∙ ap event_place (c.least_stranger.ensures
    ∙ ap (λ (es : List TxEntry). least table_event_cmp (flat_map (λ t. strangers_in es (table_of t)) c.args.tables.now)) c.requires.entries
    ∙ ap (least table_event_cmp) (sym (by_table c.args.tables.now c.args.image.now c.requires.tables)))
    ∙ ap (λ o. or_else o (least_event (strangers c.args.image.now))) (c.in-None.ensures ∙ ap repeated_in c.requires.entries)
