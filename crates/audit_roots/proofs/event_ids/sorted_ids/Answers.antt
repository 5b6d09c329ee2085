use Rattle.std.proofs.Common.{List, ◌++◌, ap, sym, ◌∙◌, flat_map}
use Rattle.spec_model.specs.Lists.{sorted}
use Rattle.spec_model.specs.Rows.{EventId, event_cmp}
use Rattle.audit_roots.specs.EventIds.{ids_in, ids_shown}
use Rattle.audit_roots.specs.ImageTable.{table_of}
use Rattle.audit_definitions.proofs.Walks.{over_map}
use Rattle.audit_roots.proofs.event_ids.sorted_ids.Goals as goal

pub returns : goal.returns
returns c =
    let tables = c.args.tables.now in
    record {
      ids_are =
          c.in_ok-sort_ids.ensures.ids
          ∙ ap (sorted event_cmp) (c.in_ok-add_tables.ensures
          ∙ ap (λ (l : List EventId). l ++ flat_map ids_shown tables) c.new-ids.ensures.items
          ∙ sym (over_map ids_in table_of tables));
      rise = c.in_ok-sort_ids.ensures.rise;
    }
