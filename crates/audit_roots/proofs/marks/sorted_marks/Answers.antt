use Rattle.std.proofs.Common.{List, ◌++◌, ap, sym, ◌∙◌, map, flat_map, arith}
use Rattle.std.specs.List.{All}
use Rattle.spec_model.specs.Lists.{sorted}
use Rattle.audit_roots.specs.declared.marks.Mark.{Mark}
use Rattle.audit_roots.specs.Marks.{event_of, events_in, events_shown, leaf_cmp, HasValues}
use Rattle.audit_roots.specs.ImageTable.{table_of}
use Rattle.audit_definitions.proofs.Walks.{over_map}
use Rattle.audit_roots.proofs.marks.sorted_marks.Goals as goal

pub returns : goal.returns
returns c =
    let tables = c.args.tables.now in
    let none : All HasValues c.new-marks.result.items = rw c.new-marks.ensures.items (λ k d lt. absurd (omega (arith, lt))) in
    record {
      events =
          c.in_ok-sort_marks.ensures.events
          ∙ ap (sorted leaf_cmp) (c.in_ok-add_tables.ensures.events
          ∙ ap (λ (ms : List Mark). map event_of ms ++ flat_map events_shown tables) c.new-marks.ensures.items
          ∙ sym (over_map events_in table_of tables));
      rise = c.in_ok-sort_marks.ensures.rise;
      values = c.sort_marks.ensures.values (c.in_ok-add_tables.ensures.values none);
    }
