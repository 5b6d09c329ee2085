use Rattle.std.proofs.Common.{◌∙◌}
use Rattle.store_table.proofs.Moves.{ends_left}
use Rattle.store_table.proofs.orders.take_live.Goals as goal

pub returns-clause-are : goal.returns-clause-are
returns-clause-are c =
    let are_indexed = c.requires.are.are_indexed in
    record {
      are_indexed = record {
        no_ordinals = c.take_start.ensures.ordinals ∙ are_indexed.no_ordinals;
        in_key_order = c.take_start.ensures.order;
        indexed = c.take_start_from_all.ensures.order;
      };
      ends = ends_left c.args.versions.now c.args.place c.requires.within c.requires.is_live c.args.orders.now.ends.items c.requires.are.ends;
    }

pub returns-clause-room : goal.returns-clause-room
returns-clause-room c = λ n h. record {
  for_keys = c.take_start.ensures.room n h.for_keys;
  for_ends = h.for_ends;
  for_indexes = c.take_start_from_all.ensures.room n h.for_indexes;
}
