use Rattle.std.proofs.Common.{get_or}
use Rattle.std.proofs.lemmas.List.{get_or_default}
use Rattle.std.specs.List.{remove}
use Rattle.store_table.specs.Ends.{endings_in}
use Rattle.store_table.proofs.Moves.{ends_around, indexes_past}
use Rattle.store_table.proofs.orders.take_ended.Goals as goal

pub take_ending-requires-clause-there : goal.take_ending-requires-clause-there
take_ending-requires-clause-there c =
    let vs = c.args.versions.now in
    let r = c.index-versions-place.result in
    let v = get_or vs c.args.place r in
    let is = get_or_default vs c.args.place r v c.requires.within in
    (endings_in (remove vs c.args.place), ends_around vs c.args.place v c.requires.within is c.args.end c.args.orders.now.ends.items c.requires.rising (c.requires.ended r) c.requires.are.ends)

pub returns-clause-are : goal.returns-clause-are
returns-clause-are c =
    let vs = c.args.versions.now in
    let r = c.index-versions-place.result in
    let v = get_or vs c.args.place r in
    let is = get_or_default vs c.args.place r v c.requires.within in
    let are_indexed = indexes_past vs c.args.place v c.requires.within is c.args.key.now c.args.end c.args.orders.now (c.requires.ended r) c.requires.are.are_indexed in
    record {
      are_indexed = record { no_ordinals = are_indexed.no_ordinals; in_key_order = are_indexed.in_key_order; indexed = are_indexed.indexed };
      ends = c.take_ending.ensures.items (endings_in (remove vs c.args.place))
          (ends_around vs c.args.place v c.requires.within is c.args.end c.args.orders.now.ends.items c.requires.rising (c.requires.ended r) c.requires.are.ends);
    }
