use Rattle.std.proofs.Common.{◌/◌, ◌%◌, arith, length-set}
use Rattle.store_order.proofs.Filled.{removed_packed}
use Rattle.store_order.proofs.Packed.{there_packed}
use Rattle.store_order.proofs.pieces.take_out.Goals as goal

pub bounds-pieces-at : goal.bounds-pieces-at
bounds-pieces-at c =
    let place = c.args.place in there_packed 512 c.args.pieces.now c.requires.packed (place / 512) (place % 512) place (omega arith) c.requires.within

pub fill_up-requires : goal.fill_up-requires
fill_up-requires c =
    let place = c.args.place in
    let there = there_packed 512 c.args.pieces.now c.requires.packed (place / 512) (place % 512) place (omega arith) c.requires.within in
    let count = length-set c.args.pieces.now (place / 512) c.remove.new.self in omega arith

pub returns : goal.returns
returns c =
    let place = c.args.place in
    let there = there_packed 512 c.args.pieces.now c.requires.packed (place / 512) (place % 512) place (omega arith) c.requires.within in
    let r = removed_packed 511 c.args.pieces.now c.fill_up.new.pieces c.index-pieces-at.result c.remove.new.self (place / 512) (place % 512) place
    c.requires.packed (omega arith) (omega arith) c.requires.within there c.remove.ensures.list c.fill_up.ensures in
    record { packed = r.0; list = r.1; count = r.2 }
