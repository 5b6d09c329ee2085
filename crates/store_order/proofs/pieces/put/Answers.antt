use Rattle.std.proofs.Common.{◌/◌, ◌%◌, arith}
use Rattle.store_order.proofs.Carried.{put_packed}
use Rattle.store_order.proofs.Packed.{room_packed}
use Rattle.store_order.proofs.pieces.put.Goals as goal

pub insert-carry-requires : goal.insert-carry-requires
insert-carry-requires c =
    let place = c.args.place in
    room_packed 512 c.args.pieces.now c.requires.packed (place / 512) c.index-pieces-at.result (omega arith) (place % 512) place (omega arith) (omega arith) c.requires.within

pub returns : goal.returns
returns c =
    let place = c.args.place in
    let r = put_packed 511 c.args.pieces.now c.carry_on.new.pieces c.index-pieces-at.result c.insert-carry.new.self c.insert-carry.result (place / 512) (place % 512) place c.args.start
    c.requires.packed (omega arith) (omega arith) c.requires.within c.requires.room (omega arith) c.insert-carry.ensures.list c.insert-carry.ensures.left c.carry_on.ensures in
    record { packed = r.0; list = r.1; count = r.2 }
