use Rattle.std.proofs.Common.{arith, ap, ◌∙◌}
use Rattle.std.specs.List.{insert}
use Rattle.store_table.specs.Orders.{place_of}
use Rattle.store_table.proofs.InOrder.{not_full, put_in_order}
use Rattle.store_table.proofs.index.add_start.Goals as goal

pub insert-requires-clause-room : goal.insert-requires-clause-room
insert-requires-clause-room c =
    let free = not_full c.args.index.now.ordinals c.args.key.now c.args.versions.now c.args.index.now.order.list c.args.index.now.order.room c.requires.order c.requires.room in
    omega (arith, free)

pub returns-clause-order : goal.returns-clause-order
returns-clause-order c =
    let ordinals = c.args.index.now.ordinals in
    let order = c.args.index.now.order.list in
    let key = c.args.key.now in
    let vs = c.args.versions.now in
    let v = c.args.version.now in
    let here = c.place_in_order-place.ensures.place ∙ ap (λ o. place_of o key v vs) c.as_slice.ensures in
    c.insert.ensures.list ∙ ap (λ n. insert order n v.start) here ∙ put_in_order ordinals key v vs order c.requires.order
