use Rattle.std.proofs.Common.{◌∙◌, ◌/◌, ◌%◌, arith, ap, get_or, length, slice_get}
use Rattle.store_order.specs.ReservedOrder.{ReservedOrder}
use Rattle.store_order.proofs.Packed.{get_packed, past_packed}
use Rattle.store_order.proofs.starts.Starts.entry.Goals as goal

pub returns-in-Some : goal.returns-in-Some
returns-in-Some c =
    let ps = c.self.inside.pieces.items in let place = c.args.place in let p = c.in-Some.piece.now in
    let seen = c.deref.ensures.value in
    let there = c.in-Some.ensures.lookup.3 in
    c.get-in-Some.ensures
    ∙ get_packed 512 ps c.self.invariant.packed (place / 512) (place % 512) place (omega arith) p (omega arith)
    (omega (arith, ap length seen)) (there.1 p ∙ ap (λ l. get_or l (place / 512) p) seen)
    ∙ ap (λ (r : ReservedOrder). slice_get r.list place) c.self.view_is

pub returns-in-None : goal.returns-in-None
returns-in-None c =
    let ps = c.self.inside.pieces.items in let place = c.args.place in
    let past = c.in-None.ensures.lookup.3 in
    past_packed 512 ps c.self.invariant.packed (place / 512) (place % 512) place (omega arith) (omega (arith, ap length c.deref.ensures.value))
    ∙ ap (λ (r : ReservedOrder). slice_get r.list place) c.self.view_is
