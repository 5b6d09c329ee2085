use Rattle.std.proofs.Common.{◌∙◌, ◌++◌, ◌∷◌, [], sym, ap, subst}
use Rattle.store_order.specs.Packed.{IsPacked, flat}
use Rattle.store_order.proofs.Packed.{more_packed}
use Rattle.store_order.proofs.pieces.add_piece.Goals as goal

pub returns-clause-packed : goal.returns-clause-packed
returns-clause-packed c =
    let ps = c.args.pieces.now.items in
    let items = c.in_ok-push.ensures.items ∙ ap (λ p. ps ++ p ∷ []) c.in_ok-piece.ensures in
    subst (IsPacked 512) (sym items) (more_packed 512 ps c.requires.packed).0

pub returns-clause-list : goal.returns-clause-list
returns-clause-list c =
    let ps = c.args.pieces.now.items in
    let items = c.in_ok-push.ensures.items ∙ ap (λ p. ps ++ p ∷ []) c.in_ok-piece.ensures in
    ap flat items ∙ (more_packed 512 ps c.requires.packed).1
