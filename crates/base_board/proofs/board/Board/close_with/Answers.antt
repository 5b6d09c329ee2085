use Rattle.std.proofs.Common.{sym, ◌∙◌, subst}
use Rattle.base_board.proofs.Closes.{closes, same_cells}
use Rattle.base_board.proofs.board.Board.close_with.Goals as goal

pub cells_of-requires-clause-home : goal.cells_of-requires-clause-home
cells_of-requires-clause-home g c = let v = c.args.seat.token.me.0 in
    let end = closes g.W.World.stand g.W.World.nobody c.args.self.table.shared.key.parts c.args.seat.token.id v _ _ c.requires.parts c.requires.seat.1 c.close_with.ensures.values.2 in
    (end.0, end.1)

pub returns-clause-stand : goal.returns-clause-stand
returns-clause-stand g c = let v = c.args.seat.token.me.0 in
    let end = closes g.W.World.stand g.W.World.nobody c.args.self.table.shared.key.parts c.args.seat.token.id v _ _ c.requires.parts c.requires.seat.1 c.close_with.ensures.values.2 in
    let e = end.2 in
    (e.0, e.1, subst (λ cells. g.W.World.stand cells e.0) (sym (same_cells _ _ (c.cells_of.ensures ∙ end.1))) e.2, e.3, e.4)
