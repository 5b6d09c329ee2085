use Rattle.std.proofs.Common.{sym, subst}
use Rattle.base_board.specs.Boards.{seat_state}
use Rattle.base_board.proofs.board.Board.give_all.Goals as goal

pub give_top-requires-in-loop-clause-may : goal.give_top-requires-in-loop-clause-may
give_top-requires-in-loop-clause-may g c = λ i d out is at. let t = seat_state c.loop.seat in let inv = c.loop.invariant in
    (t, subst (λ l. g.W.World.may t l i d t) (sym is) (c.requires.nothing i d out t (inv.5 i d at) inv.1), inv.1)
