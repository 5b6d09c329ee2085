use Rattle.std.proofs.Common.{◌<◌, sym, subst, arith}
use Rattle.base_board.specs.Outs.{OutsAreIn}
use Rattle.base_board.specs.Boards.{seat_state}
use Rattle.test_board.proofs.Counted.{counter_fits}
use Rattle.test_board.proofs.visit.count_once.Goals as goal

pub overflow_add-held : goal.overflow_add-held
overflow_add-held g c = let t = c.take-held.ensures in let s = t.stand in let there = subst (OutsAreIn s.0) t.out s.5 in
    let fits = counter_fits s.0 s.1 s.2 (seat_state c.take-held.new.seat) c.number-number.result c.take-held.result.cell s.3 s.4 there.0 (subst (λ x. 0 < x.left) (sym t.seat.1) c.requires.left) in omega (arith, fits)
