use Rattle.std.proofs.Common.{map, sym, ap, ◌∙◌, arith}
use Rattle.base_board.specs.Boards.{seat_state}
use Rattle.test_board.specs.Shares.{count_of, first_of, second_of}
use Rattle.test_board.proofs.Counted.{settled}
use Rattle.test_board.proofs.run.run_all.Goals as goal

pub returns-clause-first : goal.returns-clause-first
returns-clause-first g c = let s = c.close_with-counters.ensures.stand in let t = c.totals_of.result in
    let both = settled c.close_with-counters.result.items s.0 s.1 (seat_state c.run_part-seat.result) t.first t.second s.2 s.3 s.4 (ap (map count_of) (sym c.deref.ensures.value) ∙ c.totals_of.ensures) in
    let added = c.run_part-seat.ensures.first in let start = ap first_of c.in_ok-board.ensures.seat.1 in let end = both.0 in omega arith

pub returns-clause-second : goal.returns-clause-second
returns-clause-second g c = let s = c.close_with-counters.ensures.stand in let t = c.totals_of.result in
    let both = settled c.close_with-counters.result.items s.0 s.1 (seat_state c.run_part-seat.result) t.first t.second s.2 s.3 s.4 (ap (map count_of) (sym c.deref.ensures.value) ∙ c.totals_of.ensures) in
    let added = c.run_part-seat.ensures.second in let start = ap second_of c.in_ok-board.ensures.seat.1 in let end = both.1 in omega arith
