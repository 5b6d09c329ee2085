use Rattle.std.proofs.Common.{◌≤◌, map, sym, ap, ◌∙◌, subst}
use Rattle.base_board.specs.Boards.{seat_state}
use Rattle.test_board.specs.Shares.{count_of}
use Rattle.test_board.proofs.Counted.{seen_both}
use Rattle.test_board.proofs.snapshot.look.Goals as goal

pub returns-clause-own : goal.returns-clause-own
returns-clause-own g c = let s = c.in_ok-cells.ensures.stand in let t = c.totals_of-totals.result in
    let both = seen_both c.in_ok-cells.cells.items s.0 s.1 (seat_state c.take_all.new.seat) t.first t.second s.2 s.3 (ap (map count_of) (sym c.deref.ensures.value) ∙ c.totals_of-totals.ensures) in
    subst (λ x. (x.first ≤ t.first) × (x.second ≤ t.second)) c.take_all.ensures.seat.1 (both.0, both.1)

pub returns-clause-room : goal.returns-clause-room
returns-clause-room g c = let s = c.in_ok-cells.ensures.stand in let t = c.totals_of-totals.result in
    let both = seen_both c.in_ok-cells.cells.items s.0 s.1 (seat_state c.take_all.new.seat) t.first t.second s.2 s.3 (ap (map count_of) (sym c.deref.ensures.value) ∙ c.totals_of-totals.ensures) in
    both.2
