use Rattle.std.proofs.Common.{◌≡◌, []}
use Rattle.base_board.specs.Boards.{seat_state, seat_parts, seat_out, IsSameSeat}
use Rattle.test_board.specs.Sessions.{counted_times}
use Rattle.test_board.proofs.run.run_session.Given as goal

abbrev pub invariant-loop-turn : goal.invariant-loop-turn
invariant-loop-turn g l = IsSameSeat l.initial.seat l.seat × (seat_parts l.seat ≡ seat_parts l.initial.seat) × (seat_out l.seat ≡ [])
    × (seat_state l.seat ≡ counted_times l.session.counter l.turn (seat_state l.initial.seat))
