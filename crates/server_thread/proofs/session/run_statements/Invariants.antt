use Rattle.std.proofs.Common.{◌≡◌, []}
use Rattle.base_board.specs.Boards.{seat_state, seat_parts, seat_out, IsSameSeat}
use Rattle.server_session.specs.ControlPoints.{IsBetween}
use Rattle.server_thread.specs.Seated.{IsAhead, HasSameKnowledge}
use Rattle.server_thread.proofs.session.run_statements.Given as goal

abbrev pub invariant-loop-statement : goal.invariant-loop-statement
invariant-loop-statement g l = IsSameSeat l.initial.place l.place × (seat_parts l.place ≡ seat_parts l.initial.place) × (seat_out l.place ≡ [])
    × IsAhead g.H.Hash32.digest g.C.Clock.says g.K.Serving.database.server l.worker (seat_state l.place)
    × HasSameKnowledge (seat_state l.initial.place) (seat_state l.place)
    × IsBetween l.worker.session.seat
    × (l.worker.taken ≡ l.statement)
    × (l.worker.job ≡ l.initial.worker.job)
