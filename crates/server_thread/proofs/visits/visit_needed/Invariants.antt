use Rattle.std.proofs.Common.{◌≡◌, []}
use Rattle.base_board.specs.Boards.{seat_state, seat_parts, seat_out, IsSameSeat}
use Rattle.server_engine.specs.IsMidway.{WentOn}
use Rattle.server_thread.specs.Seated.{IsAhead, HasSameKnowledge}
use Rattle.server_thread.proofs.visits.visit_needed.Given as goal

abbrev pub invariant-loop : goal.invariant-loop
invariant-loop g l = IsSameSeat l.initial.place l.place × (seat_parts l.place ≡ seat_parts l.initial.place) × (seat_out l.place ≡ [])
    × IsAhead g.H.Hash32.digest g.C.Clock.says g.K.Serving.database.server l.worker (seat_state l.place)
    × HasSameKnowledge (seat_state l.initial.place) (seat_state l.place)
    × WentOn l.initial.worker.session.seat l.worker.session.seat
    × (l.worker.taken ≡ l.initial.worker.taken)
    × (l.worker.job ≡ l.initial.worker.job)
