use Rattle.std.proofs.Common.{◌≡◌, []}
use Rattle.base_board.specs.Boards.{seat_state, seat_parts, seat_out, IsSameSeat}
use Rattle.server_thread.proofs.builder.builder_job.Given as goal

abbrev pub invariant-loop-visit : goal.invariant-loop-visit
invariant-loop-visit g l = IsSameSeat l.initial.place l.place × (seat_parts l.place ≡ seat_parts l.initial.place) × (seat_out l.place ≡ [])
    × (seat_state l.place ≡ seat_state l.initial.place)
