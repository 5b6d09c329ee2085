use Rattle.std.proofs.Common.{◌≡◌, ◌<◌, ◌≤◌, [], vec_len, vec_capacity}
use Rattle.base_board.specs.Boards.{board_cells, seat_state, seat_parts, seat_out, IsSameSeat}
use Rattle.base_board.specs.Outs.{all_out}
use Rattle.base_board.specs.Stands.{StandTogether}
use Rattle.base_board.proofs.board.Board.take_all.Given as goal

abbrev pub invariant-loop-i : goal.invariant-loop-i
invariant-loop-i g l = IsSameSeat l.initial.seat l.seat × (seat_state l.seat ≡ seat_state l.initial.seat) × (seat_parts l.seat ≡ seat_parts l.initial.seat)
    × (seat_out l.seat ≡ all_out 0 l.cells.items []) × (vec_len l.cells ≡ l.i) × (l.count ≤ vec_capacity l.cells)
    × (0 < l.i → StandTogether g.W.World.stand (board_cells l.self) (seat_state l.seat) (seat_out l.seat))
