use Rattle.std.proofs.Common.{◌≡◌, ℕ, ◌≤◌, [], vec_len}
use mathlib.Core.Option.{some}
use lib.ListN.{get_elem?}
use Rattle.base_board.specs.Boards.{board_cells, seat_state, seat_parts, seat_out, IsSameSeat}
use Rattle.base_board.specs.Outs.{all_out}
use Rattle.base_board.proofs.board.Board.give_all.Given as goal

abbrev pub invariant-loop : goal.invariant-loop
invariant-loop g l = IsSameSeat l.fn.seat l.seat × g.P.AfterVisit.after (seat_state l.seat) × (seat_parts l.seat ≡ seat_parts l.fn.seat)
    × (seat_out l.seat ≡ all_out 0 l.cells.items []) × (vec_len l.cells ≤ board_cells l.self)
    × ((i : ℕ) (c : g.row.W-Cell.Denot) → get_elem? l.cells.items i ≡ some c → get_elem? l.fn.cells.items i ≡ some c)

abbrev pub decreases-loop : goal.decreases-loop
decreases-loop g l = vec_len l.cells
