use Rattle.std.proofs.Common.{◌≡◌}
use Rattle.base_board.proofs.board.Board.take.Given as goal

abbrev pub invariant-loop : goal.invariant-loop
invariant-loop g l = (l.seat.token.table_id ≡ l.initial.seat.token.table_id) × (l.seat.token.me ≡ l.initial.seat.token.me)
