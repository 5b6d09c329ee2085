-- What a clause says of a board and of its seats.
use Rattle.std.specs.Prelude.{◌≡◌, ◌≢◌, ℕ, List}
use mathlib.Core.Option.{some}
use lib.ListN.{get_elem?}
use Rattle.base_board.specs.declared.board.Board.{Board}
use Rattle.base_board.specs.declared.board.BoardSeat.{BoardSeat}
use Rattle.base_board.specs.declared.world.World.{Ghosts}

module _ {W C S : Type 0} where
  -- how many cells the board has
  abbrev pub board_cells : Board W C S → ℕ
  board_cells b = b.table.shared.table_id.slots

  -- how many parts its seats have together
  abbrev pub board_parts : Board W C S → ℕ
  board_parts b = b.table.shared.key.parts

module _ {W C S : Type 0} {g : Ghosts W C S} where
  -- what the world knows of the seat
  abbrev pub seat_state : BoardSeat W C S g → S
  seat_state s = s.token.me.0.state

  -- how many parts the seat has
  abbrev pub seat_parts : BoardSeat W C S g → ℕ
  seat_parts s = s.token.me.0.parts

  -- the cells that are out with the seat, as they were when they were taken, the last one first
  abbrev pub seat_out : BoardSeat W C S g → List (ℕ × C)
  seat_out s = s.token.me.0.out

  -- the seat is one of this board's
  abbrev pub HasSeat : Board W C S → BoardSeat W C S g → Type 0
  HasSeat b s = s.token.table_id ≡ b.table.shared.table_id

  -- the seat is still at the same board
  abbrev pub IsSameSeat : BoardSeat W C S g → BoardSeat W C S g → Type 0
  IsSameSeat s t = t.token.table_id ≡ s.token.table_id

-- each seat but the one with the number j is nobody
abbrev pub AllElse : {S : Type 0} → S → ℕ → List S → Type 0
AllElse nobody j seats = (k : ℕ) (s : _) → k ≢ j → get_elem? seats k ≡ some s → s ≡ nobody
