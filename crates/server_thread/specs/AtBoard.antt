-- The seat of a thread at the board of all cells of a database.
use Rattle.std.specs.Prelude.{◌≡◌, []}
use Rattle.base_board.specs.Boards.{board_cells, HasSeat, IsSameSeat, seat_out, seat_parts}
use Rattle.base_board.specs.declared.board.Board.{Board}
use Rattle.base_board.specs.declared.board.BoardSeat.{BoardSeat}
use Rattle.base_board.specs.declared.world.World.{Ghosts}
use Rattle.spec_protocol.specs.Cells.{cell_count}
use Rattle.spec_protocol.specs.Seats.{SeatState}

module _ {W C : Type 0} {g : Ghosts W C SeatState} where
  -- it is one of the board's, and no cell is out with it
  abbrev pub IsFree : Board W C SeatState → BoardSeat W C SeatState g → Type 0
  IsFree b s = HasSeat b s × (board_cells b ≡ cell_count) × (seat_out s ≡ [])

  -- a thread to which it was lent leaves the same seat, with as many parts, and no cell is out
  abbrev pub IsFreed : BoardSeat W C SeatState g → BoardSeat W C SeatState g → Type 0
  IsFreed s t = IsSameSeat s t × (seat_parts t ≡ seat_parts s) × (seat_out t ≡ [])

  -- a thread that owned it gives back one of the board's, with as many parts, and no cell is out
  abbrev pub IsGivenBack : Board W C SeatState → BoardSeat W C SeatState g → BoardSeat W C SeatState g → Type 0
  IsGivenBack b s t = HasSeat b t × (seat_parts t ≡ seat_parts s) × (seat_out t ≡ [])
