-- When the sessions of a plan may run from a seat at the board.
use Rattle.std.specs.Prelude.{ℕ, List}
use Rattle.base_board.specs.Boards.{seat_state}
use Rattle.base_board.specs.declared.board.Board.{Board}
use Rattle.base_board.specs.declared.board.BoardSeat.{BoardSeat}
use Rattle.base_board.specs.declared.world.World.{Ghosts}
use Rattle.format_sections.specs.declared.section.Section.{Section}
use Rattle.spec_syntax.specs.Text.{statement_of}
use Rattle.spec_protocol.specs.Seats.{SeatState}
use Rattle.spec_protocol.specs.Server.{Server}
use Rattle.spec_protocol.specs.Serves.{Serves}
use Rattle.server_thread.specs.AtBoard.{IsFree}
use Rattle.server_thread.specs.Seated.{IsIdle}
use Rattle.server_run.specs.FinishedRun.{AreRunnable}

module _ {W C : Type 0} {g : Ghosts W C SeatState} where
  -- Sessions may run from it, under this hash: no cell is out, no session runs there, the hash is that of the
  -- board's server, and each session has its form.
  abbrev pub MayRun : Server → (List ℕ → List ℕ) → Board W C SeatState → BoardSeat W C SeatState g
      → List Section → Type 0
  MayRun v h b s sections = IsFree b s × IsIdle (seat_state s) × Serves h statement_of v × AreRunnable sections
