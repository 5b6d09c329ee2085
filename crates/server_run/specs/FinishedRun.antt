-- What a plan is to be, and what its threads leave when all have ended.
use Rattle.std.specs.Prelude.{ℕ, ◌≡◌, ◌+◌, ◌<◌, ◌^◌, ◌++◌, true, List, [], ◌∷◌, codes, length, Result, Ok, Vec}
use Rattle.std.specs.declared.alloc.Global.{Global}
use mathlib.Core.Option.{some}
use lib.ListN.{get_elem?}
use Rattle.base_types.specs.SessionName.{is_session_name}
use Rattle.base_types.specs.declared.memory.Memory.{Memory}
use Rattle.base_board.specs.Boards.{AllElse, HasSeat, seat_out, seat_parts, seat_state}
use Rattle.base_board.specs.declared.board.Board.{Board}
use Rattle.base_board.specs.declared.board.BoardSeat.{BoardSeat}
use Rattle.base_board.specs.declared.world.World.{Ghosts}
use Rattle.spec_history.specs.Lists.{Text, Each, In}
use Rattle.format_sections.specs.declared.section.Section.{Section}
use Rattle.server_ending.specs.KeptCell.{KeptCell, Keeps}
use Rattle.spec_protocol.specs.Seats.{IsAtRest, joined, nobody, SeatState, Written}
use Rattle.server_thread.specs.ServedDatabase.{ServedDatabase, StandsOn}
use Rattle.server_run.specs.AllWrote.{AreWritten}
use Rattle.server_thread.specs.Wrote.{IsWritten}
use Rattle.server_ending.specs.declared.finished.FinishedRun.{FinishedRun}
use Rattle.server_thread.specs.SessionEnd.{SessionEnd}

-- a session has its form, and 32 bits can count its statements
pub record IsRunnable (s : Section) : Type 0 where
  pub name : is_session_name s.name.now ≡ true
  pub few : length s.statements.items < 2 ^ 32

abbrev pub AreRunnable : List Section → Type 0
AreRunnable sections = Each IsRunnable sections

-- two seats of a board became one, and what both parts left stands one behind the other
pub record IsUnited {W C : Type 0} {g : Ghosts W C SeatState} (b : Board W C SeatState)
    (first second united : BoardSeat W C SeatState g × Vec SessionEnd Global) : Type 0 where
  pub of : HasSeat b united.0
  pub parts : seat_parts united.0 ≡ seat_parts first.0 + seat_parts second.0
  pub out : seat_out united.0 ≡ []
  pub state : seat_state united.0 ≡ joined (seat_state first.0) (seat_state second.0)
  pub ends : united.1.items ≡ first.1.items ++ second.1.items

-- then neither part lacked memory
abbrev pub AreUnited : {W C : Type 0} {g : Ghosts W C SeatState} → Board W C SeatState
    → Result (BoardSeat W C SeatState g × Vec SessionEnd Global) Memory
    → Result (BoardSeat W C SeatState g × Vec SessionEnd Global) Memory
    → BoardSeat W C SeatState g × Vec SessionEnd Global → Type 0
AreUnited b (Ok first) (Ok second) united = IsUnited b first second united
AreUnited b _ _ united = ⊥

-- ---- the end

-- the name of the session of the setup
abbrev pub setup_name : Text
setup_name = codes "setup"

-- All threads have ended. The cells stand together with the one seat that is left, which has the transcript of
-- `setup` and behind it those of the sessions; each of these knew when it began that `setup` was over.
pub record HasFinished (d : ServedDatabase) (says : ℕ → Type 0) (setup : List Text) (sections : List Section)
    (f : FinishedRun) : Type 0 where
  pub seats : List SeatState
  pub stands : StandsOn (λ (c : KeptCell). c.cell) Keeps d f.cells.items seats
  pub j : ℕ
  pub s : SeatState
  pub there : get_elem? seats j ≡ some s
  pub others : AllElse nobody j seats
  pub rests : IsAtRest s.role
  pub first : Written
  pub rest : List Written
  pub wrote : s.written ≡ first ∷ rest
  pub setup_is : IsWritten says setup_name setup f.setup first
  pub are : AreWritten says sections f.ends.items rest
  pub knew : Each (λ w. In first.transcript w.earlier) rest
