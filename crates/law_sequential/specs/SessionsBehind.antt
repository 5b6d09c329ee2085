-- A course behind a past by its sessions.
use Rattle.std.specs.Prelude.{ℕ, ◌≡◌, true, List, [], ◌∷◌}
use Rattle.spec_history.specs.Inputs.{InputLine}
use Rattle.spec_history.specs.Lists.{Text}
use Rattle.spec_protocol.specs.Cells.{Cell}
use Rattle.spec_protocol.specs.Seats.{idle, SeatState}
use Rattle.spec_protocol.specs.Server.{Server}
use Rattle.law_behind.specs.Past.{Past}
use Rattle.law_sequential.specs.EndsLast.{Phase}
use Rattle.law_sequential.specs.RunStart.{RunStart}
use Rattle.law_sequential.specs.RunBehind.{SequentialRunBehind}
use Rattle.law_sequential.specs.Sessions.{EachShown, SessionOutput, names_told}

-- The first seat is idle, and behind it each session has its seat: the server took this course, and they have
-- shown this.
pub record SessionsStandBehind {v : Server} {database : Text} {size : ℕ} {past : Past}
    (start : RunStart v database size past) (phase : Phase) (lines : List InputLine) (moments : List ℕ)
    (told : List SessionOutput) (cells : List Cell) (states : List SeatState) : Type 0 where
  pub parent : SeatState
  pub present : parent.present ≡ true
  pub rests : parent.role ≡ idle
  pub none : parent.written ≡ []
  pub sequential_run : SequentialRunBehind start phase (names_told told) lines cells (parent ∷ states)
  pub shown : EachShown moments told states
