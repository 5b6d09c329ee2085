-- The course that a server takes which goes on from a journal and runs one statement after another: all that happened
-- since it started.
use Rattle.std.specs.Prelude.{ℕ, ◌≡◌, List, [], ◌∷◌}
use mathlib.Core.Option.{some}
use lib.ListN.{get_elem?}
use Rattle.spec_history.specs.Histories.{pending}
use Rattle.spec_history.specs.Inputs.{InputLine}
use Rattle.spec_history.specs.Lists.{Text}
use Rattle.spec_protocol.specs.Cells.{Cell, Ledger, LedgerCell, ledger_at}
use Rattle.spec_protocol.specs.AnonymousActs.{steps_anonymous_acts}
use Rattle.spec_protocol.specs.Follows.{names_begun, steps_lines}
use Rattle.spec_protocol.specs.AllowedVisit.{first_seat}
use Rattle.spec_protocol.specs.OneByOne.{OneByOne}
use Rattle.spec_protocol.specs.Seats.{SeatState}
use Rattle.spec_protocol.specs.Server.{Server}
use Rattle.spec_protocol.specs.Steps.{Steps}
use Rattle.law_behind.specs.Past.{Past, unclosed}
use Rattle.law_sequential.specs.EndsLast.{Phase, CameSo}
use Rattle.law_sequential.specs.InStep.{InStep, due_in}
use Rattle.law_sequential.specs.RunStart.{RunStart}

-- The server came to these cells and seats; the seat of its past isn't one of them. Sessions of these names began,
-- in this order, and these statements were taken up, in this order.
pub record SequentialRunBehind {v : Server} {database : Text} {size : ℕ} {past : Past}
    (start : RunStart v database size past) (phase : Phase) (names : List Text) (lines : List InputLine)
    (cells : List Cell) (seats : List SeatState) : Type 0 where
  pub steps : Steps v start.begins.cells (first_seat start.begins.cells ∷ []) cells seats
  -- one after another: each by one seat, while all others are between statements
  pub one_by_one : OneByOne steps
  pub begun : names_begun (steps_anonymous_acts steps) ≡ names
  pub taken_up : steps_lines steps ≡ lines
  -- entries (end) are written behind the last statement
  pub came_so : CameSo phase (steps_anonymous_acts steps)
  -- blocks are closed in step, the first with what the past has in none
  pub ledger : LedgerCell
  pub there : get_elem? cells ledger_at ≡ some (Ledger ledger)
  pub closes : InStep size (pending (unclosed past.items)) (steps_anonymous_acts steps) (due_in size ledger)
