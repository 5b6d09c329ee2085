-- Which statements steps take up, with the names of their sessions; and that sessions begin in the order of
-- their numbers.
use Rattle.std.specs.Prelude.{ℕ, ◌≡◌, ◌≢◌, ◌<◌, ◌++◌, List, [], ◌∷◌}
use Rattle.spec_history.specs.Acts.{SessionAct, starts, Act, by, closes}
use Rattle.spec_history.specs.Histories.{lines_of}
use Rattle.spec_history.specs.Inputs.{InputLine}
use Rattle.spec_history.specs.Lists.{Text}
use Rattle.spec_history.specs.Sessions.{unborn}
use Rattle.spec_history.specs.Worlds.{World, step}
use Rattle.spec_protocol.specs.Alone.{Alone, Alones, none, more}
use Rattle.spec_protocol.specs.Alone as alone
use Rattle.spec_protocol.specs.Cells.{Cell}
use Rattle.spec_protocol.specs.AnonymousActs.{AnonymousAct, did}
use Rattle.spec_protocol.specs.AllowedVisit.{AllowedVisit}
use Rattle.spec_protocol.specs.Seats.{SeatState}
use Rattle.spec_protocol.specs.Server.{Server}
use Rattle.spec_protocol.specs.Steps.{Step, Steps}
use Rattle.spec_protocol.specs.Steps as steps

-- ---- statements

-- the statement that a seat takes up alone, with its session's name
abbrev pub alone_lines : {v : Server} {s t : SeatState} → Alone v s t → List InputLine
alone_lines (alone.takes x text a b) = record { session = x.transcript.session; text = text } ∷ []
alone_lines _ = []

abbrev pub alones_lines : {v : Server} {s t : SeatState} → Alones v s t → List InputLine
alones_lines none = []
alones_lines (more first last) = alones_lines first ++ alone_lines last

-- before and after a visit, in which none is taken up
abbrev pub may_lines : {v : Server} {s : SeatState} {out : List (ℕ × Cell)} {i : ℕ} {c : Cell}
    {t : SeatState} → AllowedVisit v s out i c t → List InputLine
may_lines m = alones_lines m.before ++ alones_lines m.after

abbrev pub step_lines : {v : Server} {cells : List Cell} {seats : List SeatState} {then_cells : List Cell}
    {then_seats : List SeatState} → Step v cells seats then_cells then_seats → List InputLine
step_lines (steps.alone j s t there how a b) = alone_lines how
step_lines (steps.visits w) = may_lines w.may
step_lines (steps.splits j n s there a b) = []
step_lines (steps.joins j k s t there there_k apart ends a b) = []

abbrev pub steps_lines : {v : Server} {cells : List Cell} {seats : List SeatState} {then_cells : List Cell}
    {then_seats : List SeatState} → Steps v cells seats then_cells then_seats → List InputLine
steps_lines steps.none = []
steps_lines (steps.more first last) = steps_lines first ++ step_lines last

-- ---- numbers

-- a session that begins has the first number that none has
abbrev pub BeginsNext : World → ℕ → SessionAct → Type 0
BeginsNext w n (starts name) = (m : ℕ) → m < n → (w.at m).phase ≢ unborn
BeginsNext w n _ = Unit {0}

abbrev pub BeginInTurn : World → List Act → Type 0
BeginInTurn w [] = Unit {0}
BeginInTurn w (by n a ∷ es) = BeginsNext w n a × BeginInTurn (step w (by n a)) es
BeginInTurn w (closes k ∷ es) = BeginInTurn (step w (closes k)) es

-- the names of the sessions that begin
abbrev pub names_begun : List AnonymousAct → List Text
names_begun [] = []
names_begun (did (starts name) ∷ ds) = name ∷ names_begun ds
names_begun (_ ∷ ds) = names_begun ds

-- ---- both

-- these statements are taken up, in this order and by sessions of these names; and sessions begin in the
-- order of their numbers
pub record Follows (w : World) (events : List Act) (lines : List InputLine) : Type 0 where
  pub lines_are : lines_of w events ≡ lines
  pub in_turn : BeginInTurn w events
