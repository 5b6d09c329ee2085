-- When cells and seats stand together.
use Rattle.std.specs.Prelude.{ℕ, ◌≡◌, ◌++◌, List, map}
use Rattle.spec_history.specs.Lists.{Each}
use Rattle.spec_history.specs.Acts.{SessionAct, Act, by, closes}
use Rattle.spec_history.specs.Inputs.{InputLine}
use Rattle.spec_history.specs.Worlds.{first, run}
use Rattle.spec_protocol.specs.Server.{Server}
use Rattle.spec_protocol.specs.AnonymousActs.{AnonymousAct, anonymous_act}
use Rattle.spec_protocol.specs.Follows.{Follows}
use Rattle.spec_protocol.specs.Cells.{CatalogCell, LedgerCell, Cell, AreCells}
use Rattle.spec_protocol.specs.Contents.{contents, known}
use Rattle.spec_protocol.specs.Seats.{SeatState}
use Rattle.spec_protocol.specs.LedgerIsLegal.{LedgerIsLegal}
use Rattle.spec_protocol.specs.TablesAreSerial.{TablesAreSerial}
use Rattle.spec_protocol.specs.RowsAgree.{RowsAgree}
use Rattle.spec_protocol.specs.OpenScripts.{OpenScripts}
use Rattle.spec_protocol.specs.LocksCover.{LocksCover}
use Rattle.spec_protocol.specs.LocksAgree.{LocksAgree}
use Rattle.spec_protocol.specs.LocksAreRequested.{LocksAreRequested}
use Rattle.spec_protocol.specs.LocksDecideIn.{LocksDecideIn}
use Rattle.spec_protocol.specs.LocksWereAsked.{LocksWereAsked}
use Rattle.spec_protocol.specs.TreesAreOfEvents.{TreesAreOfEvents}
use Rattle.spec_protocol.specs.TranscriptsAgree.{TranscriptsAgree}

-- all that happened, in the order in which it happened
abbrev pub History : Type 0
History = List Act

-- They stand together at the end of this history. Cells that are out count as they were when they were taken.
pub record Stands (v : Server) (history : History) (cells : List Cell) (seats : List SeatState) : Type 0 where
  pub catalog : CatalogCell
  pub ledger : LedgerCell
  pub are_cells : AreCells cells catalog ledger
  pub ledger_is_legal : LedgerIsLegal v ledger
  pub tables_are_serial : TablesAreSerial v (contents cells)
      (known v.reads ledger.items) catalog.defs catalog.creator seats
  pub rows_agree : RowsAgree v (contents cells) (known v.reads ledger.items) seats
  pub open_scripts : OpenScripts v (contents cells) (known v.reads ledger.items) seats
  pub locks_cover : LocksCover v (contents cells) (known v.reads ledger.items) seats
  pub locks_agree : LocksAgree (contents cells) seats
  pub trees_are_of_events : TreesAreOfEvents v (contents cells) (known v.reads ledger.items) seats
  pub transcripts_agree : TranscriptsAgree v history ledger seats

-- then each lock is a want that its transaction asked for
abbrev pub LocksAskedFor : {v : Server} {history : History} {cells : List Cell} {seats : List SeatState}
    → Stands v history cells seats → Type 0
LocksAskedFor {v} {history} {cells} st =
    LocksWereAsked v history (contents cells) (known v.reads st.ledger.items)

-- All this holds at the end of some history, each lock was asked for, and who has a lock in the catalog has
-- it for a statement (`LocksAreRequested`).
pub record StandTogether (v : Server) (cells : List Cell) (seats : List SeatState) : Type 0 where
  pub history : History
  pub stands : Stands v history cells seats
  pub locks_were_asked : LocksAskedFor stands
  pub locks_are_requested : LocksAreRequested v (contents cells) seats

-- ---- how a history goes on

-- they stand together once a session of seat j did this, behind the history
pub record StandsAfter (v : Server) (j : ℕ) (history : History) (acts : List SessionAct) (cells : List Cell)
    (seats : List SeatState) : Type 0 where
  -- the number of the session in the history
  pub session : ℕ
  pub stands : Stands v (history ++ map (by session) acts) cells seats
  -- each act is one of a session of this seat
  pub mine : Each (λ act. stands.transcripts_agree.owner session ≡ j) acts

-- what a session of seat j did, or nothing of a session
abbrev pub IsOfSeat : (ℕ → ℕ) → ℕ → Act → Type 0
IsOfSeat owner j (by session act) = owner session ≡ j
IsOfSeat owner j (closes k) = Unit {0}

-- They stand together once these deeds were done behind the history, all that are of sessions by those of
-- seat j,
-- and each lock was asked for.
pub record StandsDone (v : Server) (j : ℕ) (history : History) (anonymous_acts : List AnonymousAct) (cells : List Cell)
    (seats : List SeatState) : Type 0 where
  pub events : List Act
  pub are : map anonymous_act events ≡ anonymous_acts
  pub stands : Stands v (history ++ events) cells seats
  pub mine : Each (IsOfSeat stands.transcripts_agree.owner j) events
  pub locks_were_asked : LocksAskedFor stands

-- And this besides: each lock is wanted, just these statements are taken up and sessions begin in the order
-- of their numbers, and locks decide where the history takes one statement after another.
pub record StandsNext (v : Server) (j : ℕ) (history : History) (anonymous_acts : List AnonymousAct) (lines : List InputLine)
    (cells : List Cell) (seats : List SeatState) : Type 0 where
  pub done : StandsDone v j history anonymous_acts cells seats
  pub locks_are_requested : LocksAreRequested v (contents cells) seats
  pub follows : Follows (run first history) done.events lines
  pub locks_decide : LocksDecideIn v history done.events

-- They stand together later on: their history is the one before with just these deeds behind it, in which
-- just these statements are taken up and sessions begin in the order of their numbers, and in which locks
-- decide where it takes one statement after another; each lock was asked for and is wanted; and database and
-- block size are as they were.
pub record StandsLater {v : Server} {earlier : History} {cells : List Cell} {seats : List SeatState}
    (st : Stands v earlier cells seats) (anonymous_acts : List AnonymousAct) (lines : List InputLine)
    (then_cells : List Cell) (then_seats : List SeatState) : Type 0 where
  pub events : List Act
  pub are : map anonymous_act events ≡ anonymous_acts
  pub stands : Stands v (earlier ++ events) then_cells then_seats
  pub locks_were_asked : LocksAskedFor stands
  pub locks_are_requested : LocksAreRequested v (contents then_cells) then_seats
  pub follows : Follows (run first earlier) events lines
  pub locks_decide : LocksDecideIn v earlier events
  pub database : stands.ledger.database ≡ st.ledger.database
  pub block_size : stands.ledger.block_size ≡ st.ledger.block_size
