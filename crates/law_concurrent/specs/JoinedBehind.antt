-- Seats behind a past that were all joined into one, and what threads leave whose seats were.
use Rattle.std.specs.Prelude.{ℕ, ◌≡◌, ◌≢◌, ◌++◌, List, ◌∷◌, ◌≤◌, ◌^◌, true, map}
use mathlib.Core.Option.{some}
use lib.ListN.{get_elem?}
use Rattle.spec_history.specs.Lists.{Each, Text}
use Rattle.spec_protocol.specs.Cells.{Cell, Ledger, LedgerCell, ledger_at}
use Rattle.spec_protocol.specs.Seats.{IsAtRest, SeatState, Written, nobody}
use Rattle.spec_protocol.specs.Server.{Server}
use Rattle.spec_protocol.specs.StandTogether.{History, Stands}
use Rattle.law_behind.specs.Past.{Past}
use Rattle.law_moments.specs.AddedInTime.{AddedInTime}
use Rattle.law_kept_images.specs.RunStart.{RunStart}
use Rattle.base_types.specs.DatabaseName.{is_database_name}
use Rattle.base_types.specs.Moment.{is_moment}
use Rattle.base_types.specs.SessionName.{is_session_name}
use Rattle.spec_history.specs.Inputs.{InputSession}
use Rattle.law_kept_images.specs.Room.{FitsImageFormat}
use Rattle.spec_syntax.specs.Text.{statement_of}
use Rattle.spec_protocol.specs.JournalForms.{journal_in}
use Rattle.spec_protocol.specs.Reordered.{NamesApart}
use Rattle.spec_protocol.specs.Serves.{Serves}
use Rattle.law_kept_images.specs.Wrote.{transcripts_in}
use Rattle.law_concurrent.specs.Joined.{KnewThatOver}
use Rattle.law_concurrent.specs.Together.{session_in}
use Rattle.law_concurrent.specs.CameTo.{RunResult}

-- Since the start the cells came to stand together with the seat of the past and with seats of which one is left: no
-- session runs there, and it wrote or took in all these transcripts.
pub record IsJoinedBehind {v : Server} {database : Text} {size : ℕ} {past : Past}
    (start : RunStart v database size past) (cells : List Cell) (written : List Written) : Type 0 where
  pub events : History
  pub seats : List SeatState
  pub stands : Stands v (start.begins.history ++ events) cells (start.begins.seat ∷ seats)
  -- all that is new in the journal has moments of these seats
  pub added : (l : LedgerCell) → get_elem? cells ledger_at ≡ some (Ledger l) → AddedInTime past.items seats l
  pub j : ℕ
  pub s : SeatState
  pub there : get_elem? seats j ≡ some s
  pub rests : IsAtRest s.role
  pub wrote : s.written ≡ written
  pub others : (k : ℕ) (t : SeatState) → k ≢ j → get_elem? seats k ≡ some t → t ≡ nobody

-- On some server that reads by the grammar and hashes with h, one seat is left besides that of the past from which
-- it went on, which has all transcripts: those of this input, `setup` first. What is left of the run is what it
-- wrote and what the ledger's cell has.
pub record HasJoinedBehind (h : List ℕ → List ℕ) (database : Text) (size : ℕ) (past : Past) (IsSaid : ℕ → Type 0)
    (input : List InputSession) (r : RunResult) : Type 0 where
  pub v : Server
  pub serves : Serves h statement_of v
  pub start : RunStart v database size past
  pub cells : List Cell
  -- of `setup`, and of the sessions that began when it was known to be over
  pub first : Written
  pub others : List Written
  pub joined : IsJoinedBehind start cells (first ∷ others)
  pub knew : KnewThatOver first others
  pub ledger : LedgerCell
  pub there : get_elem? cells ledger_at ≡ some (Ledger ledger)
  pub of_database : ledger.database ≡ database
  pub of_size : ledger.block_size ≡ size
  -- they are those of the input, whose sessions have names of their own
  pub input_is : map session_in (transcripts_in (first ∷ others)) ≡ input
  pub apart : NamesApart (map (λ s. s.name) input)
  -- names and moments have their forms, and 8 bytes can tell each id
  pub database_is_named : is_database_name database ≡ true
  pub sessions_are_named : Each (λ s. is_session_name s.name ≡ true) input
  pub moments : Each (λ w. Each IsSaid w.moments) (first ∷ others)
  pub are_moments : (time : ℕ) → IsSaid time → is_moment time ≡ true
  pub ids : ledger.next ≤ 2 ^ 63
  -- the journal's image has room in the format
  pub room : FitsImageFormat h statement_of database ledger.items
  -- and this is left of it
  pub transcripts : r.X ≡ transcripts_in (first ∷ others)
  pub kept : r.kept ≡ map (λ w. w.images) (first ∷ others)
  pub journal : r.J ≡ journal_in ledger
  pub digests : r.G ≡ ledger.issued
