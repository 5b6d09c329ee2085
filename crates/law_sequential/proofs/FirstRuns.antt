-- A course since the first cells is one behind no past, so it comes to what that comes to.
use Rattle.std.proofs.Common.{◌≡◌, ◌<◌, ℕ, List, [], ◌∷◌, None, sym, subst}
use Rattle.sql_types.specs.declared.digest.Digest.{Digest}
use Rattle.sql_types.specs.declared.journal.JournalItem.{JournalItem}
use Rattle.spec_history.specs.Histories.{pending}
use Rattle.spec_history.specs.Inputs.{InputLine, sessions_in}
use Rattle.spec_history.specs.Lists.{Text}
use Rattle.spec_history.specs.Transcripts.{Transcript}
use Rattle.spec_protocol.specs.AllowedVisit.{first_seat}
use Rattle.spec_protocol.specs.AnonymousActs.{steps_anonymous_acts}
use Rattle.spec_protocol.specs.Cells.{Cell, LedgerCell, first_cells, pending_in}
use Rattle.spec_protocol.specs.Follows.{names_begun, steps_lines}
use Rattle.spec_protocol.specs.OneByOne.{OneByOne}
use Rattle.spec_protocol.specs.Reordered.{NamesApart}
use Rattle.spec_protocol.specs.Seats.{KeptImage, SeatState, Written}
use Rattle.spec_protocol.specs.Server.{Server}
use Rattle.spec_protocol.specs.Steps.{Steps}
use Rattle.law_behind.specs.Past.{no_past}
use Rattle.law_sequential.specs.EndsLast.{CameSo, Phase}
use Rattle.law_sequential.specs.InStep.{InStep, due_in}
use Rattle.law_sequential.specs.Outcome.{Outcome}
use Rattle.law_sequential.specs.OutcomeBehind.{OutcomeBehind, HasEndedBehind}
use Rattle.law_sequential.specs.RunStart.{RunStart}
use Rattle.law_sequential.specs.SequentialRun.{SequentialRun}
use Rattle.law_sequential.specs.RunBehind.{SequentialRunBehind}
use Rattle.law_sequential.specs.SessionOutput.{HasEnded}
use Rattle.law_sequential.specs.Wrote.{Wrote, transcripts_in}
use Rattle.law_sequential.proofs.Begins.{ServerStarts, with_none}
use Rattle.law_sequential.proofs.Over.{AgreesBehind, outcome_is}
use Rattle.law_sequential.proofs.SameNames.{names_in}
use Rattle.law_sequential.proofs.SessionOutput.{AgreesWithout, InOrderWithout}

-- all that was done since some cells
abbrev Done : Server → ℕ → Phase → List Text → List InputLine → List Cell → List SeatState → LedgerCell → List Cell → Type 0
Done v size phase names lines cells seats ledger begun_with = (steps : Steps v begun_with (first_seat begun_with ∷ []) cells seats)
    × OneByOne steps × (names_begun (steps_anonymous_acts steps) ≡ names) × (steps_lines steps ≡ lines) × CameSo phase (steps_anonymous_acts steps)
    × InStep size (pending 0) (steps_anonymous_acts steps) (due_in size ledger)

abbrev pub run_behind : {v : Server} {database : Text} {size : ℕ} {phase : Phase} {names : List Text} {lines : List InputLine} {cells : List Cell} {seats : List SeatState} (start : RunStart v database size no_past) → start.begins.cells ≡ first_cells database size
    → SequentialRun v database size phase names lines cells seats → SequentialRunBehind start phase names lines cells seats
run_behind {v} {database} {size} {phase} {names} {lines} {cells} {seats} start same c =
    let done = subst (λ (begun_with : List Cell). Done v size phase names lines cells seats c.ledger begun_with) (sym same) (c.steps, c.one_by_one, c.begun, c.taken_up, c.came_so, c.closes) in
    record { steps = done.0; one_by_one = done.1; begun = done.2; taken_up = done.3; came_so = done.4; ledger = c.ledger; there = c.there; closes = done.5 }

module _ (starts : ServerStarts) where
  pub ended_behind : {v : Server} {database : Text} {size : ℕ} {names : List Text} {lines : List InputLine} {moments : List ℕ} {X : List Transcript} {images : List (List KeptImage)} {J : List JournalItem} {G : List Digest}
      → HasEnded v database size names lines moments X images J G → HasEndedBehind v database size no_past names lines moments X images J G
  ended_behind {v} {database} {size} e =
      let s = with_none starts v database size e.sequential_run.some_size e.sequential_run.most_size in
      record {
        start = s.0;
        cells = e.cells;
        seats = e.seats;
        sequential_run = run_behind s.0 s.1 e.sequential_run;
        written = e.written;
        wrote = e.wrote;
        transcripts = e.transcripts;
        kept = e.kept;
        in_time = e.in_time;
        items = e.items;
        issued = e.issued;
        below = e.below;
        ids = e.ids;
      }

  pub outcome_first : AgreesBehind → AgreesWithout → InOrderWithout → {v : Server} {database : Text} {size : ℕ} {phase : Phase} {names : List Text} {lines : List InputLine} {cells : List Cell} (seats : List SeatState) (c : SequentialRun v database size phase names lines cells seats) (written : List Written)
      → Wrote seats written → names_in (transcripts_in written) ≡ names → NamesApart names → pending_in c.ledger < size → Outcome v database size names lines written c.ledger
  outcome_first agrees_behind agrees in_order {v} {database} {size} {names = names} {lines = lines} seats c written wrote named apart below =
      let s = with_none starts v database size c.some_size c.most_size in
      let o : OutcomeBehind v database size no_past names lines written c.ledger = outcome_is agrees_behind seats (run_behind s.0 s.1 c) written wrote named apart below in
      record {
        agree = (agrees v.meaning database (sessions_in lines names) None (transcripts_in written) c.ledger.items c.ledger.issued).0 o.agree;
        in_order = (in_order v.meaning size lines (transcripts_in written) c.ledger.items).0 o.in_order;
        images = o.images;
        legal = o.legal;
      }
