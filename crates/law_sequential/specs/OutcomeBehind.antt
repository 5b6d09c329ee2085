-- What a course behind a past came to whose sessions are all over, and what it says.
use Rattle.std.specs.Prelude.{ℕ, ◌≡◌, ◌≤◌, ◌<◌, ◌^◌, List, None, map, flat_map}
use Rattle.sql_types.specs.declared.journal.JournalItem.{JournalItem}
use Rattle.spec_model.specs.Journals.{IsLegal}
use Rattle.spec_history.specs.Facts.{facts_of}
use Rattle.spec_history.specs.Inputs.{InputLine, sessions_in}
use Rattle.spec_history.specs.Lists.{Text, Each, In}
use Rattle.spec_protocol.specs.AtTheEnd.{HasItsImages, image_items}
use Rattle.spec_protocol.specs.Cells.{LedgerCell, Cell, pending_in}
use Rattle.spec_protocol.specs.Seats.{Written, KeptImage, SeatState}
use Rattle.spec_protocol.specs.Server.{Server}
use Rattle.law_behind.specs.AgreeBehind.{AgreeBehind}
use Rattle.law_behind.specs.OrderBehind.{StepOrderBehind}
use Rattle.law_behind.specs.Past.{Past}
use Rattle.law_sequential.specs.Wrote.{transcripts_in, Wrote}
use Rattle.sql_types.specs.declared.digest.Digest.{Digest}
use Rattle.spec_model.specs.Script.{Reading}
use Rattle.spec_history.specs.Meaning.{Meaning}
use Rattle.spec_history.specs.Transcripts.{Transcript}
use Rattle.law_sequential.specs.EndsLast.{ending}
use Rattle.law_sequential.specs.RunStart.{RunStart}
use Rattle.law_sequential.specs.RunBehind.{SequentialRunBehind}
use Rattle.law_sequential.specs.SessionOutput.{IsImageOf, IsMeaning}

-- A course behind this past is over in which sessions of these names took up these lines, and committed and were
-- issued digests at some of these moments: they have these transcripts and kept these images, and this is the
-- journal and these are the digests.
pub record HasEndedBehind (v : Server) (database : Text) (size : ℕ) (past : Past) (names : List Text)
    (lines : List InputLine) (moments : List ℕ) (X : List Transcript) (images : List (List KeptImage))
    (J : List JournalItem) (G : List Digest) : Type 0 where
  pub start : RunStart v database size past
  pub cells : List Cell
  pub seats : List SeatState
  pub sequential_run : SequentialRunBehind start ending names lines cells seats
  pub written : List Written
  pub wrote : Wrote seats written
  pub transcripts : transcripts_in written ≡ X
  pub kept : map (λ w. w.images) written ≡ images
  pub in_time : Each (λ w. Each (λ time. In time moments) w.moments) written
  pub items : sequential_run.ledger.items ≡ J
  pub issued : sequential_run.ledger.issued ≡ G
  -- no block is full, and 8 bytes can tell each id
  pub below : pending_in sequential_run.ledger < size
  pub ids : sequential_run.ledger.next ≤ 2 ^ 63

-- Behind the past the transcripts agree with the journal and the digests, they keep the order of the lines, and the
-- images kept are those that they show.
pub record OutcomeBehind (v : Server) (database : Text) (size : ℕ) (past : Past) (names : List Text)
    (lines : List InputLine) (written : List Written) (ledger : LedgerCell) : Type 0 where
  pub agree : AgreeBehind v.meaning database past (sessions_in lines names) None (transcripts_in written)
      ledger.items ledger.issued
  pub in_order : StepOrderBehind v.meaning size past lines (transcripts_in written) ledger.items
  pub images : Each (HasItsImages v ledger) written
  pub legal : IsLegal v.reads ledger.items

-- The transcripts of sessions of these names, the images that each of them kept, the journal and the digests are those
-- of a run of these lines behind this past.
pub record RunAgreesBehind (h : List ℕ → List ℕ) (reads : Reading) (database : Text) (size : ℕ) (past : Past)
    (names : List Text) (lines : List InputLine) (X : List Transcript) (images : List (List KeptImage))
    (J : List JournalItem) (G : List Digest) : Type 0 where
  pub agree : (q : Meaning) → IsMeaning h reads q
      → AgreeBehind q database past (sessions_in lines names) None X J G
  pub in_order : (q : Meaning) → IsMeaning h reads q → StepOrderBehind q size past lines X J
  pub shown : (q : Meaning) → IsMeaning h reads q
      → map (λ kept. map (λ k. k.0) kept) images ≡ map (λ x. flat_map image_items (facts_of q x)) X
  pub are_images : Each (λ kept. Each (IsImageOf h reads database J) kept) images
