-- What a run of an input's lines is answered and what it leaves, by every meaning that statements have.
use Rattle.std.specs.Prelude.{ℕ, ◌≡◌, ◌≤◌, ◌<◌, ◌^◌, List, None, length, map, flat_map}
use Rattle.sql_types.specs.declared.digest.Digest.{Digest}
use Rattle.sql_types.specs.declared.journal.JournalItem.{JournalItem}
use Rattle.spec_model.specs.Script.{Reading}
use Rattle.spec_history.specs.Agree.{Agree}
use Rattle.spec_history.specs.ExactRefusals.{StepOrder}
use Rattle.spec_history.specs.Facts.{facts_of}
use Rattle.spec_history.specs.Inputs.{InputLine, sessions_in}
use Rattle.spec_history.specs.Lists.{Text, Each, In}
use Rattle.spec_history.specs.Meaning.{Meaning}
use Rattle.spec_history.specs.Real.{Hashing, IsReal}
use Rattle.spec_history.specs.Transcripts.{Transcript}
use Rattle.spec_protocol.specs.Image.{image_of_cut}
use Rattle.spec_protocol.specs.ImageBytes.{image_bytes}
use Rattle.spec_ledger.specs.Ledger.{block_hash}
use Rattle.spec_protocol.specs.AtTheEnd.{image_items}
use Rattle.spec_protocol.specs.Cells.{Cell, pending_in}
use Rattle.spec_protocol.specs.Seats.{KeptImage, SeatState, Written}
use Rattle.spec_protocol.specs.Server.{Server}
use Rattle.law_sequential.specs.SequentialRun.{SequentialRun}
use Rattle.law_sequential.specs.EndsLast.{ending}
use Rattle.law_sequential.specs.Wrote.{Wrote, transcripts_in}

-- ---- what a server came to

-- A course is over in which sessions of these names took up these lines, and committed and were issued
-- digests at some of these moments: they have these transcripts and kept these images, and this is the
-- journal and these are the digests.
pub record HasEnded (v : Server) (database : Text) (size : ℕ) (names : List Text) (lines : List InputLine)
    (moments : List ℕ) (X : List Transcript) (images : List (List KeptImage)) (J : List JournalItem)
    (G : List Digest) : Type 0 where
  pub cells : List Cell
  pub seats : List SeatState
  pub sequential_run : SequentialRun v database size ending names lines cells seats
  pub written : List Written
  pub wrote : Wrote seats written
  pub transcripts : transcripts_in written ≡ X
  pub kept : map (λ w. w.images) written ≡ images
  pub in_time : Each (λ w. Each (λ time. In time moments) w.moments) written
  pub items : sequential_run.ledger.items ≡ J
  pub issued : sequential_run.ledger.issued ≡ G
  -- no block is full, and 8 bytes can tell each id
  pub below : pending_in sequential_run.ledger < size
  pub ids : sequential_run.ledger.next ≤ 2 ^ 63

-- ---- what it says

-- a meaning that statements have, where blocks are hashed with h
pub record IsMeaning (h : List ℕ → List ℕ) (reads : Reading) (q : Meaning) : Type 0 where
  pub hashing : Hashing
  pub real : IsReal reads hashing q
  pub hashes : (J : List JournalItem) (b : ℕ) → hashing.hash J b ≡ block_hash h reads J b

-- an image of so many items of this journal
pub record IsImageOf (h : List ℕ → List ℕ) (reads : Reading) (database : Text) (J : List JournalItem)
    (k : KeptImage) : Type 0 where
  pub within : k.0 ≤ length J
  pub bytes : k.1 ≡ image_bytes (image_of_cut h reads database J k.0)

-- The transcripts of sessions of these names, the images that each of them kept, the journal and the digests
-- are those of a run of these lines.
pub record RunAgrees (h : List ℕ → List ℕ) (reads : Reading) (database : Text) (size : ℕ)
    (names : List Text) (lines : List InputLine) (X : List Transcript) (images : List (List KeptImage))
    (J : List JournalItem) (G : List Digest) : Type 0 where
  -- by all rules of agreement
  pub agree : (q : Meaning) → IsMeaning h reads q → Agree q database (sessions_in lines names) None X J G
  -- in the order of the lines, with E20 exactly where a lock is in the way
  pub in_order : (q : Meaning) → IsMeaning h reads q → StepOrder q size lines X J
  -- the images are those that the transcripts show, of cuts of the journal
  pub shown : (q : Meaning) → IsMeaning h reads q
      → map (λ kept. map (λ k. k.0) kept) images ≡ map (λ x. flat_map image_items (facts_of q x)) X
  pub are_images : Each (λ kept. Each (IsImageOf h reads database J) kept) images
