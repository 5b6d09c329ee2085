-- What a run of sessions side by side comes to.
use Rattle.std.specs.Prelude.{ℕ, ◌≡◌, List, map, flat_map, Some}
use Rattle.sql_types.specs.declared.digest.Digest.{Digest}
use Rattle.sql_types.specs.declared.journal.Journal.{Journal}
use Rattle.sql_types.specs.declared.journal.TheConstants.{JOURNAL_VERSION}
use Rattle.spec_model.specs.LegalJournals.{IsLegalJournal}
use Rattle.spec_history.specs.Agree.{Agree}
use Rattle.spec_history.specs.Facts.{facts_of}
use Rattle.spec_history.specs.Inputs.{InputSession}
use Rattle.spec_history.specs.Journals.{times}
use Rattle.spec_history.specs.Lists.{Text, Each}
use Rattle.spec_history.specs.Meaning.{Meaning}
use Rattle.spec_history.specs.Transcripts.{Transcript}
use Rattle.spec_syntax.specs.Text.{statement_of}
use Rattle.spec_verify.specs.declared.place.Verdict.TheVariants.{Yes}
use Rattle.spec_verify.specs.Bytes.{verdict_of}
use Rattle.law_kept_images.specs.Held.{held}
use Rattle.spec_protocol.specs.AtTheEnd.{image_items}
use Rattle.spec_protocol.specs.Seats.{KeptImage}
use Rattle.law_kept_images.specs.SessionOutput.{IsImageOf, IsMeaning}
use Rattle.law_kept_images.specs.Accepted.{IsAccepted}
pub use Rattle.law_kept_images.specs.LastImage.{last_image, last_image_bytes}
use Rattle.law_moments.specs.AddedInTime.{FitsBlock}
use Rattle.law_concurrent.specs.InOrder.{RanInOneOrder}

-- What is left of a run: of `setup`, and then of each session in the order of the plan, its transcript and
-- the images that it kept; the journal; and the digests.
pub record RunResult : Type 0 where
  pub X : List Transcript
  pub kept : List (List KeptImage)
  pub J : Journal
  pub G : List Digest

-- However the turns of sessions and builder fell, it is that of a run of this input, on a server of this
-- database whose blocks take at most so many transactions, each commit and digest at a moment that is such.
pub record CameTo (h : List ℕ → List ℕ) (database : Text) (size : ℕ) (IsSaid : ℕ → Type 0)
    (input : List InputSession) (r : RunResult) : Type 0 where
  -- transcripts, journal and digests agree by all rules, with the first session as `setup`
  pub agree : (q : Meaning) → IsMeaning h statement_of q
      → Agree q database input (Some 0) r.X r.J.items r.G
  -- all that the transcripts show stands in one order, and images are accepted with the digests before them
  -- in it, of whatever session
  pub in_order : (q : Meaning) → IsMeaning h statement_of q → RanInOneOrder h q database r.X r.kept r.J.items
  -- the journal is a legal one of a server's version, of the database, and no block is greater than it may be
  pub version : r.J.version ≡ JOURNAL_VERSION
  pub legal : IsLegalJournal statement_of r.J
  pub of_database : r.J.database ≡ database
  pub closings : Each (FitsBlock size) r.J.items
  -- the times of its transactions, and those at which the digests were made
  pub times : Each IsSaid (times r.J.items)
  pub made : Each (λ d. IsSaid d.made) r.G
  -- the images are those that the transcripts show, of cuts of the journal
  pub shown : (q : Meaning) → IsMeaning h statement_of q
      → map (λ kept. map (λ k. k.0) kept) r.kept ≡ map (λ x. flat_map image_items (facts_of q x)) r.X
  pub are_images : Each (λ kept. Each (IsImageOf h statement_of database r.J.items) kept) r.kept
  -- `verify` says Yes of each image, and of the one of the whole journal, with any of the digests whose
  -- blocks are closed in it
  pub accepted : Each (λ kept. Each (IsAccepted h database r.J.items r.G) kept) r.kept
  pub last_accepted : IsAccepted h database r.J.items r.G (last_image h r.J)
  -- and of that of the whole journal with all of them at once
  pub all_accepted : verdict_of h (map held r.G) (last_image_bytes h r.J) ≡ Yes
