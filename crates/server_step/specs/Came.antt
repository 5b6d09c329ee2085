-- What a run of an input's lines comes to.
use Rattle.std.specs.Prelude.{ℕ, ◌≡◌, List, [], ◌∷◌, ◌++◌, map}
use Rattle.sql_types.specs.declared.digest.Digest.{Digest}
use Rattle.sql_types.specs.declared.journal.Journal.{Journal}
use Rattle.sql_types.specs.declared.journal.TheConstants.{JOURNAL_VERSION}
use Rattle.spec_model.specs.LegalJournals.{IsLegalJournal}
use Rattle.spec_history.specs.Journals.{times}
use Rattle.spec_history.specs.Lists.{Text, Each}
use Rattle.spec_history.specs.StepOrder.{Row}
use Rattle.spec_history.specs.Transcripts.{Transcript}
use Rattle.spec_syntax.specs.Text.{statement_of}
use Rattle.spec_verify.specs.declared.place.Verdict.TheVariants.{Yes}
use Rattle.spec_verify.specs.Bytes.{verdict_of}
use Rattle.law_kept_images.specs.Held.{held}
use Rattle.format_lines.specs.Line.{Statement}
use Rattle.format_lines.specs.Sessions.{sessions_of}
use Rattle.spec_protocol.specs.Seats.{KeptImage}
use Rattle.server_engine.specs.SessionOutput.{RunAgrees}
use Rattle.law_kept_images.specs.Accepted.{IsAccepted}
use Rattle.law_kept_images.specs.LastImage.{last_image, last_image_bytes}
use Rattle.server_result.specs.Images.{AreKept}
use Rattle.server_result.specs.Moments.{IsMoment}
use Rattle.server_step.specs.Lines.{lines_of}
use Rattle.server_step.specs.Written.{AreWritten}

-- what is left of a run: of each session its transcript and the images that it kept; the entries of all
-- transcripts and the images of all sessions, as they are written and saved; the journal; and the digests
pub record Run : Type 0 where
  pub X : List Transcript
  pub kept : List (List KeptImage)
  pub rows : List Row
  pub images : List KeptImage
  pub J : Journal
  pub G : List Digest

-- It is that of a run of these statements in their order, each at a moment that is said, on a server of this
-- database whose blocks have at most so many transactions.
pub record CameTo (h : List ℕ → List ℕ) (database : Text) (size : ℕ) (says : ℕ → Type 0)
    (statements : List Statement) (run : Run) : Type 0 where
  -- transcripts, images, journal and digests agree, in the order of the lines
  pub agrees : RunAgrees h statement_of database size (sessions_of statements) (lines_of statements)
      run.X run.kept run.J.items run.G
  -- the journal is a legal one of a server's version, of the database
  pub version : run.J.version ≡ JOURNAL_VERSION
  pub legal : IsLegalJournal statement_of run.J
  pub of_database : run.J.database ≡ database
  -- the times of its transactions, and those at which the digests were made
  pub times : Each (IsMoment says) (times run.J.items)
  pub made : Each (λ d. IsMoment says d.made) run.G
  -- entries and images as they are written and saved
  pub written : AreWritten run.X (lines_of statements) run.rows
  pub saved : AreKept run.kept run.images
  -- `verify` says Yes of each image, and of the one of the whole journal, with any of the digests whose
  -- blocks are closed in it
  pub accepted : Each (IsAccepted h database run.J.items run.G) (run.images ++ last_image h run.J ∷ [])
  -- and of that of the whole journal with all of them at once
  pub all_accepted : verdict_of h (map held run.G) (last_image_bytes h run.J) ≡ Yes
