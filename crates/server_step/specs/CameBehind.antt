-- What a run of an input's lines comes to that goes on from a journal.
use Rattle.std.specs.Prelude.{ℕ, ◌≡◌, List, [], ◌∷◌, ◌++◌, map}
use Rattle.sql_types.specs.declared.journal.TheConstants.{JOURNAL_VERSION}
use Rattle.spec_model.specs.LegalJournals.{IsLegalJournal}
use Rattle.spec_history.specs.Journals.{times}
use Rattle.spec_history.specs.Lists.{Text, Each}
use Rattle.spec_syntax.specs.Text.{statement_of}
use Rattle.spec_verify.specs.declared.place.Verdict.TheVariants.{Yes}
use Rattle.spec_verify.specs.Bytes.{verdict_of}
use Rattle.law_behind.specs.Past.{Past, since}
use Rattle.law_kept_images.specs.AcceptedBehind.{IsAcceptedBehind}
use Rattle.law_kept_images.specs.Held.{held}
use Rattle.law_kept_images.specs.LastImage.{last_image, last_image_bytes}
use Rattle.format_lines.specs.Line.{Statement}
use Rattle.format_lines.specs.Sessions.{sessions_of}
use Rattle.server_engine.specs.OutcomeBehind.{RunAgreesBehind}
use Rattle.server_result.specs.Images.{AreKept}
use Rattle.server_result.specs.Moments.{IsMoment}
use Rattle.server_step.specs.Came.{Run}
use Rattle.server_step.specs.Lines.{lines_of}
use Rattle.server_step.specs.Written.{AreWritten}

-- It is that of a run of these statements in their order behind this past, each at a moment that is said, on a server
-- of this database whose blocks have at most so many transactions.
pub record CameToBehind (h : List ℕ → List ℕ) (database : Text) (size : ℕ) (past : Past) (says : ℕ → Type 0)
    (statements : List Statement) (run : Run) : Type 0 where
  -- transcripts, images, journal and digests agree behind the past, in the order of the lines
  pub agrees : RunAgreesBehind h statement_of database size past (sessions_of statements) (lines_of statements)
      run.X run.kept run.J.items run.G
  -- the journal is a legal one of a server's version, of the database
  pub version : run.J.version ≡ JOURNAL_VERSION
  pub legal : IsLegalJournal statement_of run.J
  pub of_database : run.J.database ≡ database
  -- the times of its new transactions, and those at which the digests were made
  pub times : Each (IsMoment says) (times (since past run.J.items))
  pub made : Each (λ d. IsMoment says d.made) run.G
  -- entries and images as they are written and saved
  pub written : AreWritten run.X (lines_of statements) run.rows
  pub saved : AreKept run.kept run.images
  -- `verify` says Yes of each image, and of the one of the whole journal, with any of the digests whose
  -- blocks are closed in it, and with any of the past
  pub accepted : Each (IsAcceptedBehind h database past run.J.items run.G)
      (run.images ++ last_image h run.J ∷ [])
  -- and of that of the whole journal with all digests of the run at once
  pub all_accepted : verdict_of h (map held run.G) (last_image_bytes h run.J) ≡ Yes
