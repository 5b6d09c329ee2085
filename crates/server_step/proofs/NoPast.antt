-- What a run comes to behind no past, it comes to without one.
use Rattle.std.proofs.Common.{◌≡◌, ◌⊎◌, ◌↔◌, ◌++◌, ℕ, List, [], ◌∷◌, map, refl, inr}
use Rattle.sql_types.specs.declared.digest.Digest.{Digest}
use Rattle.sql_types.specs.declared.journal.JournalItem.{JournalItem}
use Rattle.spec_model.specs.Script.{Reading}
use Rattle.spec_history.specs.Inputs.{InputLine}
use Rattle.spec_history.specs.Lists.{Text, Each}
use Rattle.spec_history.specs.Transcripts.{Transcript}
use Rattle.spec_history.proofs.Trace.{each_weaker}
use Rattle.spec_syntax.specs.Text.{statement_of}
use Rattle.spec_protocol.specs.Seats.{KeptImage}
use Rattle.law_behind.specs.Past.{no_past}
use Rattle.law_kept_images.specs.Accepted.{IsAccepted, IsOfCut}
use Rattle.law_kept_images.specs.AcceptedBehind.{IsAcceptedBehind, IsHeldOfPast, IsHeldOfRun}
use Rattle.law_kept_images.specs.Held.{held}
use Rattle.law_kept_images.specs.LastImage.{last_image}
use Rattle.format_lines.specs.Line.{Statement}
use Rattle.format_lines.specs.Sessions.{sessions_of}
use Rattle.server_engine.specs.OutcomeBehind.{RunAgreesBehind}
use Rattle.server_engine.specs.SessionOutput.{RunAgrees}
use Rattle.server_step.specs.Came.{CameTo, Run}
use Rattle.server_step.specs.CameBehind.{CameToBehind}
use Rattle.server_step.specs.Lines.{lines_of}

-- the law that is used
abbrev pub AgreesWithout : Type 0
AgreesWithout = (h : List ℕ → List ℕ) (reads : Reading) (database : Text) (size : ℕ) (names : List Text) (lines : List InputLine) (X : List Transcript) (images : List (List KeptImage)) (J : List JournalItem) (G : List Digest)
    → RunAgreesBehind h reads database size no_past names lines X images J G ↔ RunAgrees h reads database size names lines X images J G

module _ (h : List ℕ → List ℕ) (database : Text) (J : List JournalItem) (G : List Digest) where
  all_of_run : (n : ℕ) (digests : List Digest) → Each (IsOfCut J n G) digests → Each (λ d. IsHeldOfPast h database no_past d ⊎ IsHeldOfRun J n G d) (map held digests)
  all_of_run n [] e = tt
  all_of_run n (d ∷ ds) e = (inr (d, e.0, refl), all_of_run n ds e.1)

  accepted_first : (k : KeptImage) → IsAcceptedBehind h database no_past J G k → IsAccepted h database J G k
  accepted_first k a digests e = a (map held digests) (all_of_run k.0 digests e)

pub came_first : AgreesWithout → (h : List ℕ → List ℕ) (database : Text) (size : ℕ) (says : ℕ → Type 0) (statements : List Statement) (run : Run)
    → CameToBehind h database size no_past says statements run → CameTo h database size says statements run
came_first agrees h database size says statements run c = record {
  agrees = (agrees h statement_of database size (sessions_of statements) (lines_of statements) run.X run.kept run.J.items run.G).0 c.agrees;
  version = c.version;
  legal = c.legal;
  of_database = c.of_database;
  times = c.times;
  made = c.made;
  written = c.written;
  saved = c.saved;
  accepted = each_weaker (IsAcceptedBehind h database no_past run.J.items run.G) (IsAccepted h database run.J.items run.G) (accepted_first h database run.J.items run.G)
      (run.images ++ last_image h run.J ∷ []) c.accepted;
  all_accepted = c.all_accepted;
}
