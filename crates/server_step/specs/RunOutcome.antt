-- What the code has of a run.
use Rattle.std.specs.Prelude.{ℕ, ◌≡◌, true, List, map}
use Rattle.std.specs.List.{AllByRecursion}
use Rattle.base_types.specs.DatabaseName.{is_database_name}
use Rattle.base_types.specs.SessionName.{is_session_name}
use Rattle.spec_history.specs.Lists.{Text, Each}
use Rattle.spec_history.specs.Transcripts.{Transcript}
use Rattle.format_journal.specs.Rules.{IsJournal}
use Rattle.format_digest.specs.Writing.{HasMoments}
use Rattle.law_image.specs.Room.{FitsImageFormat}
use Rattle.spec_syntax.specs.Text.{statement_of}
use Rattle.format_lines.specs.Line.{Statement}
use Rattle.format_lines.specs.Sessions.{sessions_of}
use Rattle.server_engine.specs.Parts.{HasLeft}
use Rattle.server_engine.specs.declared.parts.Parts.{Parts}
use Rattle.law_behind.specs.Past.{Past}
use Rattle.law_kept_images.specs.LastImage.{last_image_bytes}
use Rattle.server_result.specs.Images.{with_each}
use Rattle.server_result.specs.Moments.{IsMoment}
use Rattle.server_result.specs.declared.ran.RunOutcome.{RunOutcome}
use Rattle.server_step.specs.Came.{Run}
use Rattle.server_step.specs.Numbers.{numbers_of}
use Rattle.server_step.specs.Reached.{asked}
use Rattle.server_step.specs.Woven.{woven, woven_text}
use Rattle.server_step.specs.Written.{rows_text}

-- it is this run, of sessions of these names, and what it saves has a spelling
pub record IsRunOutcome (h : List ℕ → List ℕ) (names : List Text) (run : Run) (r : RunOutcome) : Type 0 where
  pub transcript : r.transcript ≡ rows_text names run.rows
  pub images : r.images ≡ run.images
  pub image : r.image ≡ last_image_bytes h run.J
  pub journal : r.journal ≡ run.J
  pub digests : r.digests ≡ run.G
  pub journal_is_encodable : IsJournal r.journal
  -- the image has room in its format, so that it has a spelling
  pub has_room : FitsImageFormat h statement_of run.J.database run.J.items
  pub digests_have_moments : AllByRecursion HasMoments r.digests

-- ---- what a core left

-- a core that these statements were asked of, behind this past, left this
pub record HasRun {H : Type 0} (h : List ℕ → List ℕ) (past : Past) (database : Text) (size : ℕ)
    (says : ℕ → Type 0) (statements : List Statement) (p : Parts H) : Type 0 where
  pub database_is_named : is_database_name database ≡ true
  pub sessions_are_named : Each (λ name. is_session_name name ≡ true) (sessions_of statements)
  pub times : List ℕ
  pub moments : Each (IsMoment says) times
  pub left : HasLeft h (asked past database size (sessions_of statements) statements times) p

-- this is written and saved of what it left
pub record HasKept {H : Type 0} (names : List Text) (statements : List Statement) (p : Parts H)
    (r : RunOutcome) : Type 0 where
  pub transcript : r.transcript ≡ woven_text (numbers_of names statements) (map (λ y. y.entries) p.sessions.items)
  pub images : r.images ≡ with_each (map (λ y. y.images) p.sessions.items)
  pub image : r.image ≡ p.image
  pub journal : r.journal ≡ p.journal
  pub digests : r.digests ≡ p.digests

-- the run of these transcripts
abbrev pub run_left : {H : Type 0} → List Statement → List Transcript → Parts H → Run
run_left statements X p = record {
  X = X;
  kept = map (λ y. y.images) p.sessions.items;
  rows = woven (numbers_of (sessions_of statements) statements) (map (λ x. x.entries) X);
  images = with_each (map (λ y. y.images) p.sessions.items);
  J = p.journal;
  G = p.digests;
}
