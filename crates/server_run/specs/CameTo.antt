-- What a run of a plan comes to, and what is written and saved of it.
use Rattle.std.specs.Prelude.{ℕ, ◌≡◌, ◌+◌, ◌++◌, List, [], ◌∷◌, map}
use Rattle.std.specs.List.{AllByRecursion}
use Rattle.sql_types.specs.declared.digest.Digest.{Digest}
use Rattle.sql_types.specs.declared.journal.Journal.{Journal}
use Rattle.spec_model.specs.Journals.{closed, cut, serial, tx_count}
use Rattle.format_digest.specs.Writing.{HasMoments}
use Rattle.spec_history.specs.Inputs.{InputSession}
use Rattle.spec_history.specs.Journals.{blocks}
use Rattle.spec_history.specs.Lists.{Text}
use Rattle.spec_history.specs.Transcripts.{Transcript}
use Rattle.format_journal.specs.Rules.{IsJournal}
use Rattle.law_image.specs.Room.{FitsImageFormat}
use Rattle.law_blocks.specs.Digests.{digest_of}
use Rattle.spec_verify.specs.declared.place.Verdict.TheVariants.{Yes}
use Rattle.spec_verify.specs.Bytes.{verdict_of}
use Rattle.law_concurrent.specs.Held.{held}
use Rattle.spec_syntax.specs.Text.{statement_of}
use Rattle.format_sections.specs.RunSections.{RunSections, Section, statements_answered, statements_run}
use Rattle.format_sections.specs.declared.kind.SectionKind.TheVariants.{Session}
use Rattle.spec_protocol.specs.Seats.{KeptImage}
use Rattle.law_snapshots.specs.Answered.{AreAnsweredOver}
use Rattle.server_result.specs.Images.{AreKept}
use Rattle.server_result.specs.Joined.{joined}
use Rattle.server_result.specs.Moments.{IsMoment}
use Rattle.server_result.specs.declared.ran.RunOutcome.{RunOutcome}
use Rattle.law_behind.specs.Past.{Past}
use Rattle.law_concurrent.specs.CameTo as together
use Rattle.law_concurrent.specs.CameToBehind as behind
use Rattle.law_concurrent.specs.CameTo.{RunResult, last_image_bytes}
use Rattle.format_transcript.specs.TranscriptText.{transcript_text}
use Rattle.server_run.specs.FinishedRun.{setup_name}

-- what an input has of a session
abbrev pub session_of : Section → InputSession
session_of s = record { name = s.name; texts = statements_run s }

-- the setup first, and then the sessions in their order
abbrev pub input_of : RunSections → List InputSession
input_of all_sections = record { name = setup_name; texts = all_sections.setup } ∷ map session_of all_sections.sessions

-- However the turns of sessions and builder fell, this is left of a run of the plan, on a server of this
-- database whose blocks have at most so many transactions, each statement at a moment that is said.
abbrev pub CameTo : (List ℕ → List ℕ) → Text → ℕ → (ℕ → Type 0) → RunSections → RunResult → Type 0
CameTo h database size says all_sections left = together.CameTo h database size (IsMoment says) (input_of all_sections) left

-- so it is of a run that goes on from a journal
abbrev pub CameToBehind : (List ℕ → List ℕ) → Text → ℕ → Past → (ℕ → Type 0) → RunSections → RunResult → Type 0
CameToBehind h database size past says all_sections left =
    behind.CameToBehind h database size past (IsMoment says) (input_of all_sections) left

-- ---- what is answered over snapshots

-- the setup as a section, and then the sections
abbrev pub sections_of : RunSections → List Section
sections_of all_sections =
    record { name = setup_name; kind = Session; statements = all_sections.setup } ∷ all_sections.sessions

-- Of a section whose session kept images of these parts of the journal, each of the texts of a snapshot is answered
-- over the tables to which the first of the parts leads, run by one thread, in their order; where there is none,
-- nothing is answered. These are the entries.
abbrev pub IsAnswered : Journal → Section → List KeptImage → List Text → Type 0
IsAnswered J s [] entries = entries ≡ []
IsAnswered J s (kept ∷ _) entries =
    AreAnsweredOver (serial statement_of (cut J.items kept.0)) s.name (statements_answered s) entries

-- so it is of each section
abbrev pub AllAnswered : Journal → List Section → List (List KeptImage) → List (List Text) → Type 0
AllAnswered J [] [] [] = Unit {0}
AllAnswered J (s ∷ sections) (kept ∷ images) (entries ∷ more) =
    IsAnswered J s kept entries × AllAnswered J sections images more
AllAnswered J _ _ _ = ⊥

-- one transcript behind the other, each with the entries behind it that were answered over its image
abbrev pub texts_with : List Transcript → List (List Text) → List ℕ
texts_with (x ∷ X) (entries ∷ more) = (transcript_text x ++ joined entries) ++ texts_with X more
texts_with _ _ = []

-- This is written and saved of it, and it has a spelling: the transcripts with what was answered over snapshots, the
-- images that were kept, each once, that of the whole journal, the journal, and the digests.
pub record IsOf (h : List ℕ → List ℕ) (all_sections : RunSections) (left : RunResult) (r : RunOutcome) : Type 0 where
  pub answers : List (List Text)
  pub answered : AllAnswered left.J (sections_of all_sections) left.kept answers
  pub transcript : r.transcript ≡ texts_with left.X answers
  pub images : AreKept left.kept r.images
  pub image : r.image ≡ last_image_bytes h left.J
  pub journal : r.journal ≡ left.J
  pub digests : r.digests ≡ left.G
  pub journal_is_encodable : IsJournal r.journal
  -- the image has room in its format, so that it has a spelling
  pub has_room : FitsImageFormat h statement_of left.J.database left.J.items
  pub digests_have_moments : AllByRecursion HasMoments r.digests

-- ---- a run behind which the ledger is closed

-- with some digests behind its own
abbrev pub and_digests : RunResult → List Digest → RunResult
and_digests left more = record { X = left.X; kept = left.kept; J = left.J; G = left.G ++ more }

-- it is the digest of the journal's newest block, made at a moment that is said
pub record IsLast (h : List ℕ → List ℕ) (says : ℕ → Type 0) (J : Journal) (d : Digest) : Type 0 where
  pub newest : blocks J.items ≡ d.block + 1
  pub is : d ≡ digest_of h statement_of J.database J.items d.block d.made
  pub made : IsMoment says d.made

-- one such digest, or none where the journal has no transaction
abbrev pub AreLast : (List ℕ → List ℕ) → (ℕ → Type 0) → Journal → List Digest → Type 0
AreLast h says J [] = tx_count J.items ≡ 0
AreLast h says J (d ∷ []) = IsLast h says J d
AreLast h says J _ = ⊥

-- All transactions are in blocks. Behind the digests of the run that of the newest block was issued, and
-- `verify` says Yes of the image of the whole journal with all of them at once.
pub record IsClosed (h : List ℕ → List ℕ) (says : ℕ → Type 0) (left : RunResult) (more : List Digest)
    : Type 0 where
  pub all : closed left.J.items ≡ tx_count left.J.items
  pub last : AreLast h says left.J more
  pub accepted : verdict_of h (map held (left.G ++ more)) (last_image_bytes h left.J) ≡ Yes
