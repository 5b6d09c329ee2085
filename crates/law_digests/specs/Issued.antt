-- The digests that a run of an input issued, and the bytes of the input's statements.
use Rattle.std.specs.Prelude.{ℕ, ◌≡◌, ◌≤◌, ◌<◌, ◌+◌, ◌^◌, true, List, [], ◌∷◌, length, map, codes, Option, None, Ok}
use Rattle.base_types.specs.DatabaseName.{is_database_name}
use Rattle.sql_types.specs.declared.digest.Digest.{Digest}
use Rattle.sql_types.specs.declared.journal.JournalItem.{JournalItem}
use Rattle.spec_history.specs.Agree.{AreStatements, DigestsAreOf}
use Rattle.spec_history.specs.InPlace.{IsControlled, IsElseNoMemory, Throughout}
use Rattle.spec_history.specs.Inputs.{InputLine, InputSession, sessions_in}
use Rattle.spec_history.specs.Lists.{Text, At}
use Rattle.spec_history.specs.Meaning.{Meaning}
use Rattle.spec_history.specs.Transcripts.{Transcript}
use Rattle.spec_syntax.specs.Text.{statement_of}
use Rattle.format_digest.specs.Reading.{IsRead}
use Rattle.format_digest.specs.Writing.{IsFile, held_form}
use Rattle.format_lines.specs.Line.{Statement}
use Rattle.format_lines.specs.Lines.{read_input}
use Rattle.format_lines.specs.Sessions.{sessions_of}
use Rattle.format_sections.specs.RunSections.{RunSections, Section, read_run_sections, statements_run}
use Rattle.law_digests.specs.Size.{input_limit}

-- ---- inputs

-- the sessions of these statements, as histories have them
abbrev pub line_of : Statement → InputLine
line_of s = record { session = s.session; text = s.text }

abbrev pub sessions_of_lines : List Statement → List InputSession
sessions_of_lines statements = sessions_in (map line_of statements) (sessions_of statements)

-- and those of these sections, with the setup first
abbrev pub session_of : Section → InputSession
session_of s = record { name = s.name; texts = statements_run s }

abbrev pub sessions_of_sections : RunSections → List InputSession
sessions_of_sections all_sections =
    record { name = codes "setup"; texts = all_sections.setup } ∷ map session_of all_sections.sessions

-- how many bytes some texts have, each with a line feed behind it
abbrev pub line_bytes : List Text → ℕ
line_bytes [] = 0
line_bytes (text ∷ texts) = length text + 1 + line_bytes texts

-- and the statements of some sessions
abbrev pub input_bytes : List InputSession → ℕ
input_bytes [] = 0
input_bytes (s ∷ input) = line_bytes s.texts + input_bytes input

-- the sessions are those of these bytes, of lines or of sections, which are no more than an input may have
pub record AreLinesOf (bytes : List ℕ) (statements : List Statement) : Type 0 where
  pub within : length bytes ≤ input_limit
  pub read : read_input bytes ≡ Ok statements

pub record AreSectionsOf (bytes : List ℕ) (all_sections : RunSections) : Type 0 where
  pub within : length bytes ≤ input_limit
  pub read : read_run_sections bytes ≡ Ok all_sections

-- ---- digests

-- texts are read as the grammar has them
abbrev pub ReadsSo : Meaning → Type 0
ReadsSo q = (text : Text) → q.reads text ≡ statement_of text

-- The rules of agreement that tell how many digests there are. They are the same where a run goes on from a journal.
pub record AgreeOnDigests (q : Meaning) (database : Text) (input : List InputSession) (setup : Option ℕ)
    (X : List Transcript) (J : List JournalItem) (G : List Digest) : Type 0 where
  pub statements_are_answered : AreStatements input X
  pub digests_are_the_journals : DigestsAreOf q database setup X J G
  pub control_is_refused_in_place : (i : ℕ) (x : Transcript) → At X i x
      → Throughout (IsControlled q) None 0 x.entries
  pub else_no_memory : (i : ℕ) (x : Transcript) → At X i x → Throughout (IsElseNoMemory q) None 0 x.entries

-- In a run of these sessions these digests were issued, and this is the file of them, from which they are read
-- again.
pub record AreIssued (q : Meaning) (database : Text) (input : List InputSession) (setup : Option ℕ)
    (J : List JournalItem) (G : List Digest) (file : List ℕ) : Type 0 where
  pub reads : ReadsSo q
  pub X : List Transcript
  pub agree : AgreeOnDigests q database input setup X J G
  pub database_name : is_database_name database ≡ true
  pub count : length J < 2 ^ 64
  pub is_file : IsFile G file
  pub read_back : IsRead file (Ok (map held_form G))
