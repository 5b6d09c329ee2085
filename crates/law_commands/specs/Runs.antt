-- What was answered in the run of an input, and what was saved of it.
use Rattle.std.specs.Prelude.{ℕ, ◌≡◌, List, ◌∷◌, None, Some, codes, map}
use Rattle.spec_history.specs.Inputs.{InputLine, InputSession, sessions_in}
use Rattle.spec_history.specs.Transcripts.{Transcript}
use Rattle.format_lines.specs.Line.{Statement}
use Rattle.format_lines.specs.Sessions.{sessions_of}
use Rattle.format_sections.specs.RunSections.{RunSections, Section, statements_run}
use Rattle.law_headline.specs.LastImage.{last_image_bytes}
use Rattle.server_result.specs.declared.ran.RunOutcome.{RunOutcome as Output}
use Rattle.law_behind.specs.Past.{Past}
use Rattle.law_headline.specs.Before.{InOneOrder, InOrderOfLines}
use Rattle.law_headline.specs.BeforeBehind.{InOneOrderBehind, InOrderOfLinesBehind}
use Rattle.law_headline.specs.Headline.{Headline, Saved}
use Rattle.law_headline.specs.HeadlineBehind.{HeadlineBehind}

abbrev pub saved_of : List Transcript → Output → Saved
saved_of X o = record { X = X; images = o.images; J = o.journal; G = o.digests }

-- the lines of an input, and its sessions with the setup first, as histories have them
abbrev pub lines_of : List Statement → List InputLine
lines_of statements = map (λ s. record { session = s.session; text = s.text }) statements

abbrev pub session_of : Section → InputSession
session_of s = record { name = s.name; texts = statements_run s }

abbrev pub input_of : RunSections → List InputSession
input_of all_sections =
    record { name = codes "setup"; texts = all_sections.setup } ∷ map session_of all_sections.sessions

-- the image that stands beside those that were kept is that of the whole journal
abbrev pub HasLastImage : (List ℕ → List ℕ) → Output → Type 0
HasLastImage h o = o.image ≡ last_image_bytes h o.journal

-- every image that `step` saved of these lines, and of these transcripts, is as the headline has it
abbrev pub LinesKeepHeadline : (List ℕ → List ℕ) → ℕ → List Statement → List Transcript → Output → Type 0
LinesKeepHeadline h size statements X o =
    HasLastImage h o × Headline h (sessions_in (lines_of statements) (sessions_of statements)) None
    (InOrderOfLines size (lines_of statements) X o.journal.items) (saved_of X o)

-- and so every image that `run` saved
abbrev pub SectionsKeepHeadline : (List ℕ → List ℕ) → RunSections → List Transcript → Output → Type 0
SectionsKeepHeadline h all_sections X o =
    HasLastImage h o × Headline h (input_of all_sections) (Some 0) (InOneOrder X o.journal.items) (saved_of X o)

-- so it is of a run that goes on from a journal, behind this past
abbrev pub LinesKeepHeadlineBehind : (List ℕ → List ℕ) → ℕ → Past → List Statement → List Transcript → Output
    → Type 0
LinesKeepHeadlineBehind h size past statements X o =
    HasLastImage h o × HeadlineBehind h past (sessions_in (lines_of statements) (sessions_of statements)) None
    (InOrderOfLinesBehind size past (lines_of statements) X o.journal.items) (saved_of X o)

abbrev pub SectionsKeepHeadlineBehind : (List ℕ → List ℕ) → Past → RunSections → List Transcript → Output → Type 0
SectionsKeepHeadlineBehind h past all_sections X o =
    HasLastImage h o × HeadlineBehind h past (input_of all_sections) (Some 0)
    (InOneOrderBehind past X o.journal.items) (saved_of X o)
