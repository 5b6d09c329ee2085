-- The sections of an input.
use Rattle.std.specs.Prelude.{ℕ, ◌+◌, List, [], ◌∷◌, ◌++◌, codes, length, map, Option, Some, None, Result, Ok, Err}
use Rattle.std.specs.List.{sum_by, flat_map}
use Rattle.format_sections.specs.declared.kind.SectionKind.{SectionKind}
use Rattle.format_sections.specs.declared.kind.SectionKind.TheVariants.{Session, Snapshot}
use Rattle.format_sections.specs.declared.section.Section as read
use Rattle.format_sections.specs.declared.all_sections.RunSections as read_
use Rattle.format_sections.specs.Kind.{Kind, Skipped, SetupLine, SectionLine, Statement, kinds_of}
use Rattle.format_sections.specs.Form.{first_lacking}

-- the statements that stand before the next line of another kind
abbrev pub statements_of : List Kind → List (List ℕ)
statements_of [] = []
statements_of (Statement text ∷ more) = text ∷ statements_of more
statements_of (Skipped ∷ more) = statements_of more
statements_of (_ ∷ more) = []

-- a section, of which kind, and its statements
pub record Section : Type 0 where
  pub name : List ℕ
  pub kind : SectionKind
  pub statements : List (List ℕ)

-- the statements of the setup, and the sections of sessions
pub record RunSections : Type 0 where
  pub setup : List (List ℕ)
  pub sessions : List Section

-- the statements behind the line of the setup, which stands before all others that aren't skipped
abbrev pub setup_of : List Kind → List (List ℕ)
setup_of [] = []
setup_of (Skipped ∷ more) = setup_of more
setup_of (SetupLine ∷ more) = statements_of more
setup_of (_ ∷ more) = []

-- each section that a line begins, with the statements behind that line
abbrev pub sessions_of : List Kind → List Section
sessions_of [] = []
sessions_of (SectionLine kind name ∷ more) =
    record { name = name; kind = kind; statements = statements_of more } ∷ sessions_of more
sessions_of (_ ∷ more) = sessions_of more

abbrev pub run_sections_of : List Kind → RunSections
run_sections_of lines = record { setup = setup_of lines; sessions = sessions_of lines }

-- the plan, where no line lacks its form
abbrev pub unless_lacking : Option ℕ → RunSections → Result RunSections ℕ
unless_lacking None all_sections = Ok all_sections
unless_lacking (Some line) all_sections = Err line

-- the plan that an input says, or the first line that lacks its form
unfoldable pub read_run_sections : List ℕ → Result RunSections ℕ
read_run_sections bytes = unless_lacking (first_lacking [] (kinds_of bytes)) (run_sections_of (kinds_of bytes))

-- the statements that the session of a section runs: that of a snapshot runs one, which keeps the image
abbrev pub run_as : SectionKind → List (List ℕ) → List (List ℕ)
run_as Session statements = statements
run_as Snapshot statements = codes "SAVE IMAGE" ∷ []

abbrev pub statements_run : Section → List (List ℕ)
statements_run s = run_as s.kind s.statements

-- the statements that are answered over this image
abbrev pub answered_as : SectionKind → List (List ℕ) → List (List ℕ)
answered_as Session statements = []
answered_as Snapshot statements = statements

abbrev pub statements_answered : Section → List (List ℕ)
statements_answered s = answered_as s.kind s.statements

-- the names of the sections of a plan
abbrev pub session_names : RunSections → List (List ℕ)
session_names all_sections = map (λ s. s.name) all_sections.sessions

-- all statements of a plan: those of the setup, and behind them each section's
abbrev pub statements_of_sections : RunSections → List (List ℕ)
statements_of_sections all_sections = all_sections.setup ++ flat_map (λ s. s.statements) all_sections.sessions

-- all statements that some lines are
abbrev pub texts_of : List Kind → List (List ℕ)
texts_of [] = []
texts_of (Statement text ∷ more) = text ∷ texts_of more
texts_of (_ ∷ more) = texts_of more

-- how many sections and statements a plan has
abbrev pub size_of : RunSections → ℕ
size_of all_sections = length all_sections.setup + sum_by (λ s. 1 + length s.statements) all_sections.sessions

-- the section that was read
abbrev pub section_view : read.Section → Section
section_view s = record { name = s.name.now; kind = s.kind; statements = map (λ t. t.now) s.statements.items }

-- the plan that was read
abbrev pub run_sections_view : read_.RunSections → RunSections
run_sections_view all_sections =
    record { setup = map (λ t. t.now) all_sections.setup.items; sessions = map section_view all_sections.sessions.items }
