-- Which inputs are run, by the form that a command reads.
use Rattle.std.specs.Prelude.{◌≡◌, ◌<◌, ◌≤◌, ◌⊎◌, ℕ, List, length, Result, Ok, Err}
use Rattle.format_lines.specs.Line.{Statement}
use Rattle.format_lines.specs.Lines.{read_input}
use Rattle.format_lines.specs.Sessions.{sessions_of, max_sessions}
use Rattle.format_sections.specs.RunSections.{RunSections, read_run_sections}
use Rattle.cli_audit.specs.declared.status.Status.{Status}
use Rattle.cli_audit.specs.declared.status.Status.TheVariants.{Limit, Form, Memory}
use Rattle.cli_audit.specs.Transfer.{input_limit, IsTooMuch}

-- a form of inputs: what an input says, or its first line that lacks the form; and how many sessions stand in
-- what it says
pub record InputForm (A : Type 0) : Type 0 where
  pub read : List ℕ → Result A ℕ
  pub sessions : A → ℕ

-- that of `step`: lines, each a statement of a session
abbrev pub line_form : InputForm (List Statement)
line_form = record { read = read_input; sessions = λ statements. length (sessions_of statements) }

-- that of `run`: sections, of the setup and of sessions, which alone are counted
abbrev pub section_form : InputForm RunSections
section_form = record { read = read_run_sections; sessions = λ all_sections. length all_sections.sessions }

-- the input says this, and has no more bytes and sessions than it may have
abbrev pub Says : {A : Type 0} → InputForm A → List ℕ → A → Type 0
Says form bytes said =
    (length bytes ≤ input_limit) × (form.read bytes ≡ Ok said) × (form.sessions said ≤ max_sessions)

-- it says something, and has no more than it may have
abbrev pub IsInput : {A : Type 0} → InputForm A → List ℕ → Type 0
IsInput {A} form bytes = (said : A) × Says form bytes said

-- more sessions stand in an input than it may have
abbrev pub HasManySessions : {A : Type 0} → InputForm A → List ℕ → Type 0
HasManySessions {A} form bytes =
    (length bytes ≤ input_limit) × (said : A) × (form.read bytes ≡ Ok said)
    × (max_sessions < form.sessions said)

-- the input has more bytes than it may have, or else more sessions
abbrev pub IsBeyond : {A : Type 0} → InputForm A → List ℕ → Type 0
IsBeyond form bytes = IsTooMuch bytes ⊎ HasManySessions form bytes

-- this is the first line that lacks its form
abbrev pub LacksForm : {A : Type 0} → InputForm A → List ℕ → ℕ → Type 0
LacksForm form bytes line = (length bytes ≤ input_limit) × (form.read bytes ≡ Err line)

-- why an input isn't run
abbrev pub IsRefused : {A : Type 0} → InputForm A → Status → List ℕ → Type 0
IsRefused form Limit bytes = HasManySessions form bytes
IsRefused form (Form line) bytes = LacksForm form bytes line
IsRefused form Memory bytes = Unit {0}
IsRefused form _ bytes = ⊥
