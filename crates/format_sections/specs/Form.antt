-- Which line lacks its form.
use Rattle.std.specs.Prelude.{◌≡◌, ℕ, ◌+◌, Bool, true, false, not, ◌||◌, if◌then◌else◌, List, [], ◌∷◌, ◌++◌, length, codes, Option, Some, None}
use Rattle.std.specs.List.{list_any}
use Rattle.std.specs.Str.{bytes_eq}
pub use Rattle.base_types.specs.SessionName.{is_session_name}
use Rattle.format_sections.specs.Kind.{Kind, Skipped, SetupLine, SectionLine, Statement, NoText}

-- a line that isn't skipped
abbrev pub counts : Kind → Bool
counts Skipped = false
counts _ = true

-- a line that begins a section
abbrev pub begins_section : Kind → Bool
begins_section SetupLine = true
begins_section (SectionLine kind name) = true
begins_section _ = false

-- the names of the sections that some lines begin
abbrev pub names_of : List Kind → List (List ℕ)
names_of [] = []
names_of (SectionLine kind name ∷ more) = name ∷ names_of more
names_of (_ ∷ more) = names_of more

-- whether a name has come in some lines; that of the setup counts as come
abbrev pub has_come : List Kind → List ℕ → Bool
has_come before name = list_any (bytes_eq name) (codes "setup" ∷ names_of before)

-- Whether a line lacks its form behind these lines: the setup's stands before all others that count, a section
-- has a new name, and a statement stands in a section.
abbrev pub lacks_form : List Kind → Kind → Bool
lacks_form before Skipped = false
lacks_form before SetupLine = list_any counts before
lacks_form before (SectionLine kind name) = not (is_session_name name) || has_come before name
lacks_form before (Statement text) = not (list_any begins_section before)
lacks_form before NoText = true

-- the first line that lacks its form, of those behind some, by its number from 1 on over all
abbrev pub first_lacking : List Kind → List Kind → Option ℕ
first_lacking before [] = None
first_lacking before (line ∷ more) =
    if lacks_form before line then Some (length before + 1) else first_lacking (before ++ line ∷ []) more

-- each of the lines has its form behind those before it
abbrev pub HaveForm : List Kind → Type 0
HaveForm lines = (before more : List Kind) (line : Kind) → lines ≡ before ++ line ∷ more → lacks_form before line ≡ false

-- the line of this number, from 1 on, lacks its form, and none before it does
pub record IsFirstLacking (lines : List Kind) (number : ℕ) : Type 0 where
  pub before : List Kind
  pub line : Kind
  pub more : List Kind
  pub whole : lines ≡ before ++ line ∷ more
  pub place : number ≡ length before + 1
  pub lacks : lacks_form before line ≡ true
  pub first : HaveForm before
