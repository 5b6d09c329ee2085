-- What is read at the front of some lines.
use Rattle.std.specs.Prelude.{ℕ, ◌&&◌, not, if◌then◌else◌, List, [], ◌∷◌, Option, Some, None}
use Rattle.std.specs.Borrow.{Bor}
use Rattle.std.specs.BTreeSet.{BTreeSet}
use Rattle.format_sections.specs.declared.kind.SectionKind.{SectionKind}
use Rattle.format_sections.specs.Form.{is_session_name}
use Rattle.format_sections.specs.Kind.{Kind, Skipped, SetupLine, SectionLine, Statement}
use Rattle.format_sections.specs.Names.{has}
use Rattle.format_sections.specs.RunSections.{statements_of}

-- the lines behind those that are skipped
abbrev pub behind_skipped : List Kind → List Kind
behind_skipped [] = []
behind_skipped (Skipped ∷ more) = behind_skipped more
behind_skipped (line ∷ more) = line ∷ more

-- the lines behind those of a section's own
abbrev pub behind_section : List Kind → List Kind
behind_section [] = []
behind_section (Skipped ∷ more) = behind_section more
behind_section (Statement text ∷ more) = behind_section more
behind_section (line ∷ more) = line ∷ more

-- the lines behind the first
abbrev pub behind_first : List Kind → List Kind
behind_first [] = []
behind_first (line ∷ more) = more

-- the statements of the setup, where the first line begins them
abbrev pub setup_at : List Kind → List (List ℕ)
setup_at (SetupLine ∷ more) = statements_of more
setup_at _ = []

-- the lines behind those of the setup
abbrev pub behind_setup : List Kind → List Kind
behind_setup [] = []
behind_setup (SetupLine ∷ more) = behind_section more
behind_setup (line ∷ more) = line ∷ more

-- the kind and the name of the section that a line begins, where the name is none of these
abbrev pub new_head : BTreeSet (Bor (List ℕ)) → Kind → Option (SectionKind × List ℕ)
new_head names (SectionLine kind name) =
    if is_session_name name && not (has names name) then Some (kind, name) else None
new_head names _ = None

-- those of the section that the first line begins
abbrev pub first_head : BTreeSet (Bor (List ℕ)) → List Kind → Option (SectionKind × List ℕ)
first_head names [] = None
first_head names (line ∷ more) = new_head names line
