-- What one line of the input is.
use Rattle.std.specs.Prelude.{ℕ, Bool, true, ◌&&◌, nat_eq, if◌then◌else◌, List, [], ◌∷◌, map, drop, length, codes}
use Rattle.std.specs.List.{starts_with}
use Rattle.std.specs.Str.{is_utf8, bytes_eq}
use Rattle.format_lines.specs.Line.{is_blank, is_skipped, before_blanks, behind_blanks}
use Rattle.format_lines.specs.Lines.{lines_of}
use Rattle.format_sections.specs.declared.kind.LineKind.{LineKind}
use Rattle.format_sections.specs.declared.kind.LineKind.TheVariants as line
use Rattle.format_sections.specs.declared.kind.SectionKind.{SectionKind}
use Rattle.format_sections.specs.declared.kind.SectionKind.TheVariants.{Session, Snapshot}

-- what a line is
pub data Kind : Type 0 where
  -- empty, or a comment
  Skipped : Kind
  -- the line that begins the statements of the setup
  SetupLine : Kind
  -- a line that begins a section, of which kind, and what it has for the name
  SectionLine : SectionKind → List ℕ → Kind
  Statement : List ℕ → Kind
  -- not in UTF-8
  NoText : Kind

-- nothing, or a blank at the front
abbrev pub is_apart : List ℕ → Bool
is_apart [] = true
is_apart (b ∷ rest) = is_blank b

-- a head alone, or with a blank behind it
abbrev pub begins_with : List ℕ → List ℕ → Bool
begins_with head line = starts_with nat_eq line head && is_apart (drop (length head) line)

-- what stands behind the head and its blanks
abbrev pub name_behind : List ℕ → List ℕ → List ℕ
name_behind head line = behind_blanks (drop (length head) line)

-- what a line is that isn't the one of the setup
abbrev pub kind_of_others : List ℕ → Kind
kind_of_others line =
    if begins_with (codes "-- session") line then SectionLine Session (name_behind (codes "-- session") line)
    else if begins_with (codes "-- snapshot") line then SectionLine Snapshot (name_behind (codes "-- snapshot") line)
    else if is_skipped line then Skipped else Statement line

-- what a line without blanks at its ends is
abbrev pub kind_of_text : List ℕ → Kind
kind_of_text line = if bytes_eq line (codes "-- setup") then SetupLine else kind_of_others line

-- what a line is
unfoldable pub kind_of : List ℕ → Kind
kind_of line = if is_utf8 line then kind_of_text (before_blanks (behind_blanks line)) else NoText

-- what the lines of some bytes are
abbrev pub kinds_of : List ℕ → List Kind
kinds_of bytes = map kind_of (lines_of bytes)

-- what was read of a line
abbrev pub kind_view : LineKind → Kind
kind_view line.Skipped = Skipped
kind_view line.Setup = SetupLine
kind_view (line.Section kind name) = SectionLine kind name.now
kind_view (line.Statement text) = Statement text.now
kind_view line.NoText = NoText
