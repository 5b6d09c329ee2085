-- The input of `asof`: texts by line.
use Rattle.std.specs.Prelude.{ℕ, ◌+◌, if◌then◌else◌, List, [], ◌∷◌, ◌++◌, Result, Ok, Err}
use Rattle.std.specs.Str.{is_utf8}
use Rattle.format_lines.specs.Line.{before_blanks, behind_blanks, is_skipped}
use Rattle.format_lines.specs.Lines.{lines_of}

-- the texts of some lines, or the first of the lines that is no text
abbrev pub Texts : Type 0
Texts = Result (List (List ℕ)) ℕ

-- what a line without blanks at its ends tells: nothing where it is empty or a comment
abbrev pub told : List ℕ → List (List ℕ)
told line = if is_skipped line then [] else line ∷ []

-- what the line of this number tells, if it is UTF-8
unfoldable pub tells : ℕ → List ℕ → Texts
tells number line = if is_utf8 line then Ok (told (before_blanks (behind_blanks line))) else Err number

-- what a front and the rest of an input tell together: the first line that is no text is told
abbrev pub followed : Texts → Texts → Texts
followed (Ok front) (Ok rest) = Ok (front ++ rest)
followed (Ok front) (Err line) = Err line
followed (Err line) rest = Err line

-- what the lines from this number on tell
abbrev pub told_from : ℕ → List (List ℕ) → Texts
told_from number [] = Ok []
told_from number (line ∷ more) = followed (tells number line) (told_from (number + 1) more)

-- the texts of an input
unfoldable pub texts_of : List ℕ → Texts
texts_of bytes = told_from 1 (lines_of bytes)
