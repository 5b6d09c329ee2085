-- The whole input.
use Rattle.std.specs.Prelude.{ℕ, ◌+◌, ◌-◌, Bool, ◌==◌, if◌then◌else◌, List, [], ◌∷◌, ◌++◌, length, take, slice_index, Ok, Err}
use Rattle.std.specs.List.{slice_split}
use Rattle.format_lines.specs.Line.{Input, says}

abbrev pub is_line_feed : ℕ → Bool
is_line_feed b = b == 10

-- a line without a carriage return at its end
abbrev pub without_return : List ℕ → List ℕ
without_return line =
    let front = length line - 1 in if slice_index line front == 13 then take front line else line

-- The lines that these pieces are: a line feed stands behind each but the last, which is no line where it is
-- empty.
abbrev pub ended : List (List ℕ) → List (List ℕ)
ended [] = []
ended (last ∷ []) = if length last == 0 then [] else last ∷ []
ended (line ∷ next ∷ more) = without_return line ∷ ended (next ∷ more)

-- the lines of some bytes
abbrev pub lines_of : List ℕ → List (List ℕ)
lines_of bytes = ended (slice_split is_line_feed bytes)

-- what a front and the rest of an input say together: the first line that lacks its form is told
abbrev pub followed : Input → Input → Input
followed (Ok front) (Ok rest) = Ok (front ++ rest)
followed (Ok front) (Err line) = Err line
followed (Err line) rest = Err line

-- what the lines from this number on say
abbrev pub read_from : ℕ → List (List ℕ) → Input
read_from number [] = Ok []
read_from number (line ∷ more) = followed (says number line) (read_from (number + 1) more)

-- what an input says
unfoldable pub read_input : List ℕ → Input
read_input bytes = read_from 1 (lines_of bytes)
