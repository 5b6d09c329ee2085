-- What one line of the input says.
use Rattle.std.specs.Prelude.{ℕ, ◌-◌, Bool, ◌&&◌, ◌||◌, ◌==◌, nat_eq, if◌then◌else◌, List, [], ◌∷◌, length, take, drop, codes, Option, Some, None, Result, Ok, Err}
use Rattle.std.specs.List.{list_any, prefix_len, suffix_len, starts_with, before_first, after_first}
use Rattle.std.specs.Str.{is_utf8}
pub use Rattle.base_types.specs.SessionName.{is_session_name}
use Rattle.format_lines.specs.declared.line.Line.{Line}

-- a statement of a session, and the line in which it stands
pub record Statement : Type 0 where
  pub number : ℕ
  pub session : List ℕ
  pub text : List ℕ

-- the statements of some lines, or the first of the lines that lacks its form
abbrev pub Input : Type 0
Input = Result (List Statement) ℕ

-- space and tab
abbrev pub is_blank : ℕ → Bool
is_blank b = b == 32 || b == 9

-- some bytes without the blanks before them
abbrev pub behind_blanks : List ℕ → List ℕ
behind_blanks z = drop (prefix_len is_blank z) z

-- some bytes without the blanks after them
abbrev pub before_blanks : List ℕ → List ℕ
before_blanks z = take (length z - suffix_len is_blank z) z

-- an empty line, or a comment
abbrev pub is_skipped : List ℕ → Bool
is_skipped line = length line == 0 || starts_with nat_eq line (codes "--")

-- ':'
abbrev pub is_colon : ℕ → Bool
is_colon b = b == 58

-- what stands before the first colon, where it is a session name, and what stands behind the colon and its
-- blanks
abbrev pub session_and_text : List ℕ → Option (List ℕ × List ℕ)
session_and_text line =
    if list_any is_colon line && is_session_name (before_first is_colon line)
    then Some (before_first is_colon line, behind_blanks (after_first is_colon line)) else None

-- the one statement of the line of this number; the line lacks its form where it has none
abbrev pub stated : ℕ → Option (List ℕ × List ℕ) → Input
stated number (Some p) = Ok (record { number = number; session = p.0; text = p.1 } ∷ [])
stated number None = Err number

-- what a line without blanks at its ends says: no statement where it is skipped
abbrev pub says_text : ℕ → List ℕ → Input
says_text number line = if is_skipped line then Ok [] else stated number (session_and_text line)

-- what the line of this number says; it lacks its form where it is no text
unfoldable pub says : ℕ → List ℕ → Input
says number line = if is_utf8 line then says_text number (before_blanks (behind_blanks line)) else Err number

-- the statement of a line that was read
abbrev pub seen : Line → Statement
seen line = record { number = line.number; session = line.session.now; text = line.text.now }
