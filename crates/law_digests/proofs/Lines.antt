-- How many bytes the statements of some lines have.
use Rattle.std.proofs.Common.{◌≡◌, ℕ, ◌+◌, ◌-◌, ◌≤◌, Bool, true, false, cond, List, [], ◌∷◌, ◌++◌, map, length, take, slice_index, Option, Some, None, Ok, Err, refl, sym, subst, arith, length-take, length-drop}
use Rattle.std.specs.Prelude.{◌==◌, ◌&&◌}
use Rattle.std.specs.List.{AllByRecursion, IsDistinct, after_first, list_any, before_first, onto_first, position_or_len, prefix_len, slice_split, suffix_len}
use Rattle.std.specs.Str.{bytes_eq, is_utf8}
use Rattle.std.proofs.lemmas.Slice.Eq.{bytes_eq-Decides}
use Rattle.spec_history.specs.Inputs.{InputLine, sessions_in, texts_of_session}
use Rattle.spec_history.specs.Lists.{Text}
use Rattle.format_lines.specs.Line.{Input, Statement, before_blanks, behind_blanks, is_blank, is_colon, is_session_name, is_skipped, says, says_text, session_and_text, stated}
use Rattle.format_lines.specs.Lines.{ended, followed, is_line_feed, lines_of, read_from, read_input, without_return}
use Rattle.format_lines.specs.Sessions.{sessions_of}
use Rattle.law_digests.specs.Issued.{input_bytes, line_bytes, line_of, sessions_of_lines}

pub line_bytes_both : (a b : List Text) → line_bytes (a ++ b) ≡ line_bytes a + line_bytes b
line_bytes_both [] b = omega arith
line_bytes_both (text ∷ a) b = let rest = line_bytes_both a b in omega (arith, rest)

-- ---- the lines of some bytes

onto_bytes : (b n : ℕ) (pieces : List Text) → line_bytes pieces ≡ n + 1 → line_bytes (onto_first b pieces) ≡ n + 2
onto_bytes b n [] is = absurd (omega (arith, is))
onto_bytes b n (piece ∷ pieces) is = omega (arith, is)

piece_bytes : (b n : ℕ) (pieces : List Text) (cuts : Bool) → line_bytes pieces ≡ n + 1 → line_bytes (cond cuts ([] ∷ pieces) (onto_first b pieces)) ≡ n + 2
piece_bytes b n pieces true is = omega (arith, is)
piece_bytes b n pieces false is = onto_bytes b n pieces is

split_bytes : (cuts : ℕ → Bool) (z : List ℕ) → line_bytes (slice_split cuts z) ≡ length z + 1
split_bytes cuts [] = refl
split_bytes cuts (b ∷ z) = let is = piece_bytes b (length z) (slice_split cuts z) (cuts b) (split_bytes cuts z) in omega (arith, is)

returned : (line : List ℕ) (n : ℕ) (has : Bool) → length (cond has (take n line) line) ≤ length line
returned line n true = omega (arith, length-take n line)
returned line n false = omega arith

return_bytes : (line : List ℕ) → length (without_return line) ≤ length line
return_bytes line = returned line (length line - 1) (slice_index line (length line - 1) == 13)

last_bytes : (last : List ℕ) (empty : Bool) → line_bytes (cond empty [] (last ∷ [])) ≤ line_bytes (last ∷ [])
last_bytes last true = omega arith
last_bytes last false = omega arith

ended_bytes : (pieces : List Text) → line_bytes (ended pieces) ≤ line_bytes pieces
ended_bytes [] = omega arith
ended_bytes (last ∷ []) = last_bytes last (length last == 0)
ended_bytes (line ∷ next ∷ more) =
    let rest = ended_bytes (next ∷ more) in
    let front = return_bytes line in
    omega (arith, rest, front)

pub lines_bytes : (bytes : List ℕ) → line_bytes (lines_of bytes) ≤ length bytes + 1
lines_bytes bytes =
    let pieces = ended_bytes (slice_split is_line_feed bytes) in
    let all = split_bytes is_line_feed bytes in
    omega (arith, pieces, all)

-- ---- what a line says

pub behind_bytes : (z : List ℕ) → length (behind_blanks z) ≤ length z
behind_bytes z = omega (arith, length-drop (prefix_len is_blank z) z)

pub before_bytes : (z : List ℕ) → length (before_blanks z) ≤ length z
before_bytes z = omega (arith, length-take (length z - suffix_len is_blank z) z)

abbrev texts : List Statement → List Text
texts statements = map (λ s. s.text) statements

-- the statements have no more bytes than so many
abbrev Few : ℕ → Input → Type 0
Few n (Ok statements) = line_bytes (texts statements) ≤ n
Few n (Err line) = Unit {0}

few_more : (m n : ℕ) (said : Input) → m ≤ n → Few m said → Few n said
few_more m n (Ok statements) le few = omega (arith, le, few)
few_more m n (Err line) le few = tt

few_if : (n : ℕ) (t : Bool) (a b : Input) → Few n a → Few n b → Few n (cond t a b)
few_if n true a b f g = f
few_if n false a b f g = g

abbrev IsShort : ℕ → Option (List ℕ × List ℕ) → Type 0
IsShort n None = Unit {0}
IsShort n (Some p) = length p.1 ≤ n

few_stated : (number n : ℕ) (o : Option (List ℕ × List ℕ)) → IsShort n o → Few (n + 1) (stated number o)
few_stated number n None short = tt
few_stated number n (Some p) short = omega (arith, short)

short_if : (n : ℕ) (t : Bool) (p : List ℕ × List ℕ) → length p.1 ≤ n → IsShort n (cond t (Some p) None)
short_if n true p le = le
short_if n false p le = tt

text_short : (line : List ℕ) → IsShort (length line) (session_and_text line)
text_short line =
    let behind = behind_bytes (after_first is_colon line) in
    let after = length-drop (position_or_len is_colon line + 1) line in
    short_if (length line) (list_any is_colon line && is_session_name (before_first is_colon line)) _ (omega (arith, behind, after))

text_few : (number : ℕ) (line : List ℕ) → Few (length line + 1) (says_text number line)
text_few number line = few_if (length line + 1) (is_skipped line) (Ok []) _ (omega arith) (few_stated number (length line) (session_and_text line) (text_short line))

line_few : (number : ℕ) (line : List ℕ) → Few (length line + 1) (says number line)
unfolding says
line_few number line =
    let inner = before_blanks (behind_blanks line) in
    let before = before_bytes (behind_blanks line) in
    let behind = behind_bytes line in
    few_if (length line + 1) (is_utf8 line) (says_text number inner) (Err number)
    (few_more (length inner + 1) (length line + 1) (says_text number inner) (omega (arith, before, behind)) (text_few number inner)) tt

texts_both : (a b : List Statement) → line_bytes (texts (a ++ b)) ≡ line_bytes (texts a) + line_bytes (texts b)
texts_both [] b = omega arith
texts_both (s ∷ a) b = let rest = texts_both a b in omega (arith, rest)

few_followed : (m n : ℕ) (a b : Input) → Few m a → Few n b → Few (m + n) (followed a b)
few_followed m n (Ok front) (Ok rest) f g = omega (arith, f, g, texts_both front rest)
few_followed m n (Ok front) (Err line) f g = tt
few_followed m n (Err line) b f g = tt

lines_few : (number : ℕ) (lines : List Text) → Few (line_bytes lines) (read_from number lines)
lines_few number [] = omega arith
lines_few number (line ∷ lines) = few_followed (length line + 1) (line_bytes lines) (says number line) (read_from (number + 1) lines) (line_few number line) (lines_few (number + 1) lines)

input_few : (bytes : List ℕ) → Few (length bytes + 1) (read_input bytes)
unfolding read_input
input_few bytes = few_more (line_bytes (lines_of bytes)) (length bytes + 1) (read_from 1 (lines_of bytes)) (lines_bytes bytes) (lines_few 1 (lines_of bytes))

-- ---- by sessions

abbrev line_texts : List InputLine → List Text
line_texts lines = map (λ l. l.text) lines

none_bytes : (names : List Text) → input_bytes (sessions_in [] names) ≡ 0
none_bytes [] = refl
none_bytes (name ∷ names) = let rest = none_bytes names in omega (arith, rest)

-- a line of none of these sessions
not_among : (line : InputLine) (lines : List InputLine) (names : List Text) → AllByRecursion (λ name. bytes_eq line.session name ≡ false) names
    → input_bytes (sessions_in (line ∷ lines) names) ≡ input_bytes (sessions_in lines names)
not_among line lines [] others = refl
not_among line lines (name ∷ names) others =
    let rest = not_among line lines names others.1 in
    let its : line_bytes (texts_of_session name (line ∷ lines)) ≡ line_bytes (texts_of_session name lines) = rw others.0 refl in
    omega (arith, rest, its)

one_line : (line : InputLine) (lines : List InputLine) (name : Text) (names : List Text) (t : Bool) → bytes_eq line.session name ≡ t
    → AllByRecursion (λ other. bytes_eq name other ≡ false) names
    → input_bytes (sessions_in (line ∷ lines) names) ≤ length line.text + 1 + input_bytes (sessions_in lines names)
    → line_bytes (cond t (line.text ∷ texts_of_session name lines) (texts_of_session name lines)) + input_bytes (sessions_in (line ∷ lines) names)
    ≤ length line.text + 1 + (line_bytes (texts_of_session name lines) + input_bytes (sessions_in lines names))
one_line line lines name names true e others rest =
    let is : line.session ≡ name = (bytes_eq-Decides line.session name).0 e in
    let none = not_among line lines names (subst (λ (n : Text). AllByRecursion (λ other. bytes_eq n other ≡ false) names) (sym is) others) in
    omega (arith, none)
one_line line lines name names false e others rest = omega (arith, rest)

more_bytes : (line : InputLine) (lines : List InputLine) (names : List Text) → IsDistinct bytes_eq names
    → input_bytes (sessions_in (line ∷ lines) names) ≤ length line.text + 1 + input_bytes (sessions_in lines names)
unfolding IsDistinct
more_bytes line lines [] once = omega arith
more_bytes line lines (name ∷ names) once = one_line line lines name names (bytes_eq line.session name) refl once.0 (more_bytes line lines names once.1)

sessions_bytes : (lines : List InputLine) (names : List Text) → IsDistinct bytes_eq names → input_bytes (sessions_in lines names) ≤ line_bytes (line_texts lines)
sessions_bytes [] names once = let none = none_bytes names in omega (arith, none)
sessions_bytes (line ∷ lines) names once =
    let more = more_bytes line lines names once in
    let rest = sessions_bytes lines names once in
    omega (arith, more, rest)

same_texts : (statements : List Statement) → line_bytes (line_texts (map line_of statements)) ≡ line_bytes (texts statements)
same_texts [] = refl
same_texts (s ∷ statements) = let rest = same_texts statements in omega (arith, rest)

pub input_within : (bytes : List ℕ) (statements : List Statement) → IsDistinct bytes_eq (sessions_of statements) → read_input bytes ≡ Ok statements
    → input_bytes (sessions_of_lines statements) ≤ length bytes + 1
input_within bytes statements once is =
    let few : line_bytes (texts statements) ≤ length bytes + 1 = subst (Few (length bytes + 1)) is (input_few bytes) in
    let all = sessions_bytes (map line_of statements) (sessions_of statements) once in
    let same = same_texts statements in
    omega (arith, few, all, same)
