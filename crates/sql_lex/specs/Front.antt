-- How the longest token is found: for each kind the length of the longest token of that kind, or none. A
-- place past
-- the end reads as 0.
use Rattle.std.specs.Prelude.{ℕ, ◌+◌, ◌-◌, ◌%◌, Bool, true, false, ◌&&◌, ◌||◌, if◌then◌else◌, ◌==◌, nat_lt, min, List, [], ◌∷◌, drop, slice_index, Option, Some, None}
use Rattle.std.specs.Char.{is_ascii_digit, is_ascii_hexdigit}
use Rattle.std.specs.List.{prefix_len}
use Rattle.sql_lex.specs.declared.front.Class.{Class}
use Rattle.sql_lex.specs.declared.front.Class.TheVariants as class
use Rattle.sql_lex.specs.declared.token.Kind.{Kind}
use Rattle.sql_lex.specs.declared.token.Kind.TheVariants as kind
use Rattle.sql_lex.specs.IsToken.{begins_word, is_word_byte, is_name_byte, is_single, is_pair}
use Rattle.sql_lex.specs.Longest.{or_else}

-- whether the byte is of the class
abbrev pub is_in : Class → ℕ → Bool
is_in class.WordStart b = begins_word b
is_in class.Word b = is_word_byte b
is_in class.Hex b = is_ascii_hexdigit b
is_in class.Inside b = is_name_byte b

-- the first place from `at` on whose byte is not of the class
abbrev pub past : Class → List ℕ → ℕ → ℕ
past c z at = at + prefix_len (is_in c) (drop at z)

-- the longest number
abbrev pub number : List ℕ → Option ℕ
number z =
    let whole = min 38 (prefix_len is_ascii_digit z) in
    if nat_lt whole 38 && slice_index z whole == 46 && is_ascii_digit (slice_index z (whole + 1))
    then Some (whole + 1 + min (38 - whole) (prefix_len is_ascii_digit (drop (whole + 1) z)))
    else (if whole == 0 then None else Some whole)

-- the longest bytes
abbrev pub bytes : List ℕ → Option ℕ
bytes z =
    if slice_index z 0 == 48 && (slice_index z 1 == 120 || slice_index z 1 == 88)
    then (let hex = past class.Hex z 2 - 2 in Some (2 + hex - hex % 2))
    else None

-- the place behind the last quote that can close the text; the first argument says whether the byte before is
-- such
-- a quote
abbrev pub closing : Bool → Option ℕ → ℕ → List ℕ → Option ℕ
closing is_second best at [] = best
closing true best at (b ∷ z) = if b == 39 then closing false best (at + 1) z else best
closing false best at (b ∷ z) =
    if b == 39 then closing true (Some (at + 1)) (at + 1) z else closing false best (at + 1) z

-- the longest text
abbrev pub text : List ℕ → Option ℕ
text [] = None
text (b ∷ z) =
    if b == 39 then closing false None 1 z
    else (if (b == 78 || b == 110) && slice_index z 0 == 39 then closing false None 2 (drop 1 z) else None)

-- the longest word
abbrev pub word : List ℕ → Option ℕ
word z = if is_in class.WordStart (slice_index z 0) then Some (past class.Word z 0) else None

-- the longest bracketed name
abbrev pub bracketed : List ℕ → Option ℕ
bracketed z =
    if slice_index z 0 == 91
    then (let end = past class.Inside z 1 in
    if nat_lt 1 end && slice_index z end == 93 then Some (end + 1) else None)
    else None

-- the longest sign
abbrev pub sign : List ℕ → Option ℕ
sign z =
    if is_pair (slice_index z 0) (slice_index z 1) then Some 2
    else (if is_single (slice_index z 0) then Some 1 else None)

-- the kind beside the length
abbrev pub with_kind : Kind → Option ℕ → Option (Kind × ℕ)
with_kind k (Some n) = Some (k, n)
with_kind k None = None

-- the longest token at the front
unfoldable pub front : List ℕ → Option (Kind × ℕ)
front z =
    or_else (with_kind kind.Bytes (bytes z))
    (or_else (with_kind kind.Number (number z))
    (or_else (with_kind kind.Text (text z))
    (or_else (with_kind kind.Word (word z))
    (or_else (with_kind kind.Bracketed (bracketed z)) (with_kind kind.Sign (sign z))))))
