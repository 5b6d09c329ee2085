-- What is a token of each kind, said of the token's own bytes.
use Rattle.std.specs.Prelude.{ℕ, ◌+◌, ◌%◌, Bool, true, false, not, ◌&&◌, ◌||◌, ◌==◌, nat_le, nat_lt, if◌then◌else◌, List, [], ◌∷◌, length, drop, Option, Some, None}
use Rattle.std.specs.Char.{is_ascii_digit, is_ascii_hexdigit, is_ascii_alphabetic, is_ascii_alphanumeric}
use Rattle.std.specs.List.{list_all, prefix_len}
use Rattle.sql_lex.specs.declared.token.Kind.{Kind}
use Rattle.sql_lex.specs.declared.token.Kind.TheVariants as kind

-- a letter or '_'
abbrev pub begins_word : ℕ → Bool
begins_word b = is_ascii_alphabetic b || b == 95

-- a letter, a digit or '_'
abbrev pub is_word_byte : ℕ → Bool
is_word_byte b = is_ascii_alphanumeric b || b == 95

-- a letter or '_', then letters, digits and '_'
abbrev pub is_word : List ℕ → Bool
is_word [] = false
is_word (b ∷ z) = begins_word b && list_all is_word_byte z

-- from space to '~' without '[' and ']'
abbrev pub is_name_byte : ℕ → Bool
is_name_byte b = nat_le 32 b && nat_le b 126 && not (b == 91) && not (b == 93)

-- some such bytes, then ']'
abbrev pub is_closed : List ℕ → Bool
is_closed [] = false
is_closed (b ∷ []) = b == 93
is_closed (b ∷ c ∷ z) = is_name_byte b && is_closed (c ∷ z)

-- '[', one or more such bytes, ']'
abbrev pub is_bracketed : List ℕ → Bool
is_bracketed [] = false
is_bracketed (b ∷ z) = b == 91 && nat_lt 1 (length z) && is_closed z

-- behind so many digits: nothing, or '.' and one or more digits, where all are at most 38
abbrev pub is_fraction : ℕ → List ℕ → Bool
is_fraction whole [] = nat_lt 0 whole && nat_le whole 38
is_fraction whole (b ∷ z) =
    b == 46 && nat_lt 0 (length z) && list_all is_ascii_digit z && nat_le (whole + length z) 38

-- digits, digits '.' digits, or '.' digits, at most 38 in all
abbrev pub is_number : List ℕ → Bool
is_number z = let whole = prefix_len is_ascii_digit z in is_fraction whole (drop whole z)

-- the rest of a text after its first quote: each quote in it is doubled, but for the one at its end
abbrev pub is_inside : Bool → List ℕ → Bool
is_inside is_second [] = is_second
is_inside false (b ∷ z) = if b == 39 then is_inside true z else is_inside false z
is_inside true (b ∷ z) = b == 39 && is_inside false z

-- a quote and the rest of a text
abbrev pub is_quoted : List ℕ → Bool
is_quoted [] = false
is_quoted (b ∷ z) = b == 39 && is_inside false z

-- a quoted text, or 'N' or 'n' and one
abbrev pub is_text : List ℕ → Bool
is_text [] = false
is_text (b ∷ z) = if b == 39 then is_inside false z else (b == 78 || b == 110) && is_quoted z

-- '0', 'x' or 'X', and an even number of hexadecimal digits
abbrev pub is_bytes : List ℕ → Bool
is_bytes [] = false
is_bytes (b ∷ []) = false
is_bytes (b ∷ x ∷ z) = (b == 48 && (x == 120 || x == 88)) && list_all is_ascii_hexdigit z && length z % 2 == 0

-- one of ( ) , ; = < > + - * .
abbrev pub is_single : ℕ → Bool
is_single b =
    b == 40 || b == 41 || b == 44 || b == 59 || b == 61 || b == 60
    || b == 62 || b == 43 || b == 45 || b == 42 || b == 46

-- one of <> <= >= !=
abbrev pub is_pair : ℕ → ℕ → Bool
is_pair b c = (b == 60 && (c == 62 || c == 61)) || ((b == 62 || b == 33) && c == 61)

-- one byte or two
abbrev pub is_sign : List ℕ → Bool
is_sign [] = false
is_sign (b ∷ []) = is_single b
is_sign (b ∷ c ∷ []) = is_pair b c
is_sign (b ∷ c ∷ d ∷ z) = false

-- the kind of which these bytes are a token
unfoldable pub kind_of : List ℕ → Option Kind
kind_of z =
    if is_bytes z then Some kind.Bytes
    else (if is_number z then Some kind.Number
    else (if is_text z then Some kind.Text
    else (if is_word z then Some kind.Word
    else (if is_bracketed z then Some kind.Bracketed
    else (if is_sign z then Some kind.Sign else None)))))
