-- Literals: NULL, numbers, texts in quotes, and bytes in hexadecimal digits.
use Rattle.std.specs.Prelude.{ℕ, ℤ, pos, neg_ℤ, ◌+◌, ◌-◌, ◌*◌, ◌==◌, ◌&&◌, ◌||◌, nat_le, Bool, true, false, if◌then◌else◌, List, [], ◌∷◌, ◌++◌, length, take, drop, codes, Option, Some, None, option_map, option_and_then, Result, Ok, Err, position, ⊤, ◌≡◌}
use Rattle.std.specs.Result.{result_ok}
use Rattle.std.specs.Char.{is_ascii_digit}
use Rattle.std.specs.Str.{str_eq_ignore_ascii_case}
use Rattle.hex.specs.Hex.{decode_of}
use Rattle.sql_value.specs.declared.value.Value.{Value}
use Rattle.sql_value.specs.declared.value.Value.TheVariants.{Null, Num, Text, Bytes}
use Rattle.sql_value.specs.declared.refusal.LitErr.{LitErr}
use Rattle.sql_value.specs.declared.refusal.LitErr.TheVariants.{NotLiteral, Memory}

-- ---- texts

-- what a text says, of what stands behind its first quote: two quotes stand for one, and a quote alone ends
-- it.
-- `at_quote` says that the byte before was a quote, and `before` is what was read so far
abbrev pub unquoted_from : Bool → List ℕ → List ℕ → Option (List ℕ)
unquoted_from false before [] = None
unquoted_from true before [] = Some before
unquoted_from false before (c ∷ cs) =
    if c == 39 then unquoted_from true before cs else unquoted_from false (before ++ c ∷ []) cs
unquoted_from true before (c ∷ cs) = if c == 39 then unquoted_from false (before ++ 39 ∷ []) cs else None

unfoldable pub unquoted : List ℕ → Option (List ℕ)
unquoted quoted = unquoted_from false [] quoted

abbrev pub after_quote : List ℕ → Option (List ℕ)
after_quote [] = None
after_quote (c ∷ cs) = if c == 39 then Some cs else None

-- behind an N or n
abbrev pub after_n : List ℕ → Option (List ℕ)
after_n [] = None
after_n (c ∷ cs) = if c == 78 || c == 110 then Some cs else None

abbrev pub or_after_n : Option (List ℕ) → List ℕ → Option (List ℕ)
or_after_n (Some quoted) text = Some quoted
or_after_n None text = option_and_then after_quote (after_n text)

-- behind the quote that begins a text, with or without an N before it
abbrev pub after_opening : List ℕ → Option (List ℕ)
after_opening text = or_after_n (after_quote text) text

-- ---- bytes

-- behind `0x` or `0X`
abbrev pub after_0x : List ℕ → Option (List ℕ)
after_0x (c ∷ d ∷ cs) = if c == 48 && (d == 120 || d == 88) then Some cs else None
after_0x _ = None

-- ---- numbers

-- the number that digits write behind those of n
abbrev pub digits_after : ℕ → List ℕ → Option ℕ
digits_after n [] = Some n
digits_after n (c ∷ cs) = if is_ascii_digit c then digits_after (n * 10 + (c - 48)) cs else None

-- the size and scale that digits before and behind a point write: there are at most 38 of them
unfoldable pub sized : List ℕ → List ℕ → Option (ℕ × ℕ)
sized whole fraction =
    if nat_le (length whole + length fraction) 38
    then option_map (λ n. (n, length fraction))
    (option_and_then (λ n. digits_after n fraction) (digits_after 0 whole))
    else None

abbrev pub is_point : ℕ → Bool
is_point c = c == 46

-- behind a point stands a digit, before it there may be none
abbrev pub with_point : List ℕ → List ℕ → Option (ℕ × ℕ)
with_point whole [] = None
with_point whole (c ∷ cs) = sized whole (c ∷ cs)

abbrev pub without_point : List ℕ → Option (ℕ × ℕ)
without_point [] = None
without_point (c ∷ cs) = sized (c ∷ cs) []

abbrev pub unsigned_at : Option ℕ → List ℕ → Option (ℕ × ℕ)
unsigned_at (Some at) text = with_point (take at text) (drop (at + 1) text)
unsigned_at None text = without_point text

-- `digits`, `digits.digits` or `.digits`
unfoldable pub unsigned : List ℕ → Option (ℕ × ℕ)
unsigned text = unsigned_at (position is_point text) text

abbrev pub number : (ℕ → ℤ) → Option (ℕ × ℕ) → Option Value
number sign n = option_map (λ p. Num p.1 (sign p.0)) n

abbrev pub minus : ℕ → ℤ
minus n = neg_ℤ (pos n)

-- a number with or without a sign
unfoldable pub signed : List ℕ → Option Value
signed [] = None
signed (c ∷ cs) =
    if c == 45 then number minus (unsigned cs)
    else (if c == 43 then number pos (unsigned cs) else number pos (unsigned (c ∷ cs)))

-- ---- literals

abbrev pub is_null : List ℕ → Bool
is_null text = str_eq_ignore_ascii_case text (codes "NULL")

abbrev pub other : List ℕ → Option Value
other text = if is_null text then Some Null else signed text

abbrev pub bytes_or : Option (List ℕ) → List ℕ → Option Value
bytes_or (Some digits) text = option_map Bytes (result_ok (decode_of digits))
bytes_or None text = other text

abbrev pub text_or : Option (List ℕ) → List ℕ → Option Value
text_or (Some quoted) text = option_map Text (unquoted quoted)
text_or None text = bytes_or (after_0x text) text

-- the value that a literal writes, without blanks; none for a text that is no literal
unfoldable pub literal_of : List ℕ → Option Value
literal_of text = text_or (after_opening text) text

-- what is meant is read, or there is no memory for it
abbrev pub ReadsLiteralUnlessOom : {A : Type 0} → Option A → Result A LitErr → Type 0
ReadsLiteralUnlessOom meant (Ok v) = meant ≡ Some v
ReadsLiteralUnlessOom meant (Err NotLiteral) = meant ≡ None
ReadsLiteralUnlessOom meant (Err Memory) = ⊤
