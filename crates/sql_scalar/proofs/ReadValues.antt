-- What is read is a literal.
use Rattle.std.proofs.Common.{◌≡◌, ◌<◌, ◌≤◌, ℕ, zero, suc, ◌+◌, ◌-◌, ◌*◌, ◌^◌, Bool, true, false, List, [], ◌∷◌, length, take, drop, sym, refl, subst, arith, rules, Option, Some, None, Ok, Err}
use Rattle.std.specs.Prelude.{ℤ, pos, unsigned_abs, ◌==◌, nat_le, option_map, option_and_then, if◌then◌else◌, Result, position}
use Rattle.std.specs.Result.{result_ok}
use Rattle.std.specs.Char.{is_ascii_digit}
use Rattle.std.proofs.lemmas.Bool.{leb-true}
use Rattle.hex.specs.Hex.{decode_of}
use Rattle.hex.specs.declared.error.FromHexError.{FromHexError}
use Rattle.hex.proofs.HexLemmas.{decode_of-ok}
use Rattle.sql_value.specs.declared.value.Value.{Value}
use Rattle.sql_value.specs.declared.value.Value.TheVariants.{Null, Num, Text, Bytes}
use Rattle.sql_value.specs.Literal.{literal_of, text_or, bytes_or, is_null, signed, number, minus, unsigned, unsigned_at, with_point, without_point, sized, is_point, digits_after, unquoted, after_opening, after_0x}
use Rattle.sql_value.specs.Literals.{IsLiteral}
use Rattle.sql_scalar.proofs.Digits.{one_digit, small_digit, fraction_room}

digit_bound : (c : ℕ) (cs : List ℕ) (m n : ℕ) (t : Bool) → is_ascii_digit c ≡ t
    → (digits_after (m * 10 + (c - 48)) cs ≡ Some n → n + 1 ≤ (m * 10 + (c - 48) + 1) * 10 ^ length cs)
    → digits_after m (c ∷ cs) ≡ Some n → n + 1 ≤ (m + 1) * 10 ^ suc (length cs)
digit_bound c cs m n true h rest is = omega (arith, rest (rw h at is), one_digit m (c - 48) (length cs) (small_digit c h))
digit_bound c cs m n false h rest is = absurd (search (rules, rw h at is))

digits_bound : (ds : List ℕ) (m n : ℕ) → digits_after m ds ≡ Some n → n + 1 ≤ (m + 1) * 10 ^ length ds
digits_bound [] m n is = let same : m ≡ n = search rules in omega (arith, same)
digits_bound (c ∷ cs) m n is = digit_bound c cs m n (is_ascii_digit c) refl (digits_bound cs (m * 10 + (c - 48)) n) is

-- a size of at most 38 digits, with at most 38 of them behind the point
abbrev IsSize : ℕ × ℕ → Type 0
IsSize p = (p.0 < 10 ^ 38) × (p.1 ≤ 38)

second_size : (o : Option ℕ) (j k : ℕ) (p : ℕ × ℕ) → j + k ≤ 38 → ((n : ℕ) → o ≡ Some n → n < 10 ^ 38) → option_map (λ n. (n, k)) o ≡ Some p → IsSize p
second_size None j k p few bound is = absurd (search rules)
second_size (Some n) j k p few bound is =
    let same : (n, k) ≡ p = search rules in
    subst IsSize same (bound n refl, omega arith)

first_size : (o : Option ℕ) (whole fraction : List ℕ) (p : ℕ × ℕ) → length whole + length fraction ≤ 38 → o ≡ digits_after 0 whole
    → option_map (λ n. (n, length fraction)) (option_and_then (λ n. digits_after n fraction) o) ≡ Some p → IsSize p
first_size None whole fraction p few made is = absurd (search rules)
first_size (Some m) whole fraction p few made is =
    let front = digits_bound whole 0 m (sym made) in
    second_size (digits_after m fraction) (length whole) (length fraction) p few
    (λ n read. omega (arith, digits_bound fraction m n read, fraction_room m (length whole) (length fraction) (omega (arith, front)) few)) is

sized_if : (t : Bool) (whole fraction : List ℕ) (p : ℕ × ℕ) → nat_le (length whole + length fraction) 38 ≡ t → sized whole fraction ≡ Some p → IsSize p
unfolding sized
sized_if true whole fraction p h is = first_size (digits_after 0 whole) whole fraction p (leb-true _ _ h) refl (rw h at is)
sized_if false whole fraction p h is = absurd (search (rules, rw h at is))

sized_size : (whole fraction : List ℕ) (p : ℕ × ℕ) → sized whole fraction ≡ Some p → IsSize p
sized_size whole fraction p is = sized_if (nat_le (length whole + length fraction) 38) whole fraction p refl is

with_size : (whole fraction : List ℕ) (p : ℕ × ℕ) → with_point whole fraction ≡ Some p → IsSize p
with_size whole [] p is = absurd (search rules)
with_size whole (f ∷ fs) p is = sized_size whole (f ∷ fs) p is

without_size : (ds : List ℕ) (p : ℕ × ℕ) → without_point ds ≡ Some p → IsSize p
without_size [] p is = absurd (search rules)
without_size (d ∷ ds) p is = sized_size (d ∷ ds) [] p is

at_size : (o : Option ℕ) (text : List ℕ) (p : ℕ × ℕ) → unsigned_at o text ≡ Some p → IsSize p
at_size (Some at) text p is = with_size (take at text) (drop (at + 1) text) p is
at_size None text p is = without_size text p is

unsigned_size : (text : List ℕ) (p : ℕ × ℕ) → unsigned text ≡ Some p → IsSize p
unfolding unsigned
unsigned_size text p is = at_size (position is_point text) text p is

-- a sign keeps the size
abbrev KeepsSize : (ℕ → ℤ) → Type 0
KeepsSize sign = (n : ℕ) → unsigned_abs (sign n) ≡ n

minus_keeps : KeepsSize minus
minus_keeps zero = refl
minus_keeps (suc n) = refl

number_is : (sign : ℕ → ℤ) (o : Option (ℕ × ℕ)) (v : Value) → KeepsSize sign → ((p : ℕ × ℕ) → o ≡ Some p → IsSize p) → number sign o ≡ Some v → IsLiteral v
number_is sign None v keeps size is = absurd (search rules)
number_is sign (Some p) v keeps size is =
    let same : Num p.1 (sign p.0) ≡ v = search rules in
    let bound = size p refl in
    subst IsLiteral same (rw (keeps p.0) bound.0, bound.1)

signed_if : (c : ℕ) (cs : List ℕ) (v : Value) (s t : Bool) → (if s then number minus (unsigned cs) else (if t then number pos (unsigned cs) else number pos (unsigned (c ∷ cs)))) ≡ Some v → IsLiteral v
signed_if c cs v true t is = number_is minus (unsigned cs) v minus_keeps (unsigned_size cs) is
signed_if c cs v false true is = number_is pos (unsigned cs) v (λ n. refl) (unsigned_size cs) is
signed_if c cs v false false is = number_is pos (unsigned (c ∷ cs)) v (λ n. refl) (unsigned_size (c ∷ cs)) is

signed_is : (text : List ℕ) (v : Value) → signed text ≡ Some v → IsLiteral v
unfolding signed
signed_is [] v is = absurd (search rules)
signed_is (c ∷ cs) v is = signed_if c cs v (c == 45) (c == 43) is

other_is : (t : Bool) (text : List ℕ) (v : Value) → (if t then Some Null else signed text) ≡ Some v → IsLiteral v
other_is true text v is = let same : Null ≡ v = search rules in subst IsLiteral same tt
other_is false text v is = signed_is text v is

hex_is : (digits : List ℕ) (r : Result (List ℕ) FromHexError) (v : Value) → r ≡ decode_of digits → option_map Bytes (result_ok r) ≡ Some v → IsLiteral v
hex_is digits (Ok b) v made is = let same : Bytes b ≡ v = search rules in subst IsLiteral same (decode_of-ok digits b (sym made)).3
hex_is digits (Err e) v made is = absurd (search rules)

bytes_is : (o : Option (List ℕ)) (text : List ℕ) (v : Value) → bytes_or o text ≡ Some v → IsLiteral v
bytes_is (Some digits) text v is = hex_is digits (decode_of digits) v refl is
bytes_is None text v is = other_is (is_null text) text v is

quoted_is : (o : Option (List ℕ)) (v : Value) → option_map Text o ≡ Some v → IsLiteral v
quoted_is (Some t) v is = let same : Text t ≡ v = search rules in subst IsLiteral same tt
quoted_is None v is = absurd (search rules)

text_is : (o : Option (List ℕ)) (text : List ℕ) (v : Value) → text_or o text ≡ Some v → IsLiteral v
text_is (Some quoted) text v is = quoted_is (unquoted quoted) v is
text_is None text v is = bytes_is (after_0x text) text v is

pub read_is_literal : (text : List ℕ) (v : Value) → literal_of text ≡ Some v → IsLiteral v
unfolding literal_of
read_is_literal text v is = text_is (after_opening text) text v is
