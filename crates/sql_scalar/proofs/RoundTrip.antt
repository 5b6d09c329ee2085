-- What is written of a value is read as the value.
use Rattle.std.proofs.Common.{◌≡◌, ◌∙◌, ◌<◌, ◌≤◌, ℕ, zero, suc, ◌+◌, ◌-◌, ◌%◌, ◌^◌, Bool, true, false, List, [], ◌∷◌, ◌++◌, length, take, drop, replicate, ap, sym, refl, subst, arith, rules, Some, None, inl, inr, append_assoc, append-nil, length-append}
use Rattle.std.specs.Prelude.{ℤ, pos, negsuc, ◌==◌, ◌&&◌, ◌||◌, unsigned_abs, option_map, codes, ⊤}
use Rattle.std.specs.List.{list_all}
use Rattle.std.specs.Char.{is_ascii_digit, to_ascii_lowercase}
use Rattle.std.specs.Fmt.{decimal}
use Rattle.std.proofs.lemmas.Fmt.{length-decimal-le_wide, decimal_by_steps_wide}
use Rattle.std.proofs.lemmas.List.{take-append-drop}
use Rattle.std.proofs.lemmas.Bool.{eqb-true, cases_eq, and_parts, cases_lt, lt-ltb, le-ltb, le-leb}
use Rattle.std.proofs.lemmas.Bool.Decides.{nat_tests}
use Rattle.hex.proofs.HexLemmas.{decode_of-encode_upper}
use Rattle.sql_value.specs.declared.value.Value.{Value}
use Rattle.sql_value.specs.declared.value.Value.TheVariants.{Null, Num, Text, Bytes, Date}
use Rattle.sql_value.specs.Literal.{literal_of, signed, unsigned, number, minus, unquoted, unquoted_from, digits_after}
use Rattle.sql_value.specs.Literals.{IsLiteral, HasWholePart}
use Rattle.sql_value.specs.Printed.{printed, printed_with, literal_text, leading_zero, pointed, behind_point, doubled, number_text, day_text}
use Rattle.sql_value.specs.Day.{date_of, date_text, last_day}
use Rattle.sql_scalar.proofs.DayTexts.{date_doubled}
use Rattle.sql_scalar.proofs.DigitTexts.{decimal_read, all_digits, pointed_read}

-- ---- numbers

-- a byte of a number without its sign
abbrev is_size_byte : ℕ → Bool
is_size_byte c = is_ascii_digit c || c == 46

abbrev Sized : List ℕ → Type 0
Sized bs = list_all is_size_byte bs ≡ true

sized_append : (a b : List ℕ) → Sized a → Sized b → Sized (a ++ b)
sized_append [] b g h = h
sized_append (c ∷ cs) b g h =
    let parts = and_parts (is_size_byte c) (list_all is_size_byte cs) g in
    rw (parts.0, sized_append cs b parts.1 h) refl

sized_front : (a b : List ℕ) → Sized (a ++ b) → Sized a
sized_front [] b h = refl
sized_front (c ∷ cs) b h =
    let parts = and_parts (is_size_byte c) (list_all is_size_byte (cs ++ b)) h in
    rw (parts.0, sized_front cs b parts.1) refl

sized_back : (a b : List ℕ) → Sized (a ++ b) → Sized b
sized_back [] b h = h
sized_back (c ∷ cs) b h =
    let parts = and_parts (is_size_byte c) (list_all is_size_byte (cs ++ b)) h in
    sized_back cs b parts.1

digits_sized : (ds : List ℕ) → list_all is_ascii_digit ds ≡ true → Sized ds
digits_sized [] h = refl
digits_sized (c ∷ cs) h =
    let parts = and_parts (is_ascii_digit c) (list_all is_ascii_digit cs) h in
    rw (parts.0, digits_sized cs parts.1) refl

zeros_sized : (k : ℕ) → Sized (replicate k 48)
zeros_sized zero = refl
zeros_sized (suc k) = zeros_sized k

behind_sized : (ds : List ℕ) → Sized ds → Sized (behind_point ds)
behind_sized [] h = refl
behind_sized (d ∷ ds) h = h

pointed_sized : (first ds : List ℕ) (s : ℕ) → Sized first → Sized ds → Sized (pointed first ds s)
unfolding pointed
pointed_sized first ds s g h = elim (cases_lt s (length ds)) [
  | inl inside ↦
      let at = length ds - s in
      let whole : Sized (take at ds ++ drop at ds) = rw (take-append-drop at ds) h in
      rw (lt-ltb s (length ds) inside) (sized_append (take at ds) (behind_point (drop at ds)) (sized_front (take at ds) (drop at ds) whole) (behind_sized (drop at ds) (sized_back (take at ds) (drop at ds) whole)))
  | inr outside ↦
      rw (le-ltb s (length ds) outside) (sized_append first (46 ∷ (replicate (s - length ds) 48 ++ ds)) g (sized_append (replicate (s - length ds) 48) ds (zeros_sized (s - length ds)) h))
]

-- such a byte begins no other literal
abbrev Begins : ℕ → Type 0
Begins c = ((c == 39) ≡ false) × ((c == 78) ≡ false) × ((c == 110) ≡ false) × ((c == 120) ≡ false) × ((c == 88) ≡ false) × ((c == 45) ≡ false) × ((c == 43) ≡ false) × ((to_ascii_lowercase c == 110) ≡ false)

begins : (c : ℕ) → is_size_byte c ≡ true → Begins c
begins c h = (grind (arith, nat_tests), grind (arith, nat_tests), grind (arith, nat_tests), grind (arith, nat_tests), grind (arith, nat_tests), grind (arith, nat_tests), grind (arith, nat_tests), grind (arith, nat_tests))

and_false : (t : Bool) → (t && false) ≡ false
and_false true = refl
and_false false = refl

unsigned_none : unsigned [] ≡ None
unfolding unsigned
unsigned_none = refl

other_first : (c : ℕ) (cs : List ℕ) → Sized (c ∷ cs) → literal_of (c ∷ cs) ≡ signed (c ∷ cs)
unfolding literal_of
other_first c [] h =
    let b = begins c (and_parts (is_size_byte c) true h).0 in
    rw (b.0, b.1, b.2) (rw b.7 refl)
other_first c (d ∷ cs) h =
    let parts = and_parts (is_size_byte c) (list_all is_size_byte (d ∷ cs)) h in
    let b = begins c parts.0 in
    let e = begins d (and_parts (is_size_byte d) (list_all is_size_byte cs) parts.1).0 in
    rw (b.0, b.1, b.2) (rw (e.3, e.4, and_false (c == 48)) (rw b.7 refl))

signed_first : (c : ℕ) (cs : List ℕ) → is_size_byte c ≡ true → signed (c ∷ cs) ≡ number pos (unsigned (c ∷ cs))
unfolding signed
signed_first c cs h = let b = begins c h in rw (b.5, b.6) refl

unsigned_first : (t : List ℕ) (p : ℕ × ℕ) → Sized t → unsigned t ≡ Some p → literal_of t ≡ number pos (Some p)
unsigned_first [] p h is = let none = sym unsigned_none ∙ is in absurd (search rules)
unsigned_first (c ∷ cs) p h is =
    let parts = and_parts (is_size_byte c) (list_all is_size_byte cs) h in
    other_first c cs h ∙ signed_first c cs parts.0 ∙ ap (number pos) is

minus_first : (t : List ℕ) → literal_of (45 ∷ t) ≡ number minus (unsigned t)
unfolding literal_of signed
minus_first [] = refl
minus_first (d ∷ ds) = refl

some_one : (n : ℕ) → n < 10 → 0 < length ((48 + n) ∷ [])
some_one n h = omega arith

some_more : (n : ℕ) (ds : List ℕ) → 10 ≤ n → 0 < length ds → 0 < length (ds ++ ((48 + n % 10) ∷ []))
some_more n ds h p = omega (arith, length-append ds ((48 + n % 10) ∷ []))

decimal_some : (n : ℕ) → n < 10 ^ 64 → 0 < length (decimal n)
decimal_some n h = decimal_by_steps_wide (λ n ds. 0 < length ds) some_one some_more n h

-- the digits of a size, with a point
size_read : (first : List ℕ) (n s : ℕ) → n < 10 ^ 38 → digits_after 0 first ≡ Some 0 → length first + s ≤ 38 → unsigned (pointed first (decimal n) s) ≡ Some (n, s)
size_read first n s small none few =
    let some : 0 < length (decimal n) = decimal_some n (omega (arith, small)) in
    pointed_read first (decimal n) s n none (decimal_read n (omega (arith, small))) some (length-decimal-le_wide 38 n (omega arith) small (omega (arith, small))) few

number_read : (first : List ℕ) (v : ℤ) (s : ℕ) → unsigned_abs v < 10 ^ 38 → digits_after 0 first ≡ Some 0 → length first + s ≤ 38 → literal_of (number_text first v s) ≡ Some (Num s v)
number_read first (pos n) s small none few =
    let read = size_read first n s small none few in
    let bytes = pointed_sized first (decimal n) s (digits_sized first (all_digits first 0 0 none)) (digits_sized (decimal n) (all_digits (decimal n) 0 n (decimal_read n (omega (arith, small))))) in
    unsigned_first (pointed first (decimal n) s) (n, s) bytes read
number_read first (negsuc n) s small none few =
    minus_first (pointed first (decimal (suc n)) s) ∙ ap (number minus) (size_read first (suc n) s small none few)

-- ---- texts

doubled_byte : (c : ℕ) (cs before : List ℕ) (t : Bool) → (c == 39) ≡ t → unquoted_from false (before ++ c ∷ []) (doubled cs ++ 39 ∷ []) ≡ Some (before ++ c ∷ [] ++ cs)
    → unquoted_from false before (doubled (c ∷ cs) ++ 39 ∷ []) ≡ Some (before ++ c ∷ cs)
doubled_byte c cs before true h rest =
    let quote = eqb-true c 39 h in
    let P : ℕ → Type 0 = λ x. unquoted_from false (before ++ x ∷ []) (doubled cs ++ 39 ∷ []) ≡ Some (before ++ x ∷ [] ++ cs) in
    let read = subst P quote rest in
    rw h (read ∙ ap Some (append_assoc before (39 ∷ []) cs ∙ ap (λ x. before ++ x ∷ cs) (sym quote)))
doubled_byte c cs before false h rest = rw (h, h) (rest ∙ ap Some (append_assoc before (c ∷ []) cs))

doubled_read : (t before : List ℕ) → unquoted_from false before (doubled t ++ 39 ∷ []) ≡ Some (before ++ t)
doubled_read [] before = ap Some (sym (append-nil before))
doubled_read (c ∷ cs) before = doubled_byte c cs before (c == 39) refl (doubled_read cs (before ++ c ∷ []))

pub text_read : (t : List ℕ) → unquoted (doubled t ++ 39 ∷ []) ≡ Some t
unfolding unquoted
text_read t = doubled_read t []

-- ---- values

null_read : literal_of (codes "NULL") ≡ Some Null
unfolding literal_of
null_read = refl

-- a number's digits leave room for those before its point
abbrev Leaves : List ℕ → Value → Type 0
Leaves first (Num s v) = length first + s ≤ 38
Leaves first _ = ⊤

read_with : (v : Value) (first : List ℕ) → IsLiteral v → digits_after 0 first ≡ Some 0 → Leaves first v → literal_of (printed_with first v) ≡ Some v
unfolding literal_of
read_with Null first is none few = null_read
read_with (Num s v) first is none few = number_read first v s is.0 none few
read_with (Text t) first is none few = ap (option_map Text) (text_read t)
read_with (Bytes b) first is none few = rw (decode_of-encode_upper b is) refl
read_with (Date d) first is none few = absurd is

not_38 : (s : ℕ) → (s ≡ 38 → ⊥) → (s == 38) ≡ false
not_38 s h = grind (arith, nat_tests)

room : (v : Value) → IsLiteral v → Leaves (leading_zero v) v
room Null is = tt
room (Num s v) is = elim (cases_eq s 38) [
  | inl most ↦ rw most (omega arith)
  | inr less ↦ rw (not_38 s less) (omega (arith, is, less))
]
room (Text t) is = tt
room (Bytes b) is = tt
room (Date d) is = tt

first_read : (v : Value) → digits_after 0 (leading_zero v) ≡ Some 0
first_read Null = refl
first_read (Num s v) = elim (cases_eq s 38) [
  | inl most ↦ rw most refl
  | inr less ↦ rw (not_38 s less) refl
]
first_read (Text t) = refl
first_read (Bytes b) = refl
first_read (Date d) = refl

-- a literal's text is read as the value
pub literal_read : (v : Value) → IsLiteral v → literal_of (literal_text v) ≡ Some v
unfolding literal_text
literal_read v is = read_with v (leading_zero v) is (first_read v) (room v is)

whole_room : (v : Value) → IsLiteral v → HasWholePart v → Leaves (48 ∷ []) v
whole_room Null is whole = tt
whole_room (Num s v) is whole = omega (arith, is, whole)
whole_room (Text t) is whole = tt
whole_room (Bytes b) is whole = tt
whole_room (Date d) is whole = tt

-- and so is what is shown
pub shown_read : (v : Value) → IsLiteral v → HasWholePart v → literal_of (printed v) ≡ Some v
unfolding printed
shown_read v is whole = read_with v (48 ∷ []) is refl (whole_room v is whole)

-- a day is shown as a text that is read as its date
pub day_shown : (d : ℕ) → d ≤ last_day → literal_of (printed (Date d)) ≡ Some (Text (date_text (date_of d)))
unfolding printed day_text literal_of
day_shown d h =
    let same = date_doubled (date_of d) in
    rw (le-leb d last_day h) (ap (option_map Text) (ap (λ x. unquoted (x ++ 39 ∷ [])) (sym same) ∙ text_read (date_text (date_of d))))
