-- Printed numbers and literals are the longest tokens at their places.
use Rattle.std.proofs.Common.{◌≡◌, ℕ, zero, suc, ◌+◌, ◌-◌, ◌/◌, ◌%◌, ◌<◌, ◌≤◌, ◌^◌, Bool, true, false, cond, ◌==◌, List, [], ◌∷◌, ◌++◌, length, take, drop, replicate, get_or, Option, Some, None, refl, ap, ◌∙◌, sym, subst, arith, append_assoc, append-nil, length-append, inl, inr}
use Rattle.std.specs.Prelude.{pos, negsuc}
use Rattle.std.specs.List.{list_all}
use Rattle.std.specs.Char.{is_ascii_digit}
use Rattle.std.specs.Fmt.{decimal}
use Rattle.std.proofs.lemmas.Fmt.{length-decimal-le_wide, decimal_by_steps_wide}
use Rattle.std.proofs.lemmas.List.{take-append-drop, length-replicate}
use Rattle.std.proofs.lemmas.Bool.{and_parts, cases_eq, cases_lt, lt-ltb, le-ltb}
use Rattle.std.proofs.lemmas.Bool.Decides.{nat_tests}
use Rattle.sql_value.specs.declared.value.Value.{Value}
use Rattle.sql_value.specs.declared.value.Value.TheVariants.{Null, Num, Text, Bytes, Date}
use Rattle.sql_value.specs.Literals.{IsLiteral}
use Rattle.sql_value.specs.Printed.{literal_text, pointed, behind_point}
use Rattle.sql_lex.specs.declared.token.Kind.TheVariants as kind
use Rattle.sql_lex.proofs.Found.{front_is}
use Rattle.sql_lex.specs.Front.{front}
use Rattle.spec_syntax.specs.declared.tag.Tag.TheVariants as t
use Rattle.spec_syntax.specs.Tags.{tag_of}
use Rattle.spec_syntax.specs.Input.{Sym}
use Rattle.spec_syntax.specs.Printed.{key, spelling, digits, literal_sym}
use Rattle.spec_syntax.specs.Parsed.{IsUnsigned, IsSize}
use Rattle.law_printing.proofs.Cut.{cut, cut_token, prepend}
use Rattle.law_printing.proofs.Lexed.{One}
use Rattle.law_printing.proofs.Tokens.{null_}
use Rattle.law_printing.proofs.Numbers.{AreDigits, pointed_text, one_number}
use Rattle.law_printing.proofs.Quoted.{one_text, one_bytes}

all_append : (a b : List ℕ) → AreDigits a → AreDigits b → AreDigits (a ++ b)
all_append [] b g h = h
all_append (c ∷ cs) b g h =
    let parts = and_parts (is_ascii_digit c) (list_all is_ascii_digit cs) g in
    rw (parts.0, all_append cs b parts.1 h) refl

all_front : (a b : List ℕ) → AreDigits (a ++ b) → AreDigits a
all_front [] b h = refl
all_front (c ∷ cs) b h =
    let parts = and_parts (is_ascii_digit c) (list_all is_ascii_digit (cs ++ b)) h in
    rw (parts.0, all_front cs b parts.1) refl

all_back : (a b : List ℕ) → AreDigits (a ++ b) → AreDigits b
all_back [] b h = h
all_back (c ∷ cs) b h = all_back cs b (and_parts (is_ascii_digit c) (list_all is_ascii_digit (cs ++ b)) h).1

zeros : (k : ℕ) → AreDigits (replicate k 48)
zeros zero = refl
zeros (suc k) = zeros k

-- ---- decimals

abbrev Decimal : ℕ → List ℕ → Type 0
Decimal n ds = AreDigits ds × (0 < length ds)

is_digit : (n : ℕ) → n < 10 → is_ascii_digit (48 + n) ≡ true
is_digit n h = grind (arith, nat_tests)

decimal_one : (n : ℕ) → n < 10 → Decimal n ((48 + n) ∷ [])
decimal_one n h = (rw (is_digit n h) refl, omega arith)

decimal_more : (n : ℕ) (ds : List ℕ) → 10 ≤ n → Decimal (n / 10) ds → Decimal n (ds ++ ((48 + n % 10) ∷ []))
decimal_more n ds h p =
    let last : n % 10 < 10 = omega arith in
    (all_append ds ((48 + n % 10) ∷ []) p.0 (rw (is_digit (n % 10) last) refl), omega (arith, length-append ds ((48 + n % 10) ∷ []), p.1))

decimal_is : (n : ℕ) → n < 10 ^ 64 → Decimal n (decimal n)
decimal_is n h = decimal_by_steps_wide Decimal decimal_one decimal_more n h

pub one_digits : (n : ℕ) → IsSize n → One (digits n) (digits n ∷ [])
one_digits n small =
    let is = decimal_is n (omega (arith, small)) in
    let few : length (decimal n) ≤ 9 = length-decimal-le_wide 9 n (omega arith) small (omega (arith, small)) in
    one_number (decimal n) [] is.0 refl (omega (arith, is.1)) (omega (arith, few))

-- ---- numbers

abbrev OneNumber : List ℕ → Type 0
OneNumber w = One (t.Number, w) ((t.Number, w) ∷ [])

behind : (ws fs : List ℕ) → pointed_text ws fs ≡ ws ++ behind_point fs
behind ws [] = sym (append-nil ws)
behind ws (f ∷ fs) = refl

behind_some : (ws fs : List ℕ) → 0 < length fs → pointed_text ws fs ≡ ws ++ 46 ∷ fs
behind_some ws [] some = absurd (omega (arith, some))
behind_some ws (f ∷ fs) some = refl

with_whole : (ds : List ℕ) (s : ℕ) → AreDigits ds → s < length ds → length ds ≤ 38 → OneNumber (take (length ds - s) ds ++ behind_point (drop (length ds - s) ds))
with_whole ds s all inside few =
    let at = length ds - s in
    let whole : AreDigits (take at ds ++ drop at ds) = rw (take-append-drop at ds) all in
    let len : length (take at ds) + length (drop at ds) ≡ length ds = sym (length-append (take at ds) (drop at ds)) ∙ ap length (take-append-drop at ds) in
    subst OneNumber (behind (take at ds) (drop at ds))
    (one_number (take at ds) (drop at ds) (all_front (take at ds) (drop at ds) whole) (all_back (take at ds) (drop at ds) whole) (omega (arith, len, inside)) (omega (arith, len, few)))

with_zeros : (first ds : List ℕ) (s : ℕ) → AreDigits first → AreDigits ds → 0 < length ds → length ds ≤ s → length first + s ≤ 38 → OneNumber (first ++ 46 ∷ (replicate (s - length ds) 48 ++ ds))
with_zeros first ds s none all some outside few =
    let fs = replicate (s - length ds) 48 ++ ds in
    let len : length fs ≡ s = length-append (replicate (s - length ds) 48) ds ∙ omega (arith, length-replicate {A = ℕ} (s - length ds) 48, outside) in
    subst OneNumber (behind_some first fs (omega (arith, len, some, outside)))
    (one_number first fs none (all_append (replicate (s - length ds) 48) ds (zeros (s - length ds)) all) (omega (arith, len, some, outside)) (omega (arith, len, few)))

pointed_is : (first ds : List ℕ) (s : ℕ) → AreDigits first → AreDigits ds → 0 < length ds → length ds ≤ 38 → length first + s ≤ 38 → OneNumber (pointed first ds s)
unfolding pointed
pointed_is first ds s none all some few room = elim (cases_lt s (length ds)) [
  | inl inside ↦ rw (lt-ltb s (length ds) inside) (with_whole ds s all inside few)
  | inr outside ↦ rw (le-ltb s (length ds) outside) (with_zeros first ds s none all some outside room)
]

not_38 : (s : ℕ) → (s ≡ 38 → ⊥) → (s == 38) ≡ false
not_38 s h = grind (arith, nat_tests)

abbrev first_of : ℕ → List ℕ
first_of s = cond (s == 38) [] (48 ∷ [])

room : (s : ℕ) → s ≤ 38 → length (first_of s) + s ≤ 38
room s few = elim (cases_eq s 38) [
  | inl most ↦ rw most (omega arith)
  | inr less ↦ rw (not_38 s less) (omega (arith, few, less))
]

first_digits : (c : Bool) → AreDigits (cond c [] (48 ∷ []))
first_digits true = refl
first_digits false = refl

size_is : (n s : ℕ) → n < 10 ^ 38 → s ≤ 38 → OneNumber (pointed (first_of s) (decimal n) s)
size_is n s small few =
    let is = decimal_is n (omega (arith, small)) in
    pointed_is (first_of s) (decimal n) s (first_digits (s == 38)) is.0 is.1 (length-decimal-le_wide 38 n (omega arith) small (omega (arith, small))) (room s few)

-- ---- literals

null_is : One (literal_sym Null) (literal_sym Null ∷ [])
unfolding literal_text spelling
null_is = null_

pub one_literal : (v : Value) → IsLiteral v → IsUnsigned v → One (literal_sym v) (literal_sym v ∷ [])
unfolding literal_text
one_literal Null is positive = null_is
one_literal (Num s (pos n)) is positive = size_is n s is.0 is.1
one_literal (Num s (negsuc n)) is positive = absurd positive
one_literal (Text x) is positive = one_text x
one_literal (Bytes b) is positive = one_bytes b is
one_literal (Date d) is positive = absurd is

-- ---- numbers with a sign

digit_no_minus : (b : ℕ) → is_ascii_digit b ≡ true → (b == 45) ≡ false
digit_no_minus b e = grind (arith, nat_tests)

front_no_minus : (n : ℕ) (ds z : List ℕ) → AreDigits ds → 0 < length ds → 0 < n → (get_or (take n ds ++ z) 0 0 == 45) ≡ false
front_no_minus n [] z all some more = absurd (omega (arith, some))
front_no_minus zero (d ∷ ds) z all some more = absurd (omega (arith, more))
front_no_minus (suc n) (d ∷ ds) z all some more = digit_no_minus d (and_parts (is_ascii_digit d) (list_all is_ascii_digit ds) all).0

zeros_no_minus : (first z : List ℕ) → AreDigits first → (get_or (first ++ 46 ∷ z) 0 0 == 45) ≡ false
zeros_no_minus [] z all = refl
zeros_no_minus (d ∷ ds) z all = digit_no_minus d (and_parts (is_ascii_digit d) (list_all is_ascii_digit ds) all).0

no_minus_first : (first ds : List ℕ) (s : ℕ) (z : List ℕ) → AreDigits first → AreDigits ds → 0 < length ds → (get_or (pointed first ds s ++ z) 0 0 == 45) ≡ false
unfolding pointed
no_minus_first first ds s z none all some = elim (cases_lt s (length ds)) [
  | inl inside ↦ rw (lt-ltb s (length ds) inside) (rw (append_assoc (take (length ds - s) ds) (behind_point (drop (length ds - s) ds)) z)
      (front_no_minus (length ds - s) ds (behind_point (drop (length ds - s) ds) ++ z) all some (omega (arith, inside))))
  | inr outside ↦ rw (le-ltb s (length ds) outside) (rw (append_assoc first (46 ∷ (replicate (s - length ds) 48 ++ ds)) z) (zeros_no_minus first ((replicate (s - length ds) 48 ++ ds) ++ z) none))
]

prepend_two : (a b : Sym) (o : Option (List Sym)) → prepend (a ∷ []) (prepend (b ∷ []) o) ≡ prepend (a ∷ b ∷ []) o
prepend_two a b None = refl
prepend_two a b (Some ss) = refl

minus_then : (w : List ℕ) (b : Sym) (rest : List ℕ) → (get_or (w ++ rest) 0 0 == 45) ≡ false → cut 0 (w ++ rest) ≡ prepend (b ∷ []) (cut 0 rest) → cut 0 (45 ∷ (w ++ rest)) ≡ prepend (key t.Minus ∷ b ∷ []) (cut 0 rest)
unfolding front tag_of spelling
minus_then w b rest other read =
    cut_token kind.Sign 45 [] (w ++ rest) refl (rw other refl) (sym (front_is (45 ∷ (w ++ rest)))) ∙ ap (prepend (key t.Minus ∷ [])) read ∙ prepend_two (key t.Minus) b (cut 0 rest)

pub one_negative : (n s : ℕ) → IsLiteral (Num s (negsuc n)) → One (literal_sym (Num s (negsuc n))) (key t.Minus ∷ literal_sym (Num s (pos (suc n))) ∷ [])
unfolding literal_text
one_negative n s is =
    let d = decimal_is (suc n) (omega (arith, is.0)) in
    let k = size_is (suc n) s is.0 is.1 in
    record {
      lexes = λ rest after. minus_then (pointed (first_of s) (decimal (suc n)) s) (literal_sym (Num s (pos (suc n)))) rest (no_minus_first (first_of s) (decimal (suc n)) s rest (first_digits (s == 38)) d.0 d.1) (k.lexes rest after);
      touching = λ h. cc;
    }
