-- Numbers in decimal digits are the longest tokens at their places.
use Rattle.std.proofs.Common.{◌≡◌, ℕ, suc, ◌+◌, ◌/◌, ◌%◌, ◌<◌, ◌≤◌, ◌^◌, Bool, true, false, cond, ◌==◌, ◌&&◌, ◌||◌, List, [], ◌∷◌, ◌++◌, length, get_or, nat_lt, min, Option, Some, None, refl, ap, ◌∙◌, arith, length-append}
use Rattle.std.proofs.lemmas.Bool.{and_parts}
use Rattle.std.specs.List.{list_all, prefix_len}
use Rattle.std.specs.Char.{is_ascii_digit}
use Rattle.std.specs.Fmt.{decimal}
use Rattle.std.proofs.lemmas.Fmt.{length-decimal-le_wide, decimal_by_steps_wide}
use Rattle.std.proofs.lemmas.Bool.Decides.{nat_tests}
use Rattle.sql_lex.specs.declared.token.Kind.TheVariants as kind
use Rattle.sql_lex.specs.Cut.{is_blank}
use Rattle.sql_lex.specs.Front.{front, number, bytes}
use Rattle.law_workload.proofs.Cut.{Lexeme, cut, token}

-- what stands behind a number
pub data Stop : List ℕ → Type 0 where
  at_end : Stop []
  at_close : (z : List ℕ) → Stop (41 ∷ z)
  at_comma : (z : List ℕ) → Stop (44 ∷ z)

by_stop : (P : List ℕ → Type 0) → P [] → ((z : List ℕ) → P (41 ∷ z)) → ((z : List ℕ) → P (44 ∷ z)) → {rest : List ℕ} → Stop rest → P rest
by_stop P end close comma at_end = end
by_stop P end close comma (at_close z) = close z
by_stop P end close comma (at_comma z) = comma z

abbrev AreDigits : List ℕ → Type 0
AreDigits ds = list_all is_ascii_digit ds ≡ true

run_len : (p : ℕ → Bool) (n rest : List ℕ) → list_all p n ≡ true → prefix_len p rest ≡ 0 → prefix_len p (n ++ rest) ≡ length n
run_len p [] rest all stop = stop
run_len p (x ∷ n) rest all stop =
    let both = and_parts (p x) (list_all p n) all in
    let e : 1 + length n ≡ suc (length n) = omega arith in
    rw both.0 (ap (λ m. 1 + m) (run_len p n rest both.1 stop) ∙ e)

no_digit : {rest : List ℕ} → Stop rest → prefix_len is_ascii_digit rest ≡ 0
no_digit = by_stop (λ r. prefix_len is_ascii_digit r ≡ 0) refl (λ z. refl) (λ z. refl)

no_point : {rest : List ℕ} → Stop rest → (get_or rest 0 0 == 46) ≡ false
no_point = by_stop (λ r. (get_or r 0 0 == 46) ≡ false) refl (λ z. refl) (λ z. refl)

abbrev NoX : List ℕ → Type 0
NoX z = (get_or z 0 0 == 120 || get_or z 0 0 == 88) ≡ false

stop_no_x : {rest : List ℕ} → Stop rest → NoX rest
stop_no_x = by_stop NoX refl (λ z. refl) (λ z. refl)

digit_no_x : (b : ℕ) → is_ascii_digit b ≡ true → (b == 120 || b == 88) ≡ false
digit_no_x b e = grind (arith, nat_tests)

digits_no_x : (ds z : List ℕ) → AreDigits ds → NoX z → NoX (ds ++ z)
digits_no_x [] z all other = other
digits_no_x (d ∷ ds) z all other = digit_no_x d (and_parts (is_ascii_digit d) (list_all is_ascii_digit ds) all).0

and_none : (c : Bool) (x : Option ℕ) → cond (c && false) x None ≡ None
and_none true x = refl
and_none false x = refl

no_bytes : (b : ℕ) (z : List ℕ) → NoX z → bytes (b ∷ z) ≡ None
no_bytes b z other = rw other (and_none (b == 48) _)

digit_zero : (n : ℕ) → 0 < n → (n == 0) ≡ false
digit_zero n h = grind (arith, nat_tests)

at_behind : (n : List ℕ) (rest : List ℕ) → get_or (n ++ rest) (length n) 0 ≡ get_or rest 0 0
at_behind [] rest = refl
at_behind (x ∷ n) rest = at_behind n rest

and_off : (c : Bool) (d : Bool) (x y : Option ℕ) → cond (c && false && d) x y ≡ y
and_off true d x y = refl
and_off false d x y = refl

whole_number : (ds rest : List ℕ) → AreDigits ds → 0 < length ds → length ds ≤ 38 → Stop rest → number (ds ++ rest) ≡ Some (length ds)
whole_number ds rest all some few stop =
    let run = run_len is_ascii_digit ds rest all (no_digit stop) in
    let least : min 38 (length ds) ≡ length ds = omega arith in
    let point : (get_or (ds ++ rest) (length ds) 0 == 46) ≡ false = ap (λ b. b == 46) (at_behind ds rest) ∙ no_point stop in
    rw (run, least, point) (rw (digit_zero (length ds) some) (and_off (nat_lt (length ds) 38) _ _ _))

front_number : (b : ℕ) (z : List ℕ) (n : ℕ) → NoX z → number (b ∷ z) ≡ Some n → front (b ∷ z) ≡ Some (kind.Number, n)
unfolding front
front_number b z n other is = rw (no_bytes b z other, is) refl

abbrev Size : ℕ → Type 0
Size b = (is_blank b ≡ false) × ((b == 45) ≡ false)

digit_size : (b : ℕ) → is_ascii_digit b ≡ true → Size b
digit_size b e = (grind (arith, nat_tests), grind (arith, nat_tests))

digits_token : (ds rest : List ℕ) (ss : List Lexeme) → AreDigits ds → 0 < length ds → length ds ≤ 38 → Stop rest → cut 0 rest ≡ Some ss → cut 0 (ds ++ rest) ≡ Some ((kind.Number, ds) ∷ ss)
digits_token [] rest ss all some few stop more = absurd (omega (arith, some))
digits_token (d ∷ ds) rest ss all some few stop more =
    let parts = and_parts (is_ascii_digit d) (list_all is_ascii_digit ds) all in
    let size = digit_size d parts.0 in
    token kind.Number d ds rest ss size.0 (rw size.1 refl)
    (front_number d (ds ++ rest) (length (d ∷ ds)) (digits_no_x ds rest parts.1 (stop_no_x stop)) (whole_number (d ∷ ds) rest all some few stop)) more

-- ---- decimals

all_append : (a b : List ℕ) → AreDigits a → AreDigits b → AreDigits (a ++ b)
all_append [] b g h = h
all_append (c ∷ cs) b g h =
    let parts = and_parts (is_ascii_digit c) (list_all is_ascii_digit cs) g in
    rw (parts.0, all_append cs b parts.1 h) refl

abbrev Decimal : ℕ → List ℕ → Type 0
Decimal n ds = AreDigits ds × (0 < length ds)

is_digit : (n : ℕ) → n < 10 → is_ascii_digit (48 + n) ≡ true
is_digit n h = grind (arith, nat_tests)

decimal_one : (n : ℕ) → n < 10 → Decimal n ((48 + n) ∷ [])
decimal_one n h = (rw (is_digit n h) refl, omega arith)

decimal_more : (n : ℕ) (ds : List ℕ) → 10 ≤ n → Decimal (n / 10) ds → Decimal n (ds ++ ((48 + n % 10) ∷ []))
decimal_more n ds h p = (
  all_append ds ((48 + n % 10) ∷ []) p.0 (rw (is_digit (n % 10) (omega arith)) refl),
  omega (arith, p.1, length-append ds ((48 + n % 10) ∷ [])),
)

pub decimal_digits : (n : ℕ) → n < 10 ^ 64 → Decimal n (decimal n)
decimal_digits n h = decimal_by_steps_wide Decimal decimal_one decimal_more n h

-- a number of at most 38 digits, and then the tokens of the rest
pub decimal_token : (n : ℕ) (rest : List ℕ) (ss : List Lexeme) → n < 10 ^ 38 → Stop rest → cut 0 rest ≡ Some ss → cut 0 (decimal n ++ rest) ≡ Some ((kind.Number, decimal n) ∷ ss)
decimal_token n rest ss few stop more =
    let d = decimal_digits n (omega arith) in
    digits_token (decimal n) rest ss d.0 d.1 (length-decimal-le_wide 38 n (omega arith) few (omega (arith, few))) stop more
