-- Printed numbers are the longest tokens at their places.
use Rattle.std.proofs.Common.{◌≡◌, ℕ, suc, ◌+◌, ◌-◌, ◌<◌, ◌≤◌, Bool, true, false, cond, ◌==◌, ◌&&◌, ◌||◌, List, [], ◌∷◌, ◌++◌, length, drop, get_or, nat_lt, min, Option, Some, None, refl, ap, ◌∙◌, sym, arith, append_assoc, length-append}
use Rattle.std.proofs.lemmas.Bool.{and_parts}
use Rattle.std.specs.List.{list_all, prefix_len}
use Rattle.std.specs.Char.{is_ascii_digit}
use Rattle.std.proofs.lemmas.Bool.Decides.{nat_tests}
use Rattle.sql_lex.specs.declared.token.Kind.TheVariants as kind
use Rattle.sql_lex.specs.Cut.{is_blank}
use Rattle.sql_lex.specs.Front.{front, number, bytes}
use Rattle.sql_lex.proofs.Found.{front_is}
use Rattle.spec_syntax.specs.declared.tag.Tag.TheVariants as t
use Rattle.spec_syntax.specs.Tags.{tag_of}
use Rattle.law_printing.proofs.Cut.{cut_token}
use Rattle.law_printing.proofs.Lexed.{Stop, by_stop, One}
use Rattle.law_printing.proofs.Tokens.{run_len}

abbrev pub AreDigits : List ℕ → Type 0
AreDigits ds = list_all is_ascii_digit ds ≡ true

no_digit : {rest : List ℕ} → Stop rest → prefix_len is_ascii_digit rest ≡ 0
no_digit = by_stop (λ r. prefix_len is_ascii_digit r ≡ 0) refl (λ z. refl) (λ z. refl) (λ z. refl)

no_point : {rest : List ℕ} → Stop rest → (get_or rest 0 0 == 46) ≡ false
no_point = by_stop (λ r. (get_or r 0 0 == 46) ≡ false) refl (λ z. refl) (λ z. refl) (λ z. refl)

abbrev NoX : List ℕ → Type 0
NoX z = (get_or z 0 0 == 120 || get_or z 0 0 == 88) ≡ false

stop_no_x : {rest : List ℕ} → Stop rest → NoX rest
stop_no_x = by_stop NoX refl (λ z. refl) (λ z. refl) (λ z. refl)

digit_no_x : (b : ℕ) → is_ascii_digit b ≡ true → (b == 120 || b == 88) ≡ false
digit_no_x b e = grind (arith, nat_tests)

digits_no_x : (ds z : List ℕ) → AreDigits ds → NoX z → NoX (ds ++ z)
digits_no_x [] z all other = other
digits_no_x (d ∷ ds) z all other = digit_no_x d (and_parts (is_ascii_digit d) (list_all is_ascii_digit ds) all).0

and_none : (c : Bool) (x : Option ℕ) → cond (c && false) x None ≡ None
and_none true x = refl
and_none false x = refl

no_bytes : (b : ℕ) (z : List ℕ) → NoX z → bytes (b ∷ z) ≡ None
no_bytes b z other = rw other (and_none (b == 48) _)

digit_zero : (n : ℕ) → 0 < n → (n == 0) ≡ false
digit_zero n h = grind (arith, nat_tests)

at_behind : (n : List ℕ) (rest : List ℕ) → get_or (n ++ rest) (length n) 0 ≡ get_or rest 0 0
at_behind [] rest = refl
at_behind (x ∷ n) rest = at_behind n rest

at_behind_more : (n : List ℕ) (b : ℕ) (rest : List ℕ) → get_or (n ++ b ∷ rest) (suc (length n)) 0 ≡ get_or rest 0 0
at_behind_more [] b rest = refl
at_behind_more (x ∷ n) b rest = at_behind_more n b rest

drop_behind : (n : List ℕ) (b : ℕ) (rest : List ℕ) → drop (suc (length n)) (n ++ b ∷ rest) ≡ rest
drop_behind [] b rest = refl
drop_behind (x ∷ n) b rest = drop_behind n b rest

and_off : (c : Bool) (d : Bool) (x y : Option ℕ) → cond (c && false && d) x y ≡ y
and_off true d x y = refl
and_off false d x y = refl

-- digits alone
whole_number : (ds rest : List ℕ) → AreDigits ds → 0 < length ds → length ds ≤ 38 → Stop rest → number (ds ++ rest) ≡ Some (length ds)
whole_number ds rest all some few stop =
    let run = run_len is_ascii_digit ds rest all (no_digit stop) in
    let least : min 38 (length ds) ≡ length ds = omega arith in
    let point : (get_or (ds ++ rest) (length ds) 0 == 46) ≡ false = ap (λ b. b == 46) (at_behind ds rest) ∙ no_point stop in
    rw (run, least, point) (rw (digit_zero (length ds) some) (and_off (nat_lt (length ds) 38) _ _ _))

-- digits, a point, and digits
point_number : (ws : List ℕ) (f : ℕ) (fs rest : List ℕ) → AreDigits ws → AreDigits (f ∷ fs) → length ws + length (f ∷ fs) ≤ 38 → Stop rest
    → number (ws ++ 46 ∷ f ∷ (fs ++ rest)) ≡ Some (length ws + 1 + length (f ∷ fs))
point_number ws f fs rest whole fraction few stop =
    let run = run_len is_ascii_digit ws (46 ∷ f ∷ (fs ++ rest)) whole refl in
    let least : min 38 (length ws) ≡ length ws = omega (arith, few) in
    let under : nat_lt (length ws) 38 ≡ true = grind (arith, nat_tests, few) in
    let point : get_or (ws ++ 46 ∷ f ∷ (fs ++ rest)) (length ws) 0 ≡ 46 = at_behind ws (46 ∷ f ∷ (fs ++ rest)) in
    let one : length ws + 1 ≡ suc (length ws) = omega arith in
    let next : get_or (ws ++ 46 ∷ f ∷ (fs ++ rest)) (length ws + 1) 0 ≡ f = ap (λ m. get_or (ws ++ 46 ∷ f ∷ (fs ++ rest)) m 0) one ∙ at_behind_more ws 46 (f ∷ (fs ++ rest)) in
    let first : is_ascii_digit f ≡ true = (and_parts (is_ascii_digit f) (list_all is_ascii_digit fs) fraction).0 in
    let tail : drop (length ws + 1) (ws ++ 46 ∷ f ∷ (fs ++ rest)) ≡ f ∷ (fs ++ rest) = ap (λ m. drop m (ws ++ 46 ∷ f ∷ (fs ++ rest))) one ∙ drop_behind ws 46 (f ∷ (fs ++ rest)) in
    let more : prefix_len is_ascii_digit (f ∷ (fs ++ rest)) ≡ length (f ∷ fs) = run_len is_ascii_digit (f ∷ fs) rest fraction (no_digit stop) in
    let most : min (38 - length ws) (length (f ∷ fs)) ≡ length (f ∷ fs) = omega (arith, few) in
    rw (run, least, under, point, next, first) (rw (tail) (ap (λ n. Some (length ws + 1 + min (38 - length ws) n)) more ∙ ap (λ n. Some (length ws + 1 + n)) most))

front_number : (b : ℕ) (z : List ℕ) (n : ℕ) → NoX z → number (b ∷ z) ≡ Some n → front (b ∷ z) ≡ Some (kind.Number, n)
unfolding front
front_number b z n other is = rw (no_bytes b z other, is) refl

abbrev Size : ℕ → Type 0
Size b = (is_blank b ≡ false) × ((b == 45) ≡ false)

digit_size : (b : ℕ) → is_ascii_digit b ≡ true → Size b
digit_size b e = (grind (arith, nat_tests), grind (arith, nat_tests))

-- the digits of a number without a sign, before and behind its point
abbrev pub pointed_text : List ℕ → List ℕ → List ℕ
pointed_text ws [] = ws
pointed_text ws (f ∷ fs) = ws ++ 46 ∷ f ∷ fs

one_from : (b : ℕ) (w : List ℕ) → Size b → ((rest : List ℕ) → Stop rest → front (b ∷ (w ++ rest)) ≡ Some (kind.Number, length (b ∷ w))) → One (t.Number, b ∷ w) ((t.Number, b ∷ w) ∷ [])
unfolding tag_of
one_from b w size found = record {
  lexes = λ rest after. cut_token kind.Number b w rest size.0 (rw size.1 refl) (sym (front_is (b ∷ (w ++ rest))) ∙ found rest after);
  touching = λ h. cc;
}

whole_front : (d : ℕ) (ds rest : List ℕ) → AreDigits (d ∷ ds) → length (d ∷ ds) ≤ 38 → Stop rest → front (d ∷ (ds ++ rest)) ≡ Some (kind.Number, length (d ∷ ds))
whole_front d ds rest all few stop =
    front_number d (ds ++ rest) (length (d ∷ ds)) (digits_no_x ds rest (and_parts (is_ascii_digit d) (list_all is_ascii_digit ds) all).1 (stop_no_x stop))
    (whole_number (d ∷ ds) rest all (omega arith) few stop)

point_front : (d : ℕ) (ws : List ℕ) (f : ℕ) (fs rest : List ℕ) → AreDigits (d ∷ ws) → AreDigits (f ∷ fs) → length (d ∷ ws) + length (f ∷ fs) ≤ 38 → Stop rest
    → front (d ∷ ((ws ++ 46 ∷ f ∷ fs) ++ rest)) ≡ Some (kind.Number, length (d ∷ (ws ++ 46 ∷ f ∷ fs)))
point_front d ws f fs rest whole fraction few stop =
    let flat : (ws ++ 46 ∷ f ∷ fs) ++ rest ≡ ws ++ 46 ∷ f ∷ (fs ++ rest) = append_assoc ws (46 ∷ f ∷ fs) rest in
    let len : length (d ∷ ws) + 1 + length (f ∷ fs) ≡ length (d ∷ (ws ++ 46 ∷ f ∷ fs)) = omega (arith, length-append ws (46 ∷ f ∷ fs)) in
    ap (λ z. front (d ∷ z)) flat
    ∙ front_number d (ws ++ 46 ∷ f ∷ (fs ++ rest)) (length (d ∷ ws) + 1 + length (f ∷ fs))
    (digits_no_x ws (46 ∷ f ∷ (fs ++ rest)) (and_parts (is_ascii_digit d) (list_all is_ascii_digit ws) whole).1 refl)
    (point_number (d ∷ ws) f fs rest whole fraction few stop)
    ∙ ap (λ n. Some (kind.Number, n)) len

bare_front : (f : ℕ) (fs rest : List ℕ) → AreDigits (f ∷ fs) → length (f ∷ fs) ≤ 38 → Stop rest → front (46 ∷ ((f ∷ fs) ++ rest)) ≡ Some (kind.Number, length (46 ∷ f ∷ fs))
bare_front f fs rest fraction few stop =
    front_number 46 (f ∷ (fs ++ rest)) (length (46 ∷ f ∷ fs)) (digit_no_x f (and_parts (is_ascii_digit f) (list_all is_ascii_digit fs) fraction).0)
    (point_number [] f fs rest refl fraction (omega (arith, few)) stop ∙ ap (λ n. Some n) (omega arith))

pub one_number : (ws fs : List ℕ) → AreDigits ws → AreDigits fs → 0 < length ws + length fs → length ws + length fs ≤ 38 → One (t.Number, pointed_text ws fs) ((t.Number, pointed_text ws fs) ∷ [])
one_number [] [] whole fraction some few = absurd (omega (arith, some))
one_number [] (f ∷ fs) whole fraction some few =
    one_from 46 (f ∷ fs) (refl, refl) (λ rest stop. bare_front f fs rest fraction (omega (arith, few)) stop)
one_number (d ∷ ws) [] whole fraction some few =
    one_from d ws (digit_size d (and_parts (is_ascii_digit d) (list_all is_ascii_digit ws) whole).0) (λ rest stop. whole_front d ws rest whole (omega (arith, few)) stop)
one_number (d ∷ ws) (f ∷ fs) whole fraction some few =
    one_from d (ws ++ 46 ∷ f ∷ fs) (digit_size d (and_parts (is_ascii_digit d) (list_all is_ascii_digit ws) whole).0) (λ rest stop. point_front d ws f fs rest whole fraction few stop)
