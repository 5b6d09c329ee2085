-- What is found is the longest token: where a kind has one, the kinds behind it have none or one of one byte.
use Rattle.std.proofs.Common.{◌≡◌, ℕ, ◌≤◌, ◌==◌, Bool, true, false, cond, ◌&&◌, ◌||◌, List, [], ◌∷◌, get_or, Option, Some, None, refl, sym, subst, arith}
use Rattle.std.proofs.lemmas.Bool.{and_parts}
use Rattle.std.proofs.lemmas.Bool.Decides.{nat_tests}
use Rattle.std.specs.Char.{is_ascii_digit}
use Rattle.sql_lex.specs.declared.token.Kind.{Kind}
use Rattle.sql_lex.specs.declared.token.Kind.TheVariants as kind
use Rattle.sql_lex.specs.IsToken.{kind_of, is_bytes, is_number, is_text, is_word, is_bracketed, is_sign, begins_word, is_single, is_pair}
use Rattle.sql_lex.specs.Longest.{longest, or_else}
use Rattle.sql_lex.specs.Front as f
use Rattle.sql_lex.specs.Front.{front, with_kind}
use Rattle.sql_lex.proofs.Runs.{or_false}
use Rattle.sql_lex.proofs.Best.{Best, Found, Under, AtMost, ask, found_is_longest}
use Rattle.sql_lex.proofs.Bytes.{best_bytes}
use Rattle.sql_lex.proofs.Numbers.{best_number}
use Rattle.sql_lex.proofs.Texts.{best_text}
use Rattle.sql_lex.proofs.Words.{best_word, best_bracketed, best_sign}

abbrev Result : Type 0
Result = Option (Kind × ℕ)

abbrev signs : List ℕ → Result
signs z = with_kind kind.Sign (f.sign z)

abbrev names : List ℕ → Result
names z = or_else (with_kind kind.Bracketed (f.bracketed z)) (signs z)

abbrev words : List ℕ → Result
words z = or_else (with_kind kind.Word (f.word z)) (names z)

abbrev texts : List ℕ → Result
texts z = or_else (with_kind kind.Text (f.text z)) (words z)

abbrev numbers : List ℕ → Result
numbers z = or_else (with_kind kind.Number (f.number z)) (texts z)

at_most_more : (n : ℕ) (p : Result) → 1 ≤ n → AtMost 1 p → AtMost n p
at_most_more n None some h = tt
at_most_more n (Some t) some h = omega (arith, h)

-- the kinds behind one that may begin here
under_when : (is : List ℕ → Bool) (z : List ℕ) (r : Option ℕ) (p : Result) → Best is z r → AtMost 1 p → Under r p
under_when is z None p best h = tt
under_when is z (Some n) p best h = at_most_more n p best.0 h

under_by : (is : List ℕ → Bool) (z : List ℕ) (c : Bool) (r : Option ℕ) (p : Result) → Best is z r → (c ≡ true → AtMost 1 p) → (c ≡ false → r ≡ None) → Under r p
under_by is z true r p best begins not_ = under_when is z r p best (begins refl)
under_by is z false r p best begins not_ = let P : Option ℕ → Type 0 = λ x. Under x p in subst P (sym (not_ refl)) tt

none_at_most : (p : Result) → p ≡ None → AtMost 1 p
none_at_most p e = let P : Result → Type 0 = λ x. AtMost 1 x in subst P (sym e) tt

behind_bracketed : (b : ℕ) (z : List ℕ) → (b == 91) ≡ true → AtMost 1 (signs (b ∷ z))
behind_bracketed b z e =
    let at : 91 ≡ b = grind (arith, nat_tests, e) in
    let P : ℕ → Type 0 = λ x. AtMost 1 (signs (x ∷ z)) in
    subst P at tt

no_pair : (b c : ℕ) → begins_word b ≡ true → is_pair b c ≡ false
no_pair b c e = grind (arith, nat_tests)

no_single : (b : ℕ) → begins_word b ≡ true → is_single b ≡ false
no_single b e = grind (arith, nat_tests)

no_bracket : (b : ℕ) → begins_word b ≡ true → (b == 91) ≡ false
no_bracket b e = grind (arith, nat_tests)

behind_word : (b : ℕ) (z : List ℕ) → begins_word b ≡ true → AtMost 1 (names (b ∷ z))
behind_word b z e =
    let none : names (b ∷ z) ≡ None = rw (no_bracket b e, no_pair b (get_or z 0 0) e, no_single b e) refl in
    none_at_most (names (b ∷ z)) none

abbrev begins_text : ℕ → List ℕ → Bool
begins_text b z = b == 39 || ((b == 78 || b == 110) && get_or z 0 0 == 39)

letter_is : (b : ℕ) (z : List ℕ) (c : Bool) → (b == 78) ≡ c → (b == 78 || b == 110) ≡ true → AtMost 1 (words (b ∷ 39 ∷ z))
letter_is b z true e h =
    let at : 78 ≡ b = grind (arith, nat_tests, e) in
    let P : ℕ → Type 0 = λ x. AtMost 1 (words (x ∷ 39 ∷ z)) in
    subst P at (omega arith)
letter_is b z false e h =
    let other : (b == 110) ≡ true = grind (arith, nat_tests, e, h) in
    let at : 110 ≡ b = grind (arith, nat_tests, other) in
    let P : ℕ → Type 0 = λ x. AtMost 1 (words (x ∷ 39 ∷ z)) in
    subst P at (omega arith)

behind_letter : (b : ℕ) (z : List ℕ) → (b == 78 || b == 110) ≡ true → (get_or z 0 0 == 39) ≡ true → AtMost 1 (words (b ∷ z))
behind_letter b [] e q = cc
behind_letter b (d ∷ z) e q =
    let at : 39 ≡ d = grind (arith, nat_tests, q) in
    let P : ℕ → Type 0 = λ x. AtMost 1 (words (b ∷ x ∷ z)) in
    subst P at (letter_is b z (b == 78) refl e)

behind_text_at : (b : ℕ) (z : List ℕ) (c : Bool) → (b == 39) ≡ c → (c || ((b == 78 || b == 110) && get_or z 0 0 == 39)) ≡ true → AtMost 1 (words (b ∷ z))
behind_text_at b z true e h =
    let at : 39 ≡ b = grind (arith, nat_tests, e) in
    let P : ℕ → Type 0 = λ x. AtMost 1 (words (x ∷ z)) in
    subst P at tt
behind_text_at b z false e h = let both = and_parts (b == 78 || b == 110) (get_or z 0 0 == 39) h in behind_letter b z both.0 both.1

not_text : (b : ℕ) (z : List ℕ) → begins_text b z ≡ false → f.text (b ∷ z) ≡ None
not_text b z e = let both = or_false (b == 39) ((b == 78 || b == 110) && get_or z 0 0 == 39) e in rw (both.0, both.1) refl

digit_no_start : (b : ℕ) → is_ascii_digit b ≡ true → begins_word b ≡ false
digit_no_start b e = grind (arith, nat_tests)

digit_no_pair : (b c : ℕ) → is_ascii_digit b ≡ true → is_pair b c ≡ false
digit_no_pair b c e = grind (arith, nat_tests)

digit_no_single : (b : ℕ) → is_ascii_digit b ≡ true → is_single b ≡ false
digit_no_single b e = grind (arith, nat_tests)

digit_no : (b : ℕ) → is_ascii_digit b ≡ true → ((b == 39) ≡ false) × ((b == 78 || b == 110) ≡ false) × ((b == 91) ≡ false)
digit_no b e = (grind (arith, nat_tests), grind (arith, nat_tests), grind (arith, nat_tests))

behind_number_at : (b : ℕ) (z : List ℕ) (c : Bool) → is_ascii_digit b ≡ c → (c || b == 46) ≡ true → AtMost 1 (texts (b ∷ z))
behind_number_at b z true e h =
    let other = digit_no b e in
    let none : texts (b ∷ z) ≡ None = rw (other.0, other.1, digit_no_start b e, other.2, digit_no_pair b (get_or z 0 0) e, digit_no_single b e) refl in
    none_at_most (texts (b ∷ z)) none
behind_number_at b z false e h =
    let at : 46 ≡ b = grind (arith, nat_tests, h) in
    let P : ℕ → Type 0 = λ x. AtMost 1 (texts (x ∷ z)) in
    subst P at (omega arith)

not_number : (b : ℕ) (z : List ℕ) → (is_ascii_digit b || b == 46) ≡ false → f.number (b ∷ z) ≡ None
not_number b z e = let both = or_false (is_ascii_digit b) (b == 46) e in rw (both.0, both.1) refl

abbrev begins_bytes : ℕ → List ℕ → Bool
begins_bytes b z = b == 48 && (get_or z 0 0 == 120 || get_or z 0 0 == 88)

x_is : (x : ℕ) (z : List ℕ) (c : Bool) → (x == 120) ≡ c → (c || x == 88) ≡ true → AtMost 1 (numbers (48 ∷ x ∷ z))
x_is x z true e h =
    let at : 120 ≡ x = grind (arith, nat_tests, e) in
    let P : ℕ → Type 0 = λ y. AtMost 1 (numbers (48 ∷ y ∷ z)) in
    subst P at (omega arith)
x_is x z false e h =
    let at : 88 ≡ x = grind (arith, nat_tests, h) in
    let P : ℕ → Type 0 = λ y. AtMost 1 (numbers (48 ∷ y ∷ z)) in
    subst P at (omega arith)

behind_bytes : (b : ℕ) (z : List ℕ) → begins_bytes b z ≡ true → AtMost 1 (numbers (b ∷ z))
behind_bytes b [] e = let both = and_parts (b == 48) (0 == 120 || 0 == 88) e in let never : (0 == 120 || 0 == 88) ≡ true = both.1 in cc
behind_bytes b (x ∷ z) e =
    let both = and_parts (b == 48) (x == 120 || x == 88) e in
    let at : 48 ≡ b = grind (arith, nat_tests, both.0) in
    let P : ℕ → Type 0 = λ y. AtMost 1 (numbers (y ∷ x ∷ z)) in
    subst P at (x_is x z (x == 120) refl both.1)

not_bytes : (b : ℕ) (z : List ℕ) → begins_bytes b z ≡ false → f.bytes (b ∷ z) ≡ None
not_bytes b z e = rw e refl

or_nothing : (p : Result) → or_else p None ≡ p
or_nothing None = refl
or_nothing (Some t) = refl

under_nothing : (r : Option ℕ) → Under r None
under_nothing None = tt
under_nothing (Some n) = tt

abbrev of_sign : List ℕ → Option Kind
of_sign w = cond (is_sign w) (Some kind.Sign) None

abbrev of_name : List ℕ → Option Kind
of_name w = cond (is_bracketed w) (Some kind.Bracketed) (of_sign w)

abbrev of_word : List ℕ → Option Kind
of_word w = cond (is_word w) (Some kind.Word) (of_name w)

abbrev of_text : List ℕ → Option Kind
of_text w = cond (is_text w) (Some kind.Text) (of_word w)

abbrev of_number : List ℕ → Option Kind
of_number w = cond (is_number w) (Some kind.Number) (of_text w)

pub front_is : (z : List ℕ) → front z ≡ longest z
unfolding front longest kind_of
front_is [] = refl
front_is (b ∷ z) =
    let a = ask is_sign (λ w. None) kind.Sign (b ∷ z) (f.sign (b ∷ z)) None (best_sign b z) (under_nothing (f.sign (b ∷ z))) (λ m le. refl) in
    let P : Result → Type 0 = λ p. Found of_sign (b ∷ z) p in
    let sign = subst P (or_nothing (signs (b ∷ z))) a in
    let name = ask is_bracketed of_sign kind.Bracketed (b ∷ z) (f.bracketed (b ∷ z)) (signs (b ∷ z)) (best_bracketed b z)
    (under_by is_bracketed (b ∷ z) (b == 91) (f.bracketed (b ∷ z)) (signs (b ∷ z)) (best_bracketed b z) (behind_bracketed b z) (λ e. rw e refl)) sign in
    let word = ask is_word of_name kind.Word (b ∷ z) (f.word (b ∷ z)) (names (b ∷ z)) (best_word b z)
    (under_by is_word (b ∷ z) (begins_word b) (f.word (b ∷ z)) (names (b ∷ z)) (best_word b z) (behind_word b z) (λ e. rw e refl)) name in
    let text = ask is_text of_word kind.Text (b ∷ z) (f.text (b ∷ z)) (words (b ∷ z)) (best_text b z)
    (under_by is_text (b ∷ z) (begins_text b z) (f.text (b ∷ z)) (words (b ∷ z)) (best_text b z) (behind_text_at b z (b == 39) refl) (not_text b z)) word in
    let number = ask is_number of_text kind.Number (b ∷ z) (f.number (b ∷ z)) (texts (b ∷ z)) (best_number (b ∷ z))
    (under_by is_number (b ∷ z) (is_ascii_digit b || b == 46) (f.number (b ∷ z)) (texts (b ∷ z)) (best_number (b ∷ z)) (behind_number_at b z (is_ascii_digit b) refl) (not_number b z)) text in
    let bytes = ask is_bytes of_number kind.Bytes (b ∷ z) (f.bytes (b ∷ z)) (numbers (b ∷ z)) (best_bytes b z)
    (under_by is_bytes (b ∷ z) (begins_bytes b z) (f.bytes (b ∷ z)) (numbers (b ∷ z)) (best_bytes b z) (behind_bytes b z) (not_bytes b z)) number in
    found_is_longest (b ∷ z) (front (b ∷ z)) bytes
