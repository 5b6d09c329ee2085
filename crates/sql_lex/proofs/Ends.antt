-- A token's first byte and its last are ASCII.
use Rattle.std.proofs.Common.{◌≡◌, ℕ, ◌+◌, ◌%◌, ◌<◌, ◌≤◌, ◌==◌, Bool, true, false, cond, ◌&&◌, ◌||◌, List, [], ◌∷◌, ◌++◌, length, take, drop, get_or, nat_lt, nat_le, Option, Some, refl, sym, ◌∙◌, subst, arith, append-nil}
use Rattle.std.proofs.lemmas.Bool.{and_parts}
use Rattle.std.proofs.lemmas.Bool.Decides.{nat_tests}
use Rattle.std.proofs.lemmas.List.{take-append-drop}
use Rattle.std.specs.List.{list_all, prefix_len}
use Rattle.std.specs.Char.{is_ascii_digit, is_ascii_hexdigit}
use Rattle.sql_lex.specs.declared.token.Kind.{Kind}
use Rattle.sql_lex.specs.IsToken.{kind_of, begins_word, is_word_byte, is_word, is_name_byte, is_closed, is_bracketed, is_fraction, is_number, is_inside, is_quoted, is_text, is_bytes, is_single, is_pair, is_sign}
use Rattle.sql_lex.proofs.Runs.{run_passes}

abbrev pub last_of : List ℕ → ℕ
last_of [] = 0
last_of (b ∷ []) = b
last_of (b ∷ c ∷ z) = last_of (c ∷ z)

pub last_at : (b : ℕ) (z : List ℕ) → last_of (b ∷ z) ≡ get_or (b ∷ z) (length z) 0
last_at b [] = refl
last_at b (c ∷ z) = last_at c z

-- the first byte and the last
abbrev pub Ends : List ℕ → Type 0
Ends z = (get_or z 0 0 < 128) × (last_of z < 128)

all_last : (p : ℕ → Bool) → ((b : ℕ) → p b ≡ true → b < 128) → (z : List ℕ) → list_all p z ≡ true → last_of z < 128
all_last p low [] h = omega arith
all_last p low (b ∷ []) h = low b (and_parts (p b) true h).0
all_last p low (b ∷ c ∷ z) h = all_last p low (c ∷ z) (and_parts (p b) (list_all p (c ∷ z)) h).1

low_start : (b : ℕ) → begins_word b ≡ true → b < 128
low_start b h = grind (arith, nat_tests)

low_word : (b : ℕ) → is_word_byte b ≡ true → b < 128
low_word b h = grind (arith, nat_tests)

low_digit : (b : ℕ) → is_ascii_digit b ≡ true → b < 128
low_digit b h = grind (arith, nat_tests)

low_hex : (b : ℕ) → is_ascii_hexdigit b ≡ true → b < 128
low_hex b h = grind (arith, nat_tests)

low_single : (b : ℕ) → is_single b ≡ true → b < 128
low_single b h = grind (arith, nat_tests)

low_pair : (b c : ℕ) → is_pair b c ≡ true → (b < 128) × (c < 128)
low_pair b c h = (grind (arith, nat_tests), grind (arith, nat_tests))

low_is : (b n : ℕ) → (b == n) ≡ true → n < 128 → b < 128
low_is b n h low = grind (arith, nat_tests)

word_ends : (z : List ℕ) → is_word z ≡ true → Ends z
word_ends [] h = cc
word_ends (b ∷ []) h = let low = low_start b (and_parts (begins_word b) true h).0 in (low, low)
word_ends (b ∷ c ∷ z) h =
    let both = and_parts (begins_word b) (list_all is_word_byte (c ∷ z)) h in
    (low_start b both.0, all_last is_word_byte low_word (c ∷ z) both.1)

closed_last : (z : List ℕ) → is_closed z ≡ true → last_of z < 128
closed_last [] h = cc
closed_last (b ∷ []) h = low_is b 93 h (omega arith)
closed_last (b ∷ c ∷ z) h = closed_last (c ∷ z) (and_parts (is_name_byte b) (is_closed (c ∷ z)) h).1

bracketed_ends : (z : List ℕ) → is_bracketed z ≡ true → Ends z
bracketed_ends [] h = cc
bracketed_ends (b ∷ []) h = let last = and_parts (b == 91 && nat_lt 1 0) false h in cc
bracketed_ends (b ∷ c ∷ z) h =
    let last = and_parts (b == 91 && nat_lt 1 (length (c ∷ z))) (is_closed (c ∷ z)) h in
    let first = and_parts (b == 91) (nat_lt 1 (length (c ∷ z))) last.0 in
    (low_is b 91 first.0 (omega arith), closed_last (c ∷ z) last.1)

inside_one : (is_second : Bool) (b : ℕ) (c : Bool) → (b == 39) ≡ c → is_inside is_second (b ∷ []) ≡ true → b < 128
inside_one s b true e h = low_is b 39 e (omega arith)
inside_one true b false e h = let both = and_parts (b == 39) false h in cc
inside_one false b false e h =
    let P : Bool → Type 0 = λ x. cond x true false ≡ true in
    let never : false ≡ true = subst P e h in
    cc

inside_more : (b : ℕ) (z : List ℕ) (c : Bool) → ((s : Bool) → is_inside s z ≡ true → last_of z < 128) → cond c (is_inside true z) (is_inside false z) ≡ true → last_of z < 128
inside_more b z true rest h = rest true h
inside_more b z false rest h = rest false h

inside_last : (z : List ℕ) (is_second : Bool) → 1 ≤ length z → is_inside is_second z ≡ true → last_of z < 128
inside_last [] s some h = absurd (omega arith)
inside_last (b ∷ []) s some h = inside_one s b (b == 39) refl h
inside_last (b ∷ c ∷ z) true some h = inside_last (c ∷ z) false (omega arith) (and_parts (b == 39) (is_inside false (c ∷ z)) h).1
inside_last (b ∷ c ∷ z) false some h = inside_more b (c ∷ z) (b == 39) (λ s k. inside_last (c ∷ z) s (omega arith) k) h

text_at : (b : ℕ) (z : List ℕ) (c : Bool) → (b == 39) ≡ c → cond c (is_inside false z) ((b == 78 || b == 110) && is_quoted z) ≡ true → Ends (b ∷ z)
text_at b [] true e h = cc
text_at b (d ∷ z) true e h = (low_is b 39 e (omega arith), inside_last (d ∷ z) false (omega arith) h)
text_at b [] false e h = let both = and_parts (b == 78 || b == 110) false h in cc
text_at b (d ∷ []) false e h =
    let both = and_parts (b == 78 || b == 110) (d == 39 && false) h in
    let inner = and_parts (d == 39) false both.1 in
    cc
text_at b (d ∷ g ∷ z) false e h =
    let both = and_parts (b == 78 || b == 110) (d == 39 && is_inside false (g ∷ z)) h in
    let inner = and_parts (d == 39) (is_inside false (g ∷ z)) both.1 in
    let low : b < 128 = grind (arith, nat_tests, both.0) in
    (low, inside_last (g ∷ z) false (omega arith) inner.1)

text_ends : (z : List ℕ) → is_text z ≡ true → Ends z
text_ends [] h = cc
text_ends (b ∷ z) h = text_at b z (b == 39) refl h

bytes_ends : (z : List ℕ) → is_bytes z ≡ true → Ends z
bytes_ends [] h = cc
bytes_ends (b ∷ []) h = cc
bytes_ends (b ∷ x ∷ []) h =
    let a = and_parts ((b == 48 && (x == 120 || x == 88)) && true) (0 % 2 == 0) h in
    let c = and_parts (b == 48 && (x == 120 || x == 88)) true a.0 in
    let d = and_parts (b == 48) (x == 120 || x == 88) c.0 in
    let low : x < 128 = grind (arith, nat_tests, d.1) in
    (low_is b 48 d.0 (omega arith), low)
bytes_ends (b ∷ x ∷ y ∷ z) h =
    let a = and_parts ((b == 48 && (x == 120 || x == 88)) && list_all is_ascii_hexdigit (y ∷ z)) (length (y ∷ z) % 2 == 0) h in
    let c = and_parts (b == 48 && (x == 120 || x == 88)) (list_all is_ascii_hexdigit (y ∷ z)) a.0 in
    let d = and_parts (b == 48) (x == 120 || x == 88) c.0 in
    (low_is b 48 d.0 (omega arith), all_last is_ascii_hexdigit low_hex (y ∷ z) c.1)

sign_ends : (z : List ℕ) → is_sign z ≡ true → Ends z
sign_ends [] h = cc
sign_ends (b ∷ []) h = let low = low_single b h in (low, low)
sign_ends (b ∷ c ∷ []) h = low_pair b c h
sign_ends (b ∷ c ∷ d ∷ z) h = cc

last-append : (xs : List ℕ) (y : ℕ) (ys : List ℕ) → last_of (xs ++ y ∷ ys) ≡ last_of (y ∷ ys)
last-append [] y ys = refl
last-append (x ∷ []) y ys = refl
last-append (x ∷ w ∷ xs) y ys = last-append (w ∷ xs) y ys

last_of_parts : (z front back : List ℕ) (whole : ℕ) → front ++ back ≡ z → list_all is_ascii_digit front ≡ true → is_fraction whole back ≡ true → last_of z < 128
last_of_parts z front [] whole e all h =
    let P : List ℕ → Type 0 = λ x. last_of x < 128 in
    subst P (sym (append-nil front) ∙ e) (all_last is_ascii_digit low_digit front all)
last_of_parts z front (b ∷ []) whole e all h =
    let a = and_parts ((b == 46 && nat_lt 0 0) && true) (nat_le (whole + 0) 38) h in
    let c = and_parts (b == 46 && nat_lt 0 0) true a.0 in
    let d = and_parts (b == 46) (nat_lt 0 0) c.0 in
    let never : nat_lt 0 0 ≡ true = d.1 in
    cc
last_of_parts z front (b ∷ y ∷ back) whole e all h =
    let a = and_parts ((b == 46 && nat_lt 0 (length (y ∷ back))) && list_all is_ascii_digit (y ∷ back)) (nat_le (whole + length (y ∷ back)) 38) h in
    let c = and_parts (b == 46 && nat_lt 0 (length (y ∷ back))) (list_all is_ascii_digit (y ∷ back)) a.0 in
    let P : List ℕ → Type 0 = λ x. last_of x < 128 in
    let Q : ℕ → Type 0 = λ x. x < 128 in
    subst P e (subst Q (sym (last-append front b (y ∷ back))) (all_last is_ascii_digit low_digit (y ∷ back) c.1))

number_first : (b : ℕ) (z : List ℕ) (c : Bool) → is_ascii_digit b ≡ c → is_fraction (cond c (1 + prefix_len is_ascii_digit z) 0) (drop (cond c (1 + prefix_len is_ascii_digit z) 0) (b ∷ z)) ≡ true → b < 128
number_first b z true e h = low_digit b e
number_first b z false e h =
    let a = and_parts ((b == 46 && nat_lt 0 (length z)) && list_all is_ascii_digit z) (nat_le (0 + length z) 38) h in
    let c = and_parts (b == 46 && nat_lt 0 (length z)) (list_all is_ascii_digit z) a.0 in
    let d = and_parts (b == 46) (nat_lt 0 (length z)) c.0 in
    low_is b 46 d.0 (omega arith)

number_ends : (z : List ℕ) → is_number z ≡ true → Ends z
number_ends [] h = cc
number_ends (b ∷ z) h =
    let n : ℕ = prefix_len is_ascii_digit (b ∷ z) in (
      number_first b z (is_ascii_digit b) refl h,
      last_of_parts (b ∷ z) (take n (b ∷ z)) (drop n (b ∷ z)) n (take-append-drop n (b ∷ z)) (run_passes is_ascii_digit (b ∷ z) n (omega arith)) h,
    )

-- by the kind that is asked first
ends_or : (is : List ℕ → Bool) (k : Kind) (z : List ℕ) (other : Option Kind) (c : Bool) → is z ≡ c → (is z ≡ true → Ends z) → (kind : Kind) → cond c (Some k) other ≡ Some kind → (other ≡ Some kind → Ends z) → Ends z
ends_or is k z other true e mine kind h rest = mine e
ends_or is k z other false e mine kind h rest = rest h

pub token_ends : (z : List ℕ) (k : Kind) → kind_of z ≡ Some k → Ends z
unfolding kind_of
token_ends z k h =
    ends_or is_bytes _ z _ (is_bytes z) refl (bytes_ends z) k h (λ h.
    ends_or is_number _ z _ (is_number z) refl (number_ends z) k h (λ h.
    ends_or is_text _ z _ (is_text z) refl (text_ends z) k h (λ h.
    ends_or is_word _ z _ (is_word z) refl (word_ends z) k h (λ h.
    ends_or is_bracketed _ z _ (is_bracketed z) refl (bracketed_ends z) k h (λ h.
    ends_or is_sign _ z _ (is_sign z) refl (sign_ends z) k h (λ h. absurd cc))))))
