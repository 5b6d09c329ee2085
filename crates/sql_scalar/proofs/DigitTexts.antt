-- Texts of digits, with and without a point, are read as their numbers.
use Rattle.std.proofs.Common.{◌≡◌, ◌∙◌, ◌<◌, ◌≤◌, ℕ, zero, suc, ◌+◌, ◌-◌, ◌*◌, ◌/◌, ◌%◌, ◌^◌, Bool, true, false, List, [], ◌∷◌, ◌++◌, length, take, drop, replicate, ap, sym, refl, arith, rules, Some, None, inl, inr, append-nil, length-append}
use Rattle.std.specs.Prelude.{position, option_and_then}
use Rattle.std.specs.List.{list_all, position_or_len}
use Rattle.std.specs.Char.{is_ascii_digit}
use Rattle.std.specs.Fmt.{decimal}
use Rattle.std.proofs.lemmas.Fmt.{decimal_by_steps_wide}
use Rattle.std.proofs.lemmas.List.{take-append-drop, take_at, length-replicate, length-drop}
use Rattle.std.proofs.Math.Seq.{drop-append-add}
use Rattle.std.proofs.lemmas.Bool.{and_parts, cases_lt, lt-ltb, le-ltb, le-leb}
use Rattle.std.proofs.lemmas.Bool.Decides.{nat_tests}
use Rattle.sql_value.specs.Literal.{digits_after, sized, unsigned, is_point}
use Rattle.sql_value.specs.Printed.{pointed, behind_point}

one_more : (n c : ℕ) (cs b : List ℕ) (t : Bool) → is_ascii_digit c ≡ t
    → digits_after (n * 10 + (c - 48)) (cs ++ b) ≡ option_and_then (λ m. digits_after m b) (digits_after (n * 10 + (c - 48)) cs)
    → digits_after n (c ∷ cs ++ b) ≡ option_and_then (λ m. digits_after m b) (digits_after n (c ∷ cs))
one_more n c cs b true h rest = rw h rest
one_more n c cs b false h rest = rw h refl

-- digits in two parts
pub in_parts : (n : ℕ) (a b : List ℕ) → digits_after n (a ++ b) ≡ option_and_then (λ m. digits_after m b) (digits_after n a)
in_parts n [] b = refl
in_parts n (c ∷ cs) b = one_more n c cs b (is_ascii_digit c) refl (in_parts (n * 10 + (c - 48)) cs b)

is_digit : (n : ℕ) → n < 10 → is_ascii_digit (48 + n) ≡ true
is_digit n h = grind (arith, nat_tests)

read_digit : (m n : ℕ) → n < 10 → digits_after m ((48 + n) ∷ []) ≡ Some (m * 10 + n)
read_digit m n h = let value : 48 + n - 48 ≡ n = omega arith in rw (is_digit n h, value) refl

-- what is written of a number is read as that number
abbrev Reads : ℕ → List ℕ → Type 0
Reads n ds = digits_after 0 ds ≡ Some n

reads_one : (n : ℕ) → n < 10 → Reads n ((48 + n) ∷ [])
reads_one n h = let value : 0 * 10 + n ≡ n = omega arith in read_digit 0 n h ∙ ap Some value

reads_more : (n : ℕ) (ds : List ℕ) → 10 ≤ n → Reads (n / 10) ds → Reads n (ds ++ ((48 + n % 10) ∷ []))
reads_more n ds h p =
    let value : n / 10 * 10 + n % 10 ≡ n = omega arith in
    in_parts 0 ds ((48 + n % 10) ∷ []) ∙ rw p (read_digit (n / 10) (n % 10) (omega arith) ∙ ap Some value)

pub decimal_read : (n : ℕ) → n < 10 ^ 64 → digits_after 0 (decimal n) ≡ Some n
decimal_read n h = decimal_by_steps_wide Reads reads_one reads_more n h

digits_only : (c : ℕ) (cs : List ℕ) (n m : ℕ) (t : Bool) → is_ascii_digit c ≡ t → (digits_after (m * 10 + (c - 48)) cs ≡ Some n → list_all is_ascii_digit cs ≡ true)
    → digits_after m (c ∷ cs) ≡ Some n → list_all is_ascii_digit (c ∷ cs) ≡ true
digits_only c cs n m true h rest is = rw h (rest (rw h at is))
digits_only c cs n m false h rest is = absurd (search (rules, rw h at is))

-- what is read as digits has digits alone
pub all_digits : (ds : List ℕ) (m n : ℕ) → digits_after m ds ≡ Some n → list_all is_ascii_digit ds ≡ true
all_digits [] m n is = refl
all_digits (c ∷ cs) m n is = digits_only c cs n m (is_ascii_digit c) refl (all_digits cs (m * 10 + (c - 48)) n) is

no_point : (c : ℕ) → is_ascii_digit c ≡ true → is_point c ≡ false
no_point c h = grind (arith, nat_tests)

-- the first point stands behind the digits
pub point_after : (ws fs : List ℕ) → list_all is_ascii_digit ws ≡ true → position_or_len is_point (ws ++ 46 ∷ fs) ≡ length ws
point_after [] fs h = refl
point_after (c ∷ cs) fs h =
    let parts = and_parts (is_ascii_digit c) (list_all is_ascii_digit cs) h in
    rw (no_point c parts.0) (omega (arith, point_after cs fs parts.1))

pub point_nowhere : (ds : List ℕ) → list_all is_ascii_digit ds ≡ true → position_or_len is_point ds ≡ length ds
point_nowhere [] h = refl
point_nowhere (c ∷ cs) h =
    let parts = and_parts (is_ascii_digit c) (list_all is_ascii_digit cs) h in
    rw (no_point c parts.0) (omega (arith, point_nowhere cs parts.1))

position_after : (ws fs : List ℕ) → list_all is_ascii_digit ws ≡ true → position is_point (ws ++ 46 ∷ fs) ≡ Some (length ws)
position_after ws fs h =
    rw (point_after ws fs h, lt-ltb (length ws) (length (ws ++ 46 ∷ fs)) (omega (arith, length-append ws (46 ∷ fs)))) refl

position_nowhere : (ds : List ℕ) → list_all is_ascii_digit ds ≡ true → position is_point ds ≡ None
position_nowhere ds h = rw (point_nowhere ds h, le-ltb (length ds) (length ds) (omega arith)) refl

sized_is : (whole fraction : List ℕ) (n : ℕ) → digits_after 0 (whole ++ fraction) ≡ Some n → length whole + length fraction ≤ 38 → sized whole fraction ≡ Some (n, length fraction)
unfolding sized
sized_is whole fraction n is few = rw (le-leb (length whole + length fraction) 38 few, sym (in_parts 0 whole fraction) ∙ is) refl

whole_digits : (whole fraction : List ℕ) → list_all is_ascii_digit (whole ++ fraction) ≡ true → list_all is_ascii_digit whole ≡ true
whole_digits [] fraction h = refl
whole_digits (c ∷ cs) fraction h =
    let parts = and_parts (is_ascii_digit c) (list_all is_ascii_digit (cs ++ fraction)) h in
    rw (parts.0, whole_digits cs fraction parts.1) refl

-- digits, a point and digits
pub read_pointed : (whole : List ℕ) (f : ℕ) (fs : List ℕ) (n : ℕ) → digits_after 0 (whole ++ f ∷ fs) ≡ Some n → length whole + length (f ∷ fs) ≤ 38
    → unsigned (whole ++ 46 ∷ f ∷ fs) ≡ Some (n, length (f ∷ fs))
unfolding unsigned
read_pointed whole f fs n is few =
    let digits = whole_digits whole (f ∷ fs) (all_digits (whole ++ f ∷ fs) 0 n is) in
    let front = take_at whole (46 ∷ f ∷ fs) (length whole) refl in
    let behind : drop (length whole + 1) (whole ++ 46 ∷ f ∷ fs) ≡ f ∷ fs = drop-append-add whole (46 ∷ f ∷ fs) 1 in
    rw (position_after whole (f ∷ fs) digits, front, behind) (sized_is whole (f ∷ fs) n is few)

-- digits alone
pub read_whole : (d : ℕ) (ds : List ℕ) (n : ℕ) → digits_after 0 (d ∷ ds) ≡ Some n → length (d ∷ ds) ≤ 38 → unsigned (d ∷ ds) ≡ Some (n, 0)
unfolding unsigned
read_whole d ds n is few =
    let digits = all_digits (d ∷ ds) 0 n is in
    let all : digits_after 0 (d ∷ ds ++ []) ≡ Some n = ap (digits_after 0) (append-nil (d ∷ ds)) ∙ is in
    rw (position_nowhere (d ∷ ds) digits) (sized_is (d ∷ ds) [] n all (omega arith))

-- zeros before digits count for nothing
zeros_read : (k : ℕ) (ds : List ℕ) → digits_after 0 (replicate k 48 ++ ds) ≡ digits_after 0 ds
zeros_read zero ds = refl
zeros_read (suc k) ds = zeros_read k ds

-- the digits behind a point
tail_pointed : (whole fraction : List ℕ) (d : ℕ) (ds : List ℕ) (n : ℕ) → d ∷ ds ≡ whole ++ fraction → digits_after 0 (d ∷ ds) ≡ Some n → length (d ∷ ds) ≤ 38
    → unsigned (whole ++ behind_point fraction) ≡ Some (n, length fraction)
tail_pointed whole [] d ds n same is few =
    let all : whole ++ [] ≡ d ∷ ds = sym same in
    rw all (read_whole d ds n is few)
tail_pointed whole (f ∷ fs) d ds n same is few =
    read_pointed whole f fs n (ap (digits_after 0) (sym same) ∙ is) (omega (arith, few, ap length same, length-append whole (f ∷ fs)))

read_fraction : (whole fraction : List ℕ) (n : ℕ) → 0 < length fraction → digits_after 0 (whole ++ fraction) ≡ Some n → length whole + length fraction ≤ 38
    → unsigned (whole ++ 46 ∷ fraction) ≡ Some (n, length fraction)
read_fraction whole [] n some is few = absurd (omega arith)
read_fraction whole (f ∷ fs) n some is few = read_pointed whole f fs n is few

-- zeros and digits behind a point
filled : (whole ds : List ℕ) (k n : ℕ) → digits_after 0 whole ≡ Some 0 → digits_after 0 ds ≡ Some n → 0 < length ds → length whole + (k + length ds) ≤ 38
    → unsigned (whole ++ 46 ∷ (replicate k 48 ++ ds)) ≡ Some (n, k + length ds)
filled whole ds k n none is some few =
    let size : length (replicate k 48 ++ ds) ≡ k + length ds = length-append (replicate k 48) ds ∙ ap (λ x. x + length ds) (length-replicate k 48) in
    let read = in_parts 0 whole (replicate k 48 ++ ds) ∙ rw none (zeros_read k ds ∙ is) in
    read_fraction whole (replicate k 48 ++ ds) n (omega (arith, size)) read (omega (arith, size)) ∙ ap (λ x. Some (n, x)) size

-- digits with a point before the last s of them
pub pointed_read : (whole ds : List ℕ) (s n : ℕ) → digits_after 0 whole ≡ Some 0 → digits_after 0 ds ≡ Some n → 0 < length ds → length ds ≤ 38 → length whole + s ≤ 38
    → unsigned (pointed whole ds s) ≡ Some (n, s)
unfolding pointed
pointed_read whole [] s n none is some few also = absurd (omega arith)
pointed_read whole (d ∷ ds) s n none is some few also = elim (cases_lt s (length (d ∷ ds))) [
  | inl inside ↦
      let at = length (d ∷ ds) - s in
      let parts = take-append-drop at (d ∷ ds) in
      let size : length (drop at (d ∷ ds)) ≡ s = length-drop at (d ∷ ds) ∙ omega arith in
      rw (lt-ltb s (length (d ∷ ds)) inside) (tail_pointed (take at (d ∷ ds)) (drop at (d ∷ ds)) d ds n (sym parts) is few ∙ ap (λ x. Some (n, x)) size)
  | inr outside ↦
      let total : s - length (d ∷ ds) + length (d ∷ ds) ≡ s = omega arith in
      rw (le-ltb s (length (d ∷ ds)) outside) (filled whole (d ∷ ds) (s - length (d ∷ ds)) n none is some (omega arith) ∙ ap (λ x. Some (n, x)) total)
]
