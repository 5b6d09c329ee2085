-- What values show is UTF-8.
use Rattle.std.proofs.Common.{◌≡◌, ◌∙◌, ◌<◌, ◌≤◌, ◌+◌, ◌-◌, ◌/◌, ◌%◌, ◌^◌, ℕ, zero, suc, ℤ, pos, negsuc, unsigned_abs, FitsSigned, Bool, true, false, List, [], ◌∷◌, ◌++◌, length, take, drop, get_or, replicate, refl, sym, ap, subst, arith, inl, inr, append_assoc, length-append, true≢false, IsUtf8, Option, Some, None, IsSome, is_some, decimal, codes}
use Rattle.std.specs.Prelude.{◌==◌, ◌&&◌, nat_lt, nat_le, option_and_then, if◌then◌else◌}
use Rattle.std.specs.List.{list_all}
use Rattle.std.specs.Str.{IsAscii}
use Rattle.std.specs.Int.{w128}
use Rattle.std.specs.Char.{is_ascii_digit}
use Rattle.std.proofs.lemmas.Bool.{cases_Bool, and_parts, eqb-true, leb-true, ltb-true}
use Rattle.std.proofs.lemmas.Bool.Decides.{nat_tests}
use Rattle.std.proofs.Math.Seq.{take-append_seam, drop-append_seam, get_or-append_seam}
use Rattle.std.proofs.lemmas.Str.{IsUtf8-append, IsUtf8-from_ascii, IsUtf8-take, IsUtf8-drop, IsUtf8-nil, IsCharBoundary-after_ascii, IsCharBoundary-before_ascii, IsAscii-append, IsAscii-take, IsAscii-drop}
use Rattle.std.proofs.lemmas.Str.Ascii.{IsAscii-nil, IsAscii-cons}
use Rattle.std.proofs.lemmas.Fmt.{IsAscii-decimal_wide}
use Rattle.hex.specs.Hex.{encode_upper, upper_digits}
use Rattle.hex.proofs.HexLemmas.{IsAscii-encode_with}
use Rattle.sql_value.specs.declared.value.Value.TheVariants.{Null, Num, Text, Bytes, Date}
use Rattle.sql_value.specs.declared.day.CivilDate.{CivilDate}
use Rattle.sql_value.specs.Day.{last_day, two_digits, as_date, day_if, day_of, written_date, date_of, date_text}
use Rattle.sql_value.specs.Printed.{sign, behind_point, pointed, doubled, day_text, printed}

-- ---- texts

pub ascii_cons : (b : ℕ) (bs : List ℕ) → b < 128 → IsUtf8 bs → IsUtf8 (b ∷ bs)
ascii_cons b bs small u = IsUtf8-append (b ∷ []) bs (IsUtf8-from_ascii (b ∷ []) (IsAscii-cons b [] small IsAscii-nil)) u

-- an ASCII byte may become two others
pub two_for_one : (b d e : ℕ) → b < 128 → d < 128 → e < 128 → (front cs rest : List ℕ) → (IsUtf8 cs → IsUtf8 rest) → IsUtf8 (front ++ b ∷ cs) → IsUtf8 (front ++ d ∷ e ∷ rest)
two_for_one b d e b_small d_small e_small front cs rest more u =
    let whole = front ++ b ∷ cs in
    let here : get_or whole (length front) 0 ≡ b = get_or-append_seam front b cs 0 in
    let long : length whole ≡ length front + suc (length cs) = length-append front (b ∷ cs) in
    let seam : length (front ++ b ∷ []) ≡ length front + 1 = length-append front (b ∷ []) in
    let parts : (front ++ b ∷ []) ++ cs ≡ whole = append_assoc front (b ∷ []) cs in
    let small : get_or whole (length front) 0 < 128 = omega (arith, here, b_small) in
    let within : length front < length whole = omega (arith, long) in
    let before : IsUtf8 front =
    subst IsUtf8 (take-append_seam front (b ∷ cs)) (IsUtf8-take whole (length front) u (IsCharBoundary-before_ascii whole (length front) within small)) in
    let behind : drop (length front + 1) whole ≡ cs =
    sym (ap (λ n. drop n whole) seam) ∙ sym (ap (drop (length (front ++ b ∷ []))) parts) ∙ drop-append_seam (front ++ b ∷ []) cs in
    let right : IsUtf8 cs = subst IsUtf8 behind (IsUtf8-drop whole (length front + 1) u (IsCharBoundary-after_ascii whole (length front) u within small)) in
    IsUtf8-append front (d ∷ e ∷ rest) before (ascii_cons d (e ∷ rest) d_small (ascii_cons e rest e_small (more right)))

doubled_behind : (front bs : List ℕ) → IsUtf8 (front ++ bs) → IsUtf8 (front ++ doubled bs)
doubled_behind front [] u = u
doubled_behind front (c ∷ cs) u =
    elim (cases_Bool (c == 39)) [
      | inl quote ↦
          let is : c ≡ 39 = eqb-true c 39 quote in
          rw quote (two_for_one 39 39 39 (omega arith) (omega arith) (omega arith) front cs (doubled cs) (doubled_behind [] cs) (subst (λ d. IsUtf8 (front ++ d ∷ cs)) is u))
      | inr other ↦
          rw other (subst IsUtf8 (append_assoc front (c ∷ []) (doubled cs)) (doubled_behind (front ++ c ∷ []) cs (subst IsUtf8 (sym (append_assoc front (c ∷ []) cs)) u)))
    ]

quoted_utf8 : (bs : List ℕ) → IsUtf8 bs → IsUtf8 (39 ∷ bs ++ 39 ∷ [])
quoted_utf8 bs u = ascii_cons 39 (bs ++ 39 ∷ []) (omega arith) (IsUtf8-append bs (39 ∷ []) u (ascii_cons 39 [] (omega arith) IsUtf8-nil))

pub text_utf8 : (text : List ℕ) → IsUtf8 text → IsUtf8 (printed (Text text))
unfolding printed
text_utf8 text u = ascii_cons 78 (39 ∷ doubled text ++ 39 ∷ []) (omega arith) (quoted_utf8 (doubled text) (doubled_behind [] text u))

-- ---- NULL, bytes and numbers

all_ascii : (bs : List ℕ) → list_all (λ b. nat_lt b 128) bs ≡ true → IsAscii bs
all_ascii [] h = IsAscii-nil
all_ascii (b ∷ bs) h = let both = and_parts (nat_lt b 128) (list_all (λ c. nat_lt c 128) bs) h in IsAscii-cons b bs (ltb-true b 128 both.0) (all_ascii bs both.1)

pub null_utf8 : IsUtf8 (printed Null)
unfolding printed
null_utf8 = IsUtf8-from_ascii (codes "NULL") (all_ascii (codes "NULL") refl)

pub bytes_utf8 : (bytes : List ℕ) → IsUtf8 (printed (Bytes bytes))
unfolding printed
bytes_utf8 bytes =
    let digits = IsUtf8-from_ascii (encode_upper bytes) (IsAscii-encode_with upper_digits bytes (all_ascii upper_digits refl)) in
    ascii_cons 48 (120 ∷ encode_upper bytes) (omega arith) (ascii_cons 120 (encode_upper bytes) (omega arith) digits)

sign_ascii : (v : ℤ) → IsAscii (sign v)
sign_ascii (pos n) = IsAscii-nil
sign_ascii (negsuc n) = IsAscii-cons 45 [] (omega arith) IsAscii-nil

point_ascii : (ds : List ℕ) → IsAscii ds → IsAscii (behind_point ds)
point_ascii [] h = IsAscii-nil
point_ascii (d ∷ ds) h = IsAscii-cons 46 (d ∷ ds) (omega arith) h

zeros_ascii : (n : ℕ) → IsAscii (replicate n 48)
zeros_ascii zero = IsAscii-nil
zeros_ascii (suc n) = IsAscii-cons 48 (replicate n 48) (omega arith) (zeros_ascii n)

pointed_ascii : (ds : List ℕ) (s : ℕ) → IsAscii ds → IsAscii (pointed (48 ∷ []) ds s)
unfolding pointed
pointed_ascii ds s h =
    let at = length ds - s in
    let zeros = replicate (s - length ds) 48 in
    let zero : 48 < 128 = omega arith in
    let point : 46 < 128 = omega arith in
    elim (cases_Bool (nat_lt s (length ds))) [
      | inl within ↦ rw within (IsAscii-append (take at ds) (behind_point (drop at ds)) (IsAscii-take ds at h) (point_ascii (drop at ds) (IsAscii-drop ds at h)))
      | inr past ↦
          rw past (IsAscii-cons 48 (46 ∷ (zeros ++ ds)) zero (IsAscii-cons 46 (zeros ++ ds) point (IsAscii-append zeros ds (zeros_ascii (s - length ds)) h)))
    ]

pub number_utf8 : (v : ℤ) (s : ℕ) → unsigned_abs v < 10 ^ 64 → IsUtf8 (printed (Num s v))
unfolding printed
number_utf8 v s small =
    let digits = pointed (48 ∷ []) (decimal (unsigned_abs v)) s in
    IsUtf8-from_ascii (sign v ++ digits) (IsAscii-append (sign v) digits (sign_ascii v) (pointed_ascii (decimal (unsigned_abs v)) s (IsAscii-decimal_wide (unsigned_abs v) small)))

pub number_small : (v : ℤ) → FitsSigned w128 v → unsigned_abs v < 10 ^ 64
number_small (pos n) h = omega (arith, h)
number_small (negsuc n) h = omega (arith, h)

-- ---- days

abbrev AreSmall : ℕ → ℕ → Type 0
AreSmall a b = (a < 128) × (b < 128)

digit_small : (a : ℕ) → is_ascii_digit a ≡ true → a < 128
digit_small a h = grind (arith, nat_tests)

none_there : (b : Bool) (n : ℕ) → b ≡ false → IsSome (if b then Some n else None) → ⊥
none_there b n e h = true≢false (sym h ∙ ap (λ c. is_some (if c then Some n else None)) e)

two_small : (a b : ℕ) → IsSome (two_digits a b) → AreSmall a b
two_small a b there =
    elim (cases_Bool (is_ascii_digit a && is_ascii_digit b)) [
      | inl digits ↦ let both = and_parts (is_ascii_digit a) (is_ascii_digit b) digits in (digit_small a both.0, digit_small b both.1)
      | inr others ↦ absurd (none_there (is_ascii_digit a && is_ascii_digit b) _ others there)
    ]

all_there : (x y z w : Option ℕ) (n : ℕ) → option_and_then day_if (as_date x y z w) ≡ Some n → IsSome x × IsSome y × IsSome z × IsSome w
all_there (Some x) (Some y) (Some z) (Some w) n h = (refl, refl, refl, refl)
all_there None y z w n h = cc
all_there (Some x) None z w n h = cc
all_there (Some x) (Some y) None w n h = cc
all_there (Some x) (Some y) (Some z) None n h = cc

pair_ascii : (a b : ℕ) (bs : List ℕ) → AreSmall a b → IsAscii bs → IsAscii (a ∷ b ∷ bs)
pair_ascii a b bs small h = IsAscii-cons a (b ∷ bs) small.0 (IsAscii-cons b bs small.1 h)

read_ascii : (a b c d e f g h n : ℕ) → day_of (a ∷ b ∷ c ∷ d ∷ 45 ∷ e ∷ f ∷ 45 ∷ g ∷ h ∷ []) ≡ Some n → IsAscii (a ∷ b ∷ c ∷ d ∷ 45 ∷ e ∷ f ∷ 45 ∷ g ∷ h ∷ [])
unfolding day_of written_date
read_ascii a b c d e f g h n read =
    let there = all_there (two_digits a b) (two_digits c d) (two_digits e f) (two_digits g h) n read in
    let days = pair_ascii g h [] (two_small g h there.3) IsAscii-nil in
    let months = pair_ascii e f (45 ∷ g ∷ h ∷ []) (two_small e f there.2) (IsAscii-cons 45 (g ∷ h ∷ []) (omega arith) days) in
    let years = pair_ascii c d (45 ∷ e ∷ f ∷ 45 ∷ g ∷ h ∷ []) (two_small c d there.1) (IsAscii-cons 45 (e ∷ f ∷ 45 ∷ g ∷ h ∷ []) (omega arith) months) in
    pair_ascii a b (c ∷ d ∷ 45 ∷ e ∷ f ∷ 45 ∷ g ∷ h ∷ []) (two_small a b there.0) years

date_ascii : (c : CivilDate) (n : ℕ) → day_of (date_text c) ≡ Some n → IsAscii (date_text c)
date_ascii c n read =
    read_ascii (48 + c.year / 100 / 10) (48 + c.year / 100 % 10) (48 + c.year % 100 / 10) (48 + c.year % 100 % 10)
    (48 + c.month / 10) (48 + c.month % 10) (48 + c.day / 10) (48 + c.day % 10) n read

day_ascii : (d : ℕ) → d < 10 ^ 64 → ((n : ℕ) → n ≤ last_day → day_of (date_text (date_of n)) ≡ Some n) → IsAscii (day_text d)
unfolding day_text
day_ascii d small read =
    elim (cases_Bool (nat_le d last_day)) [
      | inl day ↦ rw day (date_ascii (date_of d) d (read d (leb-true d last_day day)))
      | inr past ↦ rw past (IsAscii-decimal_wide d small)
    ]

pub day_utf8 : (d : ℕ) → d < 10 ^ 64 → ((n : ℕ) → n ≤ last_day → day_of (date_text (date_of n)) ≡ Some n) → IsUtf8 (printed (Date d))
unfolding printed
day_utf8 d small read = quoted_utf8 (day_text d) (IsUtf8-from_ascii (day_text d) (day_ascii d small read))
