-- A text has at most as many UTF-16 units as bytes.
use Rattle.std.proofs.Common.{◌≡◌, ◌<◌, ◌+◌, ◌-◌, ◌*◌, ◌/◌, ◌%◌, ◌≤◌, ℕ, zero, suc, Bool, true, false, cond, ltb, List, [], ◌∷◌, length, refl, arith}
use Rattle.std.specs.Prelude.{sum_by, nat_lt}
use Rattle.std.specs.Str.{chars, chars_after, continuation_len, lead_bits}
use Rattle.std.specs.Char.Escape.{encode_utf16}
use Rattle.std.proofs.lemmas.Grind.{common_steps}
use Rattle.std.proofs.lemmas.List.Sums.{sum_by-cons}
use Rattle.sql_value.specs.Text.{utf16_units}

abbrev units : ℕ → ℕ
units c = length (encode_utf16 c)

at_most_two : (b : Bool) (x y z : ℕ) → length (cond b (x ∷ []) (y ∷ z ∷ [])) ≤ 2
at_most_two true x y z = omega arith
at_most_two false x y z = omega arith

two_units : (c : ℕ) → units c ≤ 2
two_units c = at_most_two (ltb c 65536) c (55296 + (c - 65536) / 1024) (56320 + (c - 65536) % 1024)

one_unit : (c : ℕ) → c < 65536 → units c ≤ 1
one_unit c lt = here (ltb c 65536) refl
  where
    here : (b : Bool) → ltb c 65536 ≡ b → length (cond b (c ∷ []) ((55296 + (c - 65536) / 1024) ∷ (56320 + (c - 65536) % 1024) ∷ [])) ≤ 1
    here true e = omega arith
    here false e = grind (arith, common_steps)

abbrev all_units : List ℕ → ℕ
all_units cs = sum_by (λ c. length (encode_utf16 c)) cs

abbrev Small : ℕ → ℕ → Type 0
Small n c = n ≡ 0 → c < 65536

lead : (b : ℕ) → Small (continuation_len b) (lead_bits b)
lead b = here (nat_lt b 128) (nat_lt b 224) (nat_lt b 240) refl
  where
    here : (x y z : Bool) → nat_lt b 128 ≡ x → Small (cond x 0 (cond y 1 (cond z 2 3))) (cond x b (cond y (b - 192) (cond z (b - 224) (b - 240))))
    here true y z e = λ zero_. grind (arith, common_steps)
    here false true z e = λ zero_. absurd (omega (arith, zero_))
    here false false true e = λ zero_. absurd (omega (arith, zero_))
    here false false false e = λ zero_. absurd (omega (arith, zero_))

-- behind one byte, and behind two or more
both : (bs : List ℕ) (n c : ℕ) → (Small n c → all_units (chars_after n c bs) ≤ 1 + length bs) × (all_units (chars_after n c bs) ≤ 2 + length bs)
both [] zero c = ((λ s. omega (arith, sum_by-cons (λ x. length (encode_utf16 x)) c [], one_unit c (s refl))), omega (arith, sum_by-cons (λ x. length (encode_utf16 x)) c [], two_units c))
both [] (suc n) c = ((λ s. omega arith), omega arith)
both (b ∷ bs) zero c =
    let r = (both bs (continuation_len b) (lead_bits b)).0 (lead b) in
    let l = sum_by-cons (λ x. length (encode_utf16 x)) c (chars_after (continuation_len b) (lead_bits b) bs) in
    ((λ s. omega (arith, l, r, one_unit c (s refl))), omega (arith, l, r, two_units c))
both (b ∷ bs) (suc n) c = let r = (both bs n (c * 64 + (b - 128))).1 in ((λ s. omega (arith, r)), omega (arith, r))

units_are : (x : List ℕ) → utf16_units x ≡ all_units (chars x)
unfolding utf16_units
units_are x = refl

chars_few : (x : List ℕ) → all_units (chars x) ≤ length x
unfolding chars
chars_few [] = omega arith
chars_few (b ∷ bs) = omega (arith, (both bs (continuation_len b) (lead_bits b)).0 (lead b))

pub few_units : (x : List ℕ) → utf16_units x ≤ length x
few_units x = omega (arith, units_are x, chars_few x)
