-- Rounding, and values that a column stores.
use Rattle.std.proofs.Common.{◌≡◌, ◌∙◌, ◌<◌, ◌≤◌, ℕ, zero, suc, ◌+◌, ◌-◌, ◌*◌, ◌/◌, ◌^◌, true, List, ap, sym, refl, arith, rules, Ok, Err}
use Rattle.std.specs.Prelude.{ℤ, pos, negsuc, neg_ℤ, ◌==◌, if◌then◌else◌}
use Rattle.std.proofs.Math.Nat.{lt-div-mul-add, div-mul-le_self, div-lt_iff_lt-mul, pow-suc}
use Rattle.std.proofs.lemmas.Bool.{and_parts, eqb-true}
use Rattle.std.proofs.lemmas.Bool.Decides.{nat_tests}
use Rattle.sql_value.specs.declared.value.Value.{Value}
use Rattle.sql_value.specs.declared.value.Value.TheVariants.{Null, Num, Text, Bytes, Date}
use Rattle.sql_value.specs.declared.refusal.ValueErr.TheVariants.{Mismatch}
use Rattle.sql_value.specs.declared.sql_type.SqlType.{SqlType}
use Rattle.sql_value.specs.declared.sql_type.SqlType.TheVariants as t
use Rattle.sql_value.specs.Number.{rescaled, rounded, rounded_size, has_digits}
use Rattle.sql_value.specs.Stored.{is_in_range, is_stored, number_stored, text_stored, bytes_stored, day_stored, in_bits, is_bit}
use Rattle.sql_value.specs.Conversion.{conversion_of, number_to, whole_to, text_to, bytes_to, day_to, bit_of}
use Rattle.sql_value.proofs.Numbers.{ten_pos, raised_none}
use Rattle.sql_scalar.proofs.Rounding.{rounded_none}

-- ---- rounding

-- no other number of such units is nearer, and of two that are as near the greater is taken
pub nearest : (n k : ℕ) → (2 * (rounded_size n k * 10 ^ k) ≤ 2 * n + 10 ^ k) × (2 * n < 2 * (rounded_size n k * 10 ^ k) + 10 ^ k)
unfolding rounded_size
nearest n zero = (omega arith, omega arith)
nearest n (suc k) =
    let unit = 10 ^ suc k in
    let low = div-mul-le_self (n + unit / 2) unit in
    let high = lt-div-mul-add {a = n + unit / 2} {b = unit} (ten_pos (suc k)) in
    (omega (arith, low), omega (arith, high, pow-suc 10 k))

none_rounded : (k : ℕ) → rounded_size 0 k ≡ 0
unfolding rounded_size
none_rounded k =
    let less = (div-lt_iff_lt-mul {k = 10 ^ k} {x = 0 + 10 ^ k / 2} {y = 1} (ten_pos k)).1 (omega (arith, ten_pos k)) in
    omega (arith, less)

neg_twice : (n : ℕ) → pos n ≡ neg_ℤ (neg_ℤ (pos n))
neg_twice zero = refl
neg_twice (suc n) = refl

-- away from zero on both sides alike
pub both_sides : (v : ℤ) (k : ℕ) → rounded (neg_ℤ v) k ≡ neg_ℤ (rounded v k)
both_sides (pos zero) k = rw (none_rounded k) refl
both_sides (pos (suc n)) k = refl
both_sides (negsuc n) k = neg_twice (rounded_size (suc n) k)

-- ---- what is stored stays

bit_same : (v : ℤ) → is_bit v ≡ true → bit_of v ≡ v
bit_same (pos zero) h = refl
bit_same (pos (suc zero)) h = refl
bit_same (pos (suc (suc n))) h = absurd (grind (arith, nat_tests))
bit_same (negsuc n) h = absurd (search rules)

scale_same : (v : ℤ) (z : ℕ) → rescaled v z z ≡ v
scale_same v z =
    let none : z - z ≡ 0 = omega arith in
    rw (none, raised_none v) (sym (rounded_none v))

whole_stays : (ty : SqlType) (v : ℤ) (s : ℕ) → (s == 0) ≡ true → whole_to ty v ≡ Ok (Num 0 v) → (if s == 0 then whole_to ty v else Err Mismatch) ≡ Ok (Num s v)
whole_stays ty v s h is = let none = eqb-true s 0 h in rw h (is ∙ ap (λ k. Ok (Num k v)) (sym none))

number_stays : (ty : SqlType) (v : ℤ) (s : ℕ) → number_stored ty v s ≡ true → number_to ty v s ≡ Ok (Num s v)
number_stays t.Bit v s h = let p = and_parts (s == 0) (is_bit v) h in whole_stays t.Bit v s p.0 (ap (λ x. Ok (Num 0 x)) (bit_same v p.1))
number_stays t.Int v s h = let p = and_parts (s == 0) (in_bits 31 v) h in whole_stays t.Int v s p.0 (rw p.1 refl)
number_stays t.BigInt v s h = let p = and_parts (s == 0) (in_bits 63 v) h in whole_stays t.BigInt v s p.0 (rw p.1 refl)
number_stays (t.Decimal p z) v s h =
    let parts = and_parts (s == z) (has_digits v p) h in
    let same = eqb-true s z parts.0 in
    let kept : rescaled v s z ≡ v = ap (λ k. rescaled v k z) same ∙ scale_same v z in
    rw (kept, parts.1) (ap (λ k. Ok (Num k v)) (sym same))
number_stays (t.NVarChar n) v s h = absurd (search rules)
number_stays (t.VarBinary n) v s h = absurd (search rules)
number_stays t.Date v s h = absurd (search rules)

text_stays : (ty : SqlType) (x : List ℕ) → text_stored ty x ≡ true → text_to ty x ≡ Ok (Text x)
text_stays (t.NVarChar n) x h = rw h refl
text_stays t.Bit x h = absurd (search rules)
text_stays t.Int x h = absurd (search rules)
text_stays t.BigInt x h = absurd (search rules)
text_stays (t.Decimal p z) x h = absurd (search rules)
text_stays (t.VarBinary n) x h = absurd (search rules)
text_stays t.Date x h = absurd (search rules)

bytes_stay : (ty : SqlType) (x : List ℕ) → bytes_stored ty x ≡ true → bytes_to ty x ≡ Ok (Bytes x)
bytes_stay (t.VarBinary n) x h = rw h refl
bytes_stay t.Bit x h = absurd (search rules)
bytes_stay t.Int x h = absurd (search rules)
bytes_stay t.BigInt x h = absurd (search rules)
bytes_stay (t.Decimal p z) x h = absurd (search rules)
bytes_stay (t.NVarChar n) x h = absurd (search rules)
bytes_stay t.Date x h = absurd (search rules)

day_stays : (ty : SqlType) (d : ℕ) → day_stored ty d ≡ true → day_to ty d ≡ Ok (Date d)
day_stays t.Date d h = rw h refl
day_stays t.Bit d h = absurd (search rules)
day_stays t.Int d h = absurd (search rules)
day_stays t.BigInt d h = absurd (search rules)
day_stays (t.Decimal p z) d h = absurd (search rules)
day_stays (t.NVarChar n) d h = absurd (search rules)
day_stays (t.VarBinary n) d h = absurd (search rules)

-- a value that is stored stays as it is
pub stored_stays : (v : Value) (ty : SqlType) → is_stored v ty ≡ true → conversion_of v ty ≡ Ok v
unfolding conversion_of is_stored
stored_stays Null ty h = refl
stored_stays (Num s v) ty h = let p = and_parts (is_in_range ty) (number_stored ty v s) h in rw p.0 (number_stays ty v s p.1)
stored_stays (Text x) ty h = let p = and_parts (is_in_range ty) (text_stored ty x) h in rw p.0 (text_stays ty x p.1)
stored_stays (Bytes x) ty h = let p = and_parts (is_in_range ty) (bytes_stored ty x) h in rw p.0 (bytes_stay ty x p.1)
stored_stays (Date d) ty h = let p = and_parts (is_in_range ty) (day_stored ty d) h in rw p.0 (day_stays ty d p.1)
