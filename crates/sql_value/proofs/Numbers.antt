-- Numbers in smaller units.
use Rattle.std.proofs.Common.{◌≡◌, ℕ, zero, suc, ◌+◌, ◌*◌, ◌^◌, ◌≤◌, ◌<◌, ◌-◌, refl, sym, ap, subst, ◌∙◌, arith, lit<, inl, inr}
use Rattle.std.specs.Prelude.{ℤ, pos, negsuc, ◌<ℤ◌, ◌≤ℤ◌, neg_ℤ, FitsSigned, ◌≢◌}
use Rattle.std.specs.Int.{w128, int_pow}
use Rattle.std.specs.Ordering.{int_cmp, MatchOrdering, ordering_reverse}
use Rattle.std.specs.Cmp.{int_cmp_is, int_ranks, int_cmp_total}
use Rattle.std.specs.declared.cmp.Ordering.{Ordering}
use Rattle.std.specs.declared.cmp.Ordering.TheVariants.{Less, Equal, Greater}
use Rattle.std.proofs.Math.IntN.{pos-*ℤ-pos, negsuc-*ℤ-pos}
use Rattle.std.proofs.lemmas.Nat.{pow-add}
use Rattle.std.proofs.Math.Nat.{mul_assoc, mul-lt-mul_of_pos_right, pow-le-pow_right, mul-le-mul_right}
use Rattle.std.proofs.lemmas.Int.{ints}
use Rattle.std.proofs.lemmas.Bool.{cases_lt}
use Rattle.sql_value.specs.Number.{raised}

-- a power of ten isn't 0
pub ten_pos : (k : ℕ) → 0 < 10 ^ k
ten_pos k = let more = pow-le-pow_right {n = 10} (lit< tt) {i = 0} {j = k} (omega arith) in omega (arith, more)

-- a product with a power of ten is no less
pub grown : (m k : ℕ) → m ≤ m * 10 ^ k
grown m k = let more = mul-le-mul_right {m = 1} {n = 10 ^ k} m (omega (arith, ten_pos k)) in omega (arith, more)

pub raised_pos : (n k : ℕ) → raised (pos n) k ≡ pos (n * 10 ^ k)
unfolding raised
raised_pos n k = pos-*ℤ-pos n (10 ^ k)

opposite : (m : ℕ) → 0 < m → neg_ℤ (pos m) ≡ negsuc (m - 1)
opposite zero h = absurd (omega arith)
opposite (suc m) h = ap negsuc (omega arith)

pub raised_neg : (n k : ℕ) → raised (negsuc n) k ≡ negsuc (suc n * 10 ^ k - 1)
unfolding raised
raised_neg n k = negsuc-*ℤ-pos n (10 ^ k) ∙ opposite (suc n * 10 ^ k) (omega (arith, grown (suc n) k))

pub raised_none : (v : ℤ) → raised v 0 ≡ v
raised_none (pos n) = raised_pos n 0 ∙ ap pos (omega arith)
raised_none (negsuc n) = raised_neg n 0 ∙ ap negsuc (omega arith)

twice : (n j k : ℕ) → n * 10 ^ j * 10 ^ k ≡ n * 10 ^ (j + k)
twice n j k = mul_assoc n (10 ^ j) (10 ^ k) ∙ ap (λ x. n * x) (sym (pow-add 10 j k))

pub raised_twice : (v : ℤ) (j k : ℕ) → raised (raised v j) k ≡ raised v (j + k)
raised_twice (pos n) j k = rw (raised_pos n j, raised_pos (n * 10 ^ j) k, raised_pos n (j + k)) (ap pos (twice n j k))
raised_twice (negsuc n) j k =
    let m = suc n * 10 ^ j in
    let whole : suc (m - 1) ≡ m = omega (arith, grown (suc n) j) in
    rw (raised_neg n j, raised_neg (suc n * 10 ^ j - 1) k, raised_neg n (j + k)) (ap (λ x. negsuc (x * 10 ^ k - 1)) whole ∙ ap (λ x. negsuc (x - 1)) (twice (suc n) j k))

pub raised_lt : (v w : ℤ) (k : ℕ) → v <ℤ w → raised v k <ℤ raised w k
raised_lt (pos n) (pos m) k h =
    let less = mul-lt-mul_of_pos_right {m = n} {n = m} {k = 10 ^ k} (omega (arith, ints)) (ten_pos k) in
    rw (raised_pos n k, raised_pos m k) (omega (arith, ints, less))
raised_lt (pos n) (negsuc m) k h = absurd (omega (arith, ints))
raised_lt (negsuc n) (pos m) k h = rw (raised_neg n k, raised_pos m k) (omega (arith, ints))
raised_lt (negsuc n) (negsuc m) k h =
    let less = mul-lt-mul_of_pos_right {m = suc m} {n = suc n} {k = 10 ^ k} (omega (arith, ints)) (ten_pos k) in
    rw (raised_neg n k, raised_neg m k) (omega (arith, ints, less, grown (suc m) k))

raised_ranks : (v w : ℤ) (k : ℕ) (r : Ordering) → MatchOrdering r (v <ℤ w) (v ≡ w) (w <ℤ v) → MatchOrdering r (raised v k <ℤ raised w k) (raised v k ≡ raised w k) (raised w k <ℤ raised v k)
raised_ranks v w k Less h = raised_lt v w k h
raised_ranks v w k Equal h = ap (λ x. raised x k) h
raised_ranks v w k Greater h = raised_lt w v k h

-- two numbers in smaller units compare as before
pub cmp_raised : (v w : ℤ) (k : ℕ) → int_cmp (raised v k) (raised w k) ≡ int_cmp v w
cmp_raised v w k = sym (int_cmp_is (raised v k) (raised w k) (int_cmp v w) (raised_ranks v w k (int_cmp v w) (int_ranks v w)))

pub big : (m : ℕ) → (FitsSigned w128 (pos m) → ⊥) → 2 ^ 127 ≤ m
big m out = elim (cases_lt m (2 ^ 127)) [ inl h ↦ absurd (out (record { sfits = h })) | inr h ↦ h ]

pub big_neg : (m : ℕ) → (FitsSigned w128 (negsuc m) → ⊥) → 2 ^ 127 ≤ m
big_neg m out = elim (cases_lt m (2 ^ 127)) [ inl h ↦ absurd (out (record { sfits = h })) | inr h ↦ h ]

-- no power of ten is 2 ^ 127
past : (k : ℕ) → 2 ^ 127 ≤ 10 ^ k → 2 ^ 127 < 10 ^ k
past k h = elim (cases_lt k 39) [
  | inl few ↦ let most = pow-le-pow_right {n = 10} (lit< tt) {i = k} {j = 38} (omega arith) in absurd (omega (arith, most))
  | inr many ↦ let least = pow-le-pow_right {n = 10} (lit< tt) {i = 39} {j = k} many in omega (arith, least)
]

-- where the unit itself doesn't fit, 0 alone does
pub no_unit : (v : ℤ) (k : ℕ) → (FitsSigned w128 (int_pow (pos 10) k) → ⊥) → v ≢ pos 0 → FitsSigned w128 (raised v k) → ⊥
no_unit (pos zero) k out some f = absurd (some refl)
no_unit (pos (suc n)) k out some f =
    let f' : FitsSigned w128 (pos (suc n * 10 ^ k)) = subst (FitsSigned w128) (raised_pos (suc n) k) f in
    let more = mul-le-mul_right {m = 1} {n = suc n} (10 ^ k) (omega arith) in
    omega (arith, f'.sfits, more, big (10 ^ k) out)
no_unit (negsuc n) k out some f =
    let f' : FitsSigned w128 (negsuc (suc n * 10 ^ k - 1)) = subst (FitsSigned w128) (raised_neg n k) f in
    let more = mul-le-mul_right {m = 1} {n = suc n} (10 ^ k) (omega arith) in
    omega (arith, f'.sfits, more, past k (big (10 ^ k) out))

-- what leaves 128 bits is beyond what stays in them
pub far_below : (v w : ℤ) (k : ℕ) → (FitsSigned w128 (raised v k) → ⊥) → FitsSigned w128 w → v <ℤ pos 0 → Less ≡ int_cmp (raised v k) w
far_below (pos n) w k out f h = absurd (omega (arith, ints))
far_below (negsuc n) (pos m) k out f h = int_cmp_is (raised (negsuc n) k) (pos m) Less (rw (raised_neg n k) (omega (arith, ints)))
far_below (negsuc n) (negsuc m) k out f h =
    let far = big_neg (suc n * 10 ^ k - 1) (λ g. out (rw (raised_neg n k) g)) in
    int_cmp_is (raised (negsuc n) k) (negsuc m) Less (rw (raised_neg n k) (omega (arith, ints, f.sfits, far)))

pub far_above : (v w : ℤ) (k : ℕ) → (FitsSigned w128 (raised v k) → ⊥) → FitsSigned w128 w → pos 0 ≤ℤ v → Greater ≡ int_cmp (raised v k) w
far_above (negsuc n) w k out f h = absurd (omega (arith, ints))
far_above (pos n) (negsuc m) k out f h = int_cmp_is (raised (pos n) k) (negsuc m) Greater (rw (raised_pos n k) (omega (arith, ints)))
far_above (pos n) (pos m) k out f h =
    let far = big (n * 10 ^ k) (λ g. out (rw (raised_pos n k) g)) in
    int_cmp_is (raised (pos n) k) (pos m) Greater (rw (raised_pos n k) (omega (arith, ints, f.sfits, far)))

-- the greater scale serves as well as the greatest
pub cmp_up : (v w : ℤ) (s z : ℕ) → s ≤ z → z ≤ 255 → int_cmp (raised v (z - s)) w ≡ int_cmp (raised v (255 - s)) (raised w (255 - z))
cmp_up v w s z less most =
    let e : z - s + (255 - z) ≡ 255 - s = omega arith in
    sym (cmp_raised (raised v (z - s)) w (255 - z)) ∙ ap (λ x. int_cmp x (raised w (255 - z))) (raised_twice v (z - s) (255 - z) ∙ ap (raised v) e)

pub cmp_down : (v w : ℤ) (s z : ℕ) → z ≤ s → s ≤ 255 → ordering_reverse (int_cmp (raised w (s - z)) v) ≡ int_cmp (raised v (255 - s)) (raised w (255 - z))
cmp_down v w s z less most = ap ordering_reverse (cmp_up w v z s less most) ∙ sym (int_cmp_total.antisymm (raised v (255 - s)) (raised w (255 - z)))

pub cmp_same : (v w : ℤ) (s z : ℕ) → s ≡ z → int_cmp v w ≡ int_cmp (raised v (255 - s)) (raised w (255 - z))
cmp_same v w s z same = rw same (sym (cmp_raised v w (255 - z)))
