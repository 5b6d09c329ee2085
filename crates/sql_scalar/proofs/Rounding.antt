-- Numbers in greater units.
use Rattle.std.proofs.Common.{◌≡◌, ℕ, suc, ◌+◌, ◌/◌, ◌^◌, ◌≤◌, ◌<◌, ◌-◌, sym, ap, ◌∙◌, arith, lit<, inl, inr}
use Rattle.std.specs.Prelude.{ℤ, pos, negsuc, neg_ℤ}
use Rattle.std.proofs.Math.Nat.{pow-le-pow_right, div-lt_iff_lt-mul}
use Rattle.std.proofs.lemmas.Bool.{cases_lt}
use Rattle.sql_value.specs.Number.{raised, rounded, rounded_size, rescaled}
use Rattle.sql_value.proofs.Numbers.{ten_pos, raised_none}

-- a unit that 128 bits don't hold is of 39 places or more
pub many_places : (k : ℕ) → (10 ^ k < 2 ^ 128 → ⊥) → 39 ≤ k
many_places k out = elim (cases_lt k 39) [
  | inl few ↦ let most = pow-le-pow_right {n = 10} (lit< tt) {i = k} {j = 38} (omega arith) in absurd (out (omega (arith, most)))
  | inr many ↦ many
]

-- to such units 128 bits are rounded away
pub rounded_away : (n k : ℕ) → n ≤ 2 ^ 127 → 39 ≤ k → 0 ≡ rounded_size n k
unfolding rounded_size
rounded_away n k most many =
    let unit = pow-le-pow_right {n = 10} (lit< tt) {i = 39} {j = k} many in
    let less = (div-lt_iff_lt-mul {k = 10 ^ k} {x = n + 10 ^ k / 2} {y = 1} (ten_pos k)).1 (omega (arith, unit)) in
    omega (arith, less)

-- at one place or more a size loses a digit
pub rounded_small : (n k : ℕ) → n ≤ 2 ^ 127 → 1 ≤ k → rounded_size n k < 2 ^ 124
unfolding rounded_size
rounded_small n k most some =
    let unit = pow-le-pow_right {n = 10} (lit< tt) {i = 1} {j = k} some in
    (div-lt_iff_lt-mul {k = 10 ^ k} {x = n + 10 ^ k / 2} {y = 2 ^ 124} (ten_pos k)).1 (omega (arith, unit))

pub quotient_small : (n k unit : ℕ) → unit ≡ 10 ^ k → n ≤ 2 ^ 127 → 1 ≤ k → (n + unit / 2) / unit < 2 ^ 124
unfolding rounded_size
quotient_small n k unit is most some = rw is (rounded_small n k most some)

size_same : (n : ℕ) → rounded_size n 0 ≡ n
unfolding rounded_size
size_same n = omega arith

pub rounded_none : (v : ℤ) → v ≡ rounded v 0
rounded_none (pos n) = ap pos (sym (size_same n))
rounded_none (negsuc n) = ap (λ x. neg_ℤ (pos x)) (sym (size_same (suc n)))

pub rescaled_up : (v : ℤ) (s z : ℕ) → s ≤ z → raised v (z - s) ≡ rescaled v s z
rescaled_up v s z h = let e : s - z ≡ 0 = omega arith in rounded_none (raised v (z - s)) ∙ ap (rounded (raised v (z - s))) (sym e)

pub rescaled_down : (v : ℤ) (s z : ℕ) → z ≤ s → rounded v (s - z) ≡ rescaled v s z
rescaled_down v s z h = let e : z - s ≡ 0 = omega arith in ap (λ x. rounded x (s - z)) (sym (raised_none v) ∙ ap (raised v) (sym e))
