-- What is in range.
use Rattle.std.proofs.Common.{◌≡◌, ℕ, suc, ◌^◌, ◌≤◌, arith, lit<, true, false}
use Rattle.std.specs.Prelude.{ℤ, pos, negsuc, FitsSigned}
use Rattle.std.specs.Int.{w128}
use Rattle.std.proofs.Math.Nat.{pow-le-pow_right}
use Rattle.std.proofs.lemmas.Bool.{le-ltb}
use Rattle.std.proofs.lemmas.Bool.Decides.{nat_tests}
use Rattle.sql_value.specs.declared.sql_type.SqlType.TheVariants as t
use Rattle.sql_value.specs.Number.{has_digits}
use Rattle.sql_value.specs.Stored.{is_in_range}
use Rattle.sql_value.proofs.Numbers.{big, big_neg}

-- the parameters of a DECIMAL in range
pub decimal_range : (p s : ℕ) → is_in_range (t.Decimal p s) ≡ true → (p ≤ 38) × (s ≤ 38)
unfolding is_in_range
decimal_range p s h = grind (arith, nat_tests)

-- what leaves 128 bits has more than 38 digits
pub many_digits : (x : ℤ) (p : ℕ) → p ≤ 38 → (FitsSigned w128 x → ⊥) → has_digits x p ≡ false
many_digits (pos n) p most out =
    let unit = pow-le-pow_right {n = 10} (lit< tt) {i = p} {j = 38} most in
    le-ltb n (10 ^ p) (omega (arith, big n out, unit))
many_digits (negsuc n) p most out =
    let unit = pow-le-pow_right {n = 10} (lit< tt) {i = p} {j = 38} most in
    le-ltb (suc n) (10 ^ p) (omega (arith, big_neg n out, unit))
