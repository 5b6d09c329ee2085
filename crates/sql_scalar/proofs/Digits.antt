-- Digits and the numbers that they write.
use Rattle.std.proofs.Common.{◌≡◌, ◌<◌, ◌≤◌, ℕ, suc, ◌+◌, ◌-◌, ◌*◌, ◌^◌, true, false, List, ◌∷◌, refl, arith, lit<, None}
use Rattle.std.specs.Char.{is_ascii_digit}
use Rattle.std.proofs.lemmas.Nat.{pow-add}
use Rattle.std.proofs.Math.Nat.{pow-suc, pow-le-pow_right, mul-le-mul_right, mul-le-mul_left, mul_assoc}
use Rattle.std.proofs.lemmas.Bool.Decides.{nat_tests}
use Rattle.sql_value.specs.Literal.{digits_after}

-- one digit more
pub one_digit : (n d k : ℕ) → d ≤ 9 → (n * 10 + d + 1) * 10 ^ k ≤ (n + 1) * 10 ^ suc k
one_digit n d k small =
    let more = mul-le-mul_right {m = n * 10 + d + 1} {n = (n + 1) * 10} (10 ^ k) (omega arith) in
    let same = mul_assoc (n + 1) 10 (10 ^ k) in
    let next = pow-suc 10 k in
    rw next (omega (arith, more, same))

pub digit_read : (n d : ℕ) (ds : List ℕ) → is_ascii_digit d ≡ true → digits_after n (d ∷ ds) ≡ digits_after (n * 10 + (d - 48)) ds
digit_read n d ds h = rw h refl

pub no_digit : (n d : ℕ) (ds : List ℕ) → is_ascii_digit d ≡ false → digits_after n (d ∷ ds) ≡ None
no_digit n d ds h = rw h refl

pub small_digit : (d : ℕ) → is_ascii_digit d ≡ true → d - 48 ≤ 9
small_digit d h = grind (arith, nat_tests)

-- a number that may take k digits more, up to a limit
pub some_room : (n k top limit : ℕ) → (n + 1) * 10 ^ k ≤ top → top ≤ limit → 0 < k → n * 10 + 10 ≤ limit
some_room n k top limit room most some =
    let ten = pow-le-pow_right {n = 10} (lit< tt) {i = 1} {j = k} some in
    let product = mul-le-mul_left {m = 10} {n = 10 ^ k} (n + 1) ten in
    omega (arith, product)

pub whole_room : (k : ℕ) → k ≤ 38 → 1 * 10 ^ k ≤ 10 ^ 38
whole_room k most = omega (arith, pow-le-pow_right {n = 10} (lit< tt) {i = k} {j = 38} most)

pub fraction_room : (n j k : ℕ) → n + 1 ≤ 1 * 10 ^ j → j + k ≤ 38 → (n + 1) * 10 ^ k ≤ 10 ^ 38
fraction_room n j k few most =
    let product = mul-le-mul_right {m = n + 1} {n = 10 ^ j} (10 ^ k) (omega (arith, few)) in
    omega (arith, product, pow-add 10 j k, pow-le-pow_right {n = 10} (lit< tt) {i = j + k} {j = 38} most)
