-- The largest power of two below a number.
use Rattle.std.proofs.Common.{◌≡◌, ◌≤◌, ◌<◌, ◌+◌, ◌*◌, ◌^◌, suc, zero, ℕ, Bool, true, false, cond, nat_lt, refl, arith, subst, lit<}
use Rattle.std.proofs.lemmas.Bool.Decides.{nat_tests}
use Rattle.std.proofs.Math.Nat.{pow-le-pow_right, pow-succ', one-le-pow}
use Rattle.base_merkle.specs.TreeHash.{split_of}

-- k is a power of two below n, and n is at most its double
pub record IsSplit (n k : ℕ) : Type 0 where
  pub height : ℕ
  pub power : k ≡ 2 ^ height
  pub below : k < n
  pub double : n ≤ 2 * k

-- the same from n on, where n may still be small
record IsNear (n k : ℕ) : Type 0 where
  pub height : ℕ
  pub power : k ≡ 2 ^ height
  small : n ≤ 1 → k ≡ 1
  below : 2 ≤ n → k < n
  pub double : n ≤ 2 * k

below_at : (n k : ℕ) → IsNear n k → 2 ≤ suc n → k < suc n
below_at zero k near l = absurd (omega arith)
below_at (suc zero) k near l = let one : k ≡ 1 = near.small (omega arith) in omega arith
below_at (suc (suc n)) k near l = let lt : k < suc (suc n) = near.below (omega arith) in omega arith

step : (n k : ℕ) (b : Bool) → nat_lt (2 * k) (suc n) ≡ b → IsNear n k → IsNear (suc n) (cond b (2 * k) k)
step n k true t near =
    let lt : 2 * k < suc n = grind (arith, nat_tests) in
    let some : 1 ≤ 2 ^ near.height = one-le-pow near.height 2 (lit< tt) in
    let pos : 1 ≤ k = omega (arith, near.power) in
    record {
      height = suc near.height;
      power = rw (pow-succ' 2 near.height, ← near.power) refl;
      small = λ l. absurd (omega arith);
      below = λ l. lt;
      double = omega (arith, near.double);
    }
step n k false t near =
    let le : suc n ≤ 2 * k = grind (arith, nat_tests) in
    record {
      height = near.height;
      power = near.power;
      small = λ l. near.small (omega arith);
      below = λ l. below_at n k near l;
      double = le;
    }

near_of : (n : ℕ) → IsNear n (split_of n)
near_of zero = record { height = 0; power = refl; small = λ l. refl; below = λ l. absurd (omega arith); double = omega arith }
near_of (suc n) = step n (split_of n) (nat_lt (2 * split_of n) (suc n)) refl (near_of n)

pub split_is : (n : ℕ) → 2 ≤ n → IsSplit n (split_of n)
split_is n two = let near = near_of n in record { height = near.height; power = near.power; below = near.below two; double = near.double }

-- powers that enclose one number are one
not_less : (n a b : ℕ) → a < b → 2 ^ b < n → n ≤ 2 * 2 ^ a → ⊥
not_less n a b lt below double =
    let le : 2 ^ suc a ≤ 2 ^ b = pow-le-pow_right {n = 2} (lit< tt) (omega arith) in
    let two : 2 ^ suc a ≡ 2 * 2 ^ a = pow-succ' 2 a in
    omega arith

same_height : (n a b : ℕ) → 2 ^ a < n → n ≤ 2 * 2 ^ a → 2 ^ b < n → n ≤ 2 * 2 ^ b → a ≡ b
same_height n a b la da lb db =
    let one : a < b → ⊥ = λ lt. not_less n a b lt lb da in
    let two : b < a → ⊥ = λ lt. not_less n b a lt la db in
    omega (arith, one, two)

pub split_at : (a r : ℕ) → 1 ≤ r → r ≤ 2 ^ a → split_of (2 ^ a + r) ≡ 2 ^ a
split_at a r some few =
    let one : 1 ≤ 2 ^ a = one-le-pow a 2 (lit< tt) in
    let s = split_is (2 ^ a + r) (omega arith) in
    let same : s.height ≡ a = same_height (2 ^ a + r) s.height a (rw (← s.power) s.below) (rw (← s.power) s.double) (omega arith) (omega arith) in
    let P : ℕ → Type 0 = λ x. split_of (2 ^ a + r) ≡ 2 ^ x in
    subst P same s.power

pub split_of_is : (n a : ℕ) → 2 ^ a < n → n ≤ 2 * 2 ^ a → split_of n ≡ 2 ^ a
split_of_is n a lt le =
    let one : 1 ≤ 2 ^ a = one-le-pow a 2 (lit< tt) in
    let s = split_is n (omega arith) in
    let same : s.height ≡ a = same_height n s.height a (rw (← s.power) s.below) (rw (← s.power) s.double) lt le in
    let P : ℕ → Type 0 = λ x. split_of n ≡ 2 ^ x in
    subst P same s.power
