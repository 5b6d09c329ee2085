-- The tree hash of two lists, the first a power of two and no shorter.
use Rattle.std.proofs.Common.{◌≡◌, ◌≤◌, ◌^◌, suc, zero, ℕ, List, [], ◌∷◌, ◌++◌, length, take, drop, refl, arith, subst, lit<, length-take, length-drop, length-append}
use Rattle.std.proofs.Math.Seq.{take-append_seam, drop-append_seam}
use Rattle.std.proofs.Math.Nat.{one-le-pow}
use Rattle.base_merkle.specs.TreeHash.{split_of, tree_hash, tree_hash_within}
use Rattle.base_merkle.proofs.Split.{split_is, split_at}

fuel : (h : List ℕ → List ℕ) (d e : ℕ) (leaves : List (List ℕ)) → length leaves ≤ d → length leaves ≤ e
    → tree_hash_within h d leaves ≡ tree_hash_within h e leaves
fuel h d e [] ld le = refl
fuel h d e (x ∷ []) ld le = refl
fuel h zero e (x ∷ y ∷ ls) ld le = absurd (omega arith)
fuel h (suc d) zero (x ∷ y ∷ ls) ld le = absurd (omega arith)
fuel h (suc d) (suc e) (x ∷ y ∷ ls) ld le =
    let all : List (List ℕ) = x ∷ y ∷ ls in
    let s = split_is (length all) (omega arith) in
    let some : 1 ≤ 2 ^ s.height = one-le-pow s.height 2 (lit< tt) in
    let front = length-take (split_of (length all)) all in
    let back = length-drop (split_of (length all)) all in
    let one = fuel h d e (take (split_of (length all)) all) (omega (arith, s.power, s.below)) (omega (arith, s.power, s.below)) in
    let two = fuel h d e (drop (split_of (length all)) all) (omega (arith, s.power, s.below)) (omega (arith, s.power, s.below)) in
    rw (one, two) refl

-- the equation of the tree hash for two leaves and more
pub tree_hash_two : (h : List ℕ → List ℕ) (all : List (List ℕ)) → 2 ≤ length all
    → tree_hash h all ≡ h (1 ∷ tree_hash h (take (split_of (length all)) all) ++ tree_hash h (drop (split_of (length all)) all))
tree_hash_two h [] l = absurd (omega arith)
tree_hash_two h (x ∷ []) l = absurd (omega arith)
tree_hash_two h (x ∷ y ∷ ls) l =
    let all : List (List ℕ) = x ∷ y ∷ ls in
    let s = split_is (length all) l in
    let some : 1 ≤ 2 ^ s.height = one-le-pow s.height 2 (lit< tt) in
    let front = length-take (split_of (length all)) all in
    let back = length-drop (split_of (length all)) all in
    let one = fuel h (suc (length ls)) (length (take (split_of (length all)) all)) (take (split_of (length all)) all) (omega (arith, s.power, s.below)) (omega arith) in
    let two = fuel h (suc (length ls)) (length (drop (split_of (length all)) all)) (drop (split_of (length all)) all) (omega (arith, s.power, s.below)) (omega arith) in
    rw (one, two) refl

pub tree_hash_join : (h : List ℕ → List ℕ) (c d : List (List ℕ)) (a : ℕ) → length c ≡ 2 ^ a → 1 ≤ length d
    → length d ≤ length c → tree_hash h (c ++ d) ≡ h (1 ∷ tree_hash h c ++ tree_hash h d)
tree_hash_join h c d a power some few =
    let len = length-append c d in
    let one : 1 ≤ 2 ^ a = one-le-pow a 2 (lit< tt) in
    let split : split_of (length (c ++ d)) ≡ length c = rw (len, power, split_at a (length d) some (omega arith)) refl in
    let two = tree_hash_two h (c ++ d) (omega arith) in
    let K : ℕ → Type 0 = λ k. tree_hash h (c ++ d) ≡ h (1 ∷ tree_hash h (take k (c ++ d)) ++ tree_hash h (drop k (c ++ d))) in
    let F : List (List ℕ) → Type 0 = λ x. tree_hash h (c ++ d) ≡ h (1 ∷ tree_hash h x ++ tree_hash h (drop (length c) (c ++ d))) in
    let B : List (List ℕ) → Type 0 = λ x. tree_hash h (c ++ d) ≡ h (1 ∷ tree_hash h c ++ tree_hash h x) in
    subst B (drop-append_seam c d) (subst F (take-append_seam c d) (subst K split two))
