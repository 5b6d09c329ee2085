use Rattle.std.proofs.Common.{◌≡◌, ◌^◌, ◌≤◌, ℕ, ◌∷◌, ◌++◌, take, drop, length, subst, arith, lit<}
use Rattle.std.proofs.Math.Nat.{one-le-pow}
use Rattle.base_merkle.specs.TreeHash.{tree_hash}
use Rattle.base_merkle.proofs.Split.{split_of_is}
use Rattle.base_merkle.proofs.Trees.{tree_hash_two}
use Rattle.base_merkle.proofs.law.tree_hash_law.Goals as goal

pub returns-clause-more : goal.returns-clause-more
returns-clause-more c = λ h all height lt le.
    let one : 1 ≤ 2 ^ height = one-le-pow height 2 (lit< tt) in
    let K : ℕ → Type 0 = λ k. tree_hash h all ≡ h (1 ∷ tree_hash h (take k all) ++ tree_hash h (drop k all)) in
    subst K (split_of_is (length all) height lt le) (tree_hash_two h all (omega arith))
