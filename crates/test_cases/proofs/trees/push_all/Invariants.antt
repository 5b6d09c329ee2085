use Rattle.std.proofs.Common.{◌≡◌, ◌+◌, ℕ, List}
use Rattle.base_merkle.specs.Holds.{Holds}
use Rattle.test_cases.proofs.trees.push_all.Given as goal

abbrev pub invariant-loop-leaf : goal.invariant-loop-leaf
invariant-loop-leaf g l =
    ((h : g.row.H.Denot) × (so_far : List (List ℕ)) × Holds g.H.Hash32.digest h l.tree so_far) × (l.tree.count ≡ l.initial.tree.count + l.leaf-index)
