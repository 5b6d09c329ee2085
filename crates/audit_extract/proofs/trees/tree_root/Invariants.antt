use Rattle.std.proofs.Common.{take}
use Rattle.base_merkle.specs.Holds.{Holds}
use Rattle.audit_extract.proofs.trees.tree_root.Given as goal

abbrev pub invariant-loop-leaf : goal.invariant-loop-leaf
invariant-loop-leaf g l = Holds g.H.Hash32.digest l.fn.h l.tree (take l.leaf-index l.leaves)
