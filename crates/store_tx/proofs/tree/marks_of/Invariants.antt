use Rattle.std.proofs.Common.{◌≡◌, length, take}
use Rattle.store_tx.proofs.Marks.{AreMarked}
use Rattle.store_tx.proofs.tree.marks_of.Given as goal

abbrev pub invariant-loop-tree : goal.invariant-loop-tree
invariant-loop-tree g l = (length l.marks.items ≡ l.tree-index) × AreMarked g.H.Hash32.digest (take l.tree-index l.trees) l.marks.items
