use Rattle.std.proofs.Common.{◌≡◌, length}
use Rattle.store_tx.proofs.Marks.{AreBack}
use Rattle.store_tx.proofs.tree.restore_all.Given as goal

abbrev pub invariant-loop-place : goal.invariant-loop-place
invariant-loop-place g l = (length l.trees.items ≡ length l.fn.trees.items) × AreBack g.H.Hash32.digest l.fn.hasher l.place l.fn.trees.items l.marks l.trees.items
