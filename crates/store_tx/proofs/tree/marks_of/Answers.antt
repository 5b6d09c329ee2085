use Rattle.std.proofs.Common.{rules}
use Rattle.store_tx.proofs.Marks.{marks_more, marks_all}
use Rattle.store_tx.proofs.tree.marks_of.Goals as goal

pub loop-tree-preserved : goal.loop-tree-preserved
loop-tree-preserved g c = marks_more g.H.Hash32.digest c.args.trees.now c.loop-tree.tree-index c.tree-item.result c.loop-tree.marks.items c.push.new.self.items c.save.result
    (search rules) c.tree-item.is c.loop-tree.invariant.0 c.loop-tree.invariant.1 c.in_ok-push.ensures.items c.save.ensures

pub returns-clause-marks : goal.returns-clause-marks
returns-clause-marks g c = marks_all g.H.Hash32.digest c.args.trees.now c.loop-tree.tree-index c.loop-tree.marks.items (search rules) c.loop-tree.invariant.1
