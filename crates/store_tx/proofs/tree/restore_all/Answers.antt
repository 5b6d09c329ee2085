use Rattle.std.proofs.Common.{rules}
use Rattle.std.specs.Option.{option_copied}
use Rattle.store_tx.proofs.Marks.{step_back, back_leaves, back_tables}
use Rattle.store_tx.proofs.tree.restore_all.Goals as goal

pub loop-place-preserved : goal.loop-place-preserved
loop-place-preserved g c = step_back g.H.Hash32.digest c.args.hasher c.loop-place.place c.args.trees.now.items c.args.marks.now c.loop-place.trees.items c.index_mut.result.now
    c.restore.new.tree (option_copied c.mark_at.result) (search rules) c.index_mut.ensures.value c.mark_at.ensures c.restore.ensures c.loop-place.invariant.0 c.loop-place.invariant.1

pub returns-clause-leaves : goal.returns-clause-leaves
returns-clause-leaves g c = λ id leaves before k l. back_leaves g.H.Hash32.digest c.args.hasher c.loop-place.place c.args.trees.now.items c.args.marks.now c.loop-place.trees.items
    id leaves before (search rules) c.loop-place.invariant.1 k l

pub returns-clause-tables : goal.returns-clause-tables
returns-clause-tables g c = back_tables g.H.Hash32.digest c.args.hasher c.loop-place.place c.args.trees.now.items c.args.marks.now c.loop-place.trees.items c.loop-place.invariant.1
