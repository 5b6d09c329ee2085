use Rattle.store_table.proofs.UndoSteps.{undoing_first, undoing_end, fewer_ends}
use Rattle.store_table.proofs.version_store.VersionStore.undo_ends.Goals as goal

pub loop-place-init : goal.loop-place-init
loop-place-init c = undoing_first c.args.tx c.args.seq c.args.self.now c.orders_follow.ensures

pub loop-place-preserved : goal.loop-place-preserved
loop-place-preserved c =
    undoing_end c.args.tx c.args.seq c.args.self.now c.loop-place.self c.reopen.new.self c.in-Some.place c.loop-place.invariant c.reopen.ensures.room c.in-Some.ensures.some c.reopen.ensures.stored

pub loop-place-smaller : goal.loop-place-smaller
loop-place-smaller c =
    fewer_ends c.args.tx c.args.seq c.args.self.now c.loop-place.self c.reopen.new.self c.in-Some.place c.loop-place.invariant c.reopen.ensures.room c.in-Some.ensures.some c.reopen.ensures.stored
