use Rattle.std.proofs.Common.{rules}
use Rattle.store_table.specs.Undoing.{NoStartUndone}
use Rattle.store_table.proofs.UndoSteps.{undoing_first, undoing_start, fewer_versions, ends_stay, undone_all}
use Rattle.store_table.proofs.version_store.VersionStore.undo_starts.Goals as goal

pub loop-place-init : goal.loop-place-init
loop-place-init c = (undoing_first c.args.tx c.args.seq c.args.self.now c.orders_follow.ensures, c.requires)

pub loop-place-preserved : goal.loop-place-preserved
loop-place-preserved c =
    let one = c.in-Some.ensures.some in (
      undoing_start c.args.tx c.args.seq c.args.self.now c.loop-place.self c.withdraw.new.self c.in-Some.place c.loop-place.invariant.0 c.withdraw.ensures.room one c.withdraw.ensures.stored,
      ends_stay c.args.tx c.args.seq c.args.self.now c.loop-place.self c.withdraw.new.self c.in-Some.place c.loop-place.invariant.0 c.withdraw.ensures.room one c.withdraw.ensures.stored c.loop-place.invariant.1,
    )

pub loop-place-smaller : goal.loop-place-smaller
loop-place-smaller c =
    fewer_versions c.args.tx c.args.seq c.args.self.now c.loop-place.self c.withdraw.new.self c.in-Some.place c.loop-place.invariant.0 c.withdraw.ensures.room c.in-Some.ensures.some c.withdraw.ensures.stored

pub returns-clause-stored : goal.returns-clause-stored
returns-clause-stored c =
    let none : NoStartUndone c.args.tx c.args.seq c.loop-place.self.stored.versions = search rules in
    undone_all c.args.tx c.args.seq c.args.self.now c.loop-place.self c.loop-place.invariant.0 c.loop-place.invariant.1 none
