use Rattle.store_table.proofs.Carrying.{carrying_one}
use Rattle.store_table.proofs.version_store.VersionStore.carry_out.Goals as goal

pub loop-change-preserved : goal.loop-change-preserved
loop-change-preserved c =
    carrying_one c.args.tx c.args.seq c.loop-change.number c.args.changes c.loop-change.change-iterator.rest.items c.next.new.self.rest.items c.in-Some.change c.args.self.now c.loop-change.self
    c.in-Some.ensures.steps.0 c.loop-change.invariant c.carry_out_one.new.self c.carry_out_one.ensures.stored c.carry_out_one.ensures.room
