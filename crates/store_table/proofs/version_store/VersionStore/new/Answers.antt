use Rattle.std.proofs.Common.{arith, ap, length}
use Rattle.store_table.proofs.Steps.{nothing_kept, no_room}
use Rattle.store_table.proofs.version_store.VersionStore.new.Goals as goal

pub invariant_of-result : goal.invariant_of-result
invariant_of-result c =
    let none = ap length c.new-2.ensures.items in (
      nothing_kept _ _ _ c.new-2.ensures.items c.new-3.ensures c.new-4.ensures c.new-5.ensures.items c.new-6.ensures.items,
      omega (arith, none),
      no_room _ _ (omega (arith, none)) c.new-6.ensures.items,
    )
