use Rattle.store_locks.proofs.Kept.{kept_none}
use Rattle.store_locks.proofs.list.LockList.new.Goals as goal

pub invariant_of-result : goal.invariant_of-result
invariant_of-result c = rw (c.new.ensures.items, c.new-2.ensures.items, c.new-3.ensures.items, c.new-4.ensures.items) kept_none
