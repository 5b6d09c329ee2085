use Rattle.store_table.specs.Kept.{HasCapacity, index_seen}
use Rattle.store_table.proofs.Passing.{Passing}
use Rattle.store_table.proofs.index.reserve_indexes.Given as goal

abbrev pub invariant-loop-index : goal.invariant-loop-index
invariant-loop-index l = Passing index_seen (HasCapacity l.count) (λ i. Unit {0}) l.fn.indexes.items l.index-items l.index-index
