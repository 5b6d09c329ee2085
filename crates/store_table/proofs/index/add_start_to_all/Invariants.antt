use Rattle.std.proofs.Common.{◌+◌, length}
use Rattle.spec_model.specs.Rows.{live}
use Rattle.store_table.specs.Kept.{HasCapacity, IsOf, IsWith}
use Rattle.store_table.proofs.Passing.{Passing}
use Rattle.store_table.proofs.index.add_start_to_all.Given as goal

abbrev pub invariant-loop-index : goal.invariant-loop-index
invariant-loop-index l =
    Passing (λ i. i.ordinals) (IsWith l.key l.version l.versions) (λ i. IsOf l.key l.versions i × HasCapacity (length (live l.versions) + 1) i)
    l.fn.indexes.items l.index-items l.index-index
