use Rattle.std.specs.List.{remove}
use Rattle.store_table.specs.Kept.{IsOf}
use Rattle.store_table.proofs.Passing.{Passing}
use Rattle.store_table.proofs.index.take_start_from_all.Given as goal

abbrev pub invariant-loop-index : goal.invariant-loop-index
invariant-loop-index l =
    Passing (λ i. i.ordinals) (IsOf l.key (remove l.versions l.place)) (IsOf l.key l.versions) l.fn.indexes.items l.index-items l.index-index
