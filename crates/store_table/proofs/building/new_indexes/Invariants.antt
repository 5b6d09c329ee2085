use Rattle.std.proofs.Common.{◌≡◌, length, map, take}
use Rattle.std.specs.List.{AllByRecursion}
use Rattle.store_table.specs.Kept.{HasCapacity, IsOf, ordinals_of}
use Rattle.store_table.proofs.building.new_indexes.Given as goal

abbrev pub invariant-loop-def : goal.invariant-loop-def
invariant-loop-def l = record {
  of : AllByRecursion (IsOf l.key l.versions) l.indexes.items;
  ordinals : ordinals_of l.indexes.items ≡ map (λ d. d.ordinals) (take l.def-index l.defs);
  room : AllByRecursion (HasCapacity (length l.versions)) l.indexes.items;
}
