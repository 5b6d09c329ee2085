use Rattle.std.proofs.Common.{length, max, ◌-◌, ◌≡◌, ◌≤◌}
use Rattle.store_order.specs.Packed.{IsPacked, flat}
use Rattle.store_order.proofs.pieces.add_pieces.Given as goal

abbrev pub invariant-loop-alloc : goal.invariant-loop-alloc
invariant-loop-alloc l = record {
  packed : IsPacked 512 l.pieces.items;
  list : flat l.pieces.items ≡ flat l.initial.pieces.items;
  more : length l.initial.pieces.items ≤ length l.pieces.items;
  most : length l.pieces.items ≤ max l.count (length l.initial.pieces.items);
}

abbrev pub decreases-loop-alloc : goal.decreases-loop-alloc
decreases-loop-alloc l = l.count - length l.pieces.items
