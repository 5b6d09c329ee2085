use Rattle.std.proofs.Common.{length, ◌-◌, ◌≡◌, ◌≤◌, ◌++◌, take, drop}
use Rattle.store_order.specs.Packed.{carried}
use Rattle.store_order.proofs.pieces.carry_on.Given as goal

abbrev pub invariant-loop-place : goal.invariant-loop-place
invariant-loop-place l = record {
  within : l.place ≤ length l.pieces;
  count : length l.pieces ≡ length l.initial.pieces;
  same : take l.place l.pieces ++ carried 512 l.carry (drop l.place l.pieces) ≡ take l.initial.from l.initial.pieces ++ carried 512 l.initial.carry (drop l.initial.from l.initial.pieces);
}

abbrev pub decreases-loop-place : goal.decreases-loop-place
decreases-loop-place l = length l.initial.pieces - l.place
