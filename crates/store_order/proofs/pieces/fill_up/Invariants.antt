use Rattle.std.proofs.Common.{length, ◌-◌, ◌≡◌, ◌<◌, ◌++◌, take, drop}
use Rattle.store_order.specs.Packed.{filled}
use Rattle.store_order.proofs.pieces.fill_up.Given as goal

abbrev pub invariant-loop-place : goal.invariant-loop-place
invariant-loop-place l = record {
  within : l.place < length l.pieces;
  count : length l.pieces ≡ length l.initial.pieces;
  same : take l.place l.pieces ++ filled 512 (drop l.place l.pieces) ≡ take l.initial.from l.initial.pieces ++ filled 512 (drop l.initial.from l.initial.pieces);
}

abbrev pub decreases-loop-place : goal.decreases-loop-place
decreases-loop-place l = length l.initial.pieces - l.place
