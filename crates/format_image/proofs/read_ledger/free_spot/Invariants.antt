use Rattle.std.proofs.Common.{◌≡◌, ◌+◌, ◌≤◌, length}
use Rattle.format_image.specs.ImageBytes.{sizes_of}
use Rattle.format_image.specs.Walk.{free_spot}
use Rattle.format_image.proofs.read_ledger.free_spot.Given as goal

abbrev pub invariant-loop-record : goal.invariant-loop-record
invariant-loop-record l = record {
  spot : free_spot (sizes_of l.left) l.at l.place ≡ free_spot (sizes_of l.blocks) l.block l.ordinal;
  count : l.at + length l.left ≡ l.block + length l.blocks;
  early : l.place ≤ l.ordinal;
}

abbrev pub decreases-loop-record : goal.decreases-loop-record
decreases-loop-record l = length l.left
