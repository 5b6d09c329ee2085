use Rattle.std.proofs.Common.{◌≡◌, ◌+◌, ◌-◌, ◌≤◌, length}
use Rattle.base_fields.specs.Readers.{times}
use Rattle.format_image.specs.ImageBytes.{sizes_of}
use Rattle.format_image.specs.ImageReading.{placeless_at, placed_times}
use Rattle.format_image.specs.Walk.{walked_behind}
use Rattle.format_image.proofs.read_ledger.some_entries.Given as goal

abbrev pub invariant-loop : goal.invariant-loop
invariant-loop l = record {
  read : walked_behind l.entries (sizes_of l.left) l.block l.ordinal (times placeless_at (l.count - l.counter) l.rest) ≡ placed_times (sizes_of l.blocks) l.count l.bytes;
  count : l.block + length l.left ≡ length l.blocks;
  early : l.ordinal ≤ l.counter;
}
