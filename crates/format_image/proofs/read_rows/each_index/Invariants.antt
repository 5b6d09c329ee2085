use Rattle.std.proofs.Common.{◌≡◌, length}
use Rattle.base_fields.specs.Readers.{for_each}
use Rattle.format_image.specs.ImageReading.{behind, index_rows_at}
use Rattle.format_image.proofs.read_rows.each_index.Given as goal

abbrev pub invariant-loop-index : goal.invariant-loop-index
invariant-loop-index l = behind l.all (for_each index_rows_at l.left l.rest) ≡ for_each index_rows_at l.indexes l.bytes

abbrev pub decreases-loop-index : goal.decreases-loop-index
decreases-loop-index l = length l.left
