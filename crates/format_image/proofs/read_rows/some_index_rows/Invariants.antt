use Rattle.std.proofs.Common.{◌≡◌, ◌-◌}
use Rattle.base_fields.specs.Readers.{times}
use Rattle.base_fields.proofs.Loops.{with_front}
use Rattle.format_image.specs.ImageReading.{values_at}
use Rattle.format_image.proofs.read_rows.some_index_rows.Given as goal

abbrev pub invariant-loop : goal.invariant-loop
invariant-loop l = with_front values_at l.rows (times values_at (l.count - l.counter) l.rest) ≡ times values_at l.count l.bytes
