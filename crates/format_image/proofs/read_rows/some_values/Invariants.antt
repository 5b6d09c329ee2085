use Rattle.std.proofs.Common.{◌≡◌, ◌-◌}
use Rattle.base_fields.specs.Readers.{times}
use Rattle.base_fields.proofs.Loops.{with_front}
use Rattle.format_image.specs.ImageReading.{value_at}
use Rattle.format_image.proofs.read_rows.some_values.Given as goal

abbrev pub invariant-loop : goal.invariant-loop
invariant-loop l = with_front value_at l.values (times value_at (l.count - l.counter) l.rest) ≡ times value_at l.count l.bytes
