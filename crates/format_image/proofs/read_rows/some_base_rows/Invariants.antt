use Rattle.std.proofs.Common.{◌≡◌, ◌-◌}
use Rattle.base_fields.specs.Readers.{times}
use Rattle.base_fields.proofs.Loops.{with_front}
use Rattle.format_image.specs.ImageReading.{base_at}
use Rattle.format_image.proofs.read_rows.some_base_rows.Given as goal

abbrev pub invariant-loop : goal.invariant-loop
invariant-loop l = with_front base_at l.rows (times base_at (l.count - l.counter) l.rest) ≡ times base_at l.count l.bytes
