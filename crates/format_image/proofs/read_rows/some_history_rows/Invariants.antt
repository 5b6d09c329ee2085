use Rattle.std.proofs.Common.{◌≡◌, ◌-◌}
use Rattle.base_fields.specs.Readers.{times}
use Rattle.base_fields.proofs.Loops.{with_front}
use Rattle.format_image.specs.ImageReading.{history_at}
use Rattle.format_image.proofs.read_rows.some_history_rows.Given as goal

abbrev pub invariant-loop : goal.invariant-loop
invariant-loop l = with_front history_at l.rows (times history_at (l.count - l.counter) l.rest) ≡ times history_at l.count l.bytes
