use Rattle.std.proofs.Common.{◌≡◌, ◌-◌}
use Rattle.base_fields.specs.Readers.{times}
use Rattle.base_fields.proofs.Loops.{with_front}
use Rattle.format_event.specs.LeafReading.{column_at}
use Rattle.format_event.proofs.reading.some_columns.Given as goal

abbrev pub invariant-loop : goal.invariant-loop
invariant-loop l = with_front column_at l.columns (times column_at (l.count - l.counter) l.rest) ≡ times column_at l.count l.bytes
