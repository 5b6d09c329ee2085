use Rattle.std.proofs.Common.{◌≡◌, ◌-◌}
use Rattle.base_fields.specs.Readers.{u16_at, times}
use Rattle.base_fields.proofs.Loops.{with_front}
use Rattle.format_image.proofs.read_definitions.some_ordinals.Given as goal

abbrev pub invariant-loop : goal.invariant-loop
invariant-loop l = with_front u16_at l.ordinals (times u16_at (l.count - l.counter) l.rest) ≡ times u16_at l.count l.bytes
