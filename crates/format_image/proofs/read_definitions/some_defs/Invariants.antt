use Rattle.std.proofs.Common.{◌≡◌, ◌-◌}
use Rattle.base_fields.specs.Readers.{times}
use Rattle.base_fields.proofs.Loops.{with_front}
use Rattle.format_image.specs.ImageReading.{def_at}
use Rattle.format_image.proofs.read_definitions.some_defs.Given as goal

abbrev pub invariant-loop : goal.invariant-loop
invariant-loop l =
    with_front (def_at l.version) l.defs (times (def_at l.version) (l.count - l.counter) l.rest) ≡ times (def_at l.version) l.count l.bytes
