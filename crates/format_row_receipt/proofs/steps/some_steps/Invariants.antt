use Rattle.std.proofs.Common.{◌≡◌, ◌-◌}
use Rattle.base_fields.specs.Readers.{times}
use Rattle.base_fields.proofs.Loops.{with_front}
use Rattle.format_row_receipt.specs.RowReading.{step_at}
use Rattle.format_row_receipt.proofs.steps.some_steps.Given as goal

abbrev pub invariant-loop : goal.invariant-loop
invariant-loop l =
    with_front step_at l.steps (times step_at (l.count - l.counter) l.rest) ≡ times step_at l.count l.bytes
