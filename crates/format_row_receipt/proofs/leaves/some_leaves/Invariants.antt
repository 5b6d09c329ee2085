use Rattle.std.proofs.Common.{◌≡◌, ◌-◌}
use Rattle.base_fields.specs.Readers.{times}
use Rattle.base_fields.proofs.Loops.{with_front}
use Rattle.base_fields.specs.Readers.{long_at}
use Rattle.format_row_receipt.proofs.leaves.some_leaves.Given as goal

abbrev pub invariant-loop : goal.invariant-loop
invariant-loop l =
    with_front long_at l.leaves (times long_at (l.count - l.counter) l.rest) ≡ times long_at l.count l.bytes
