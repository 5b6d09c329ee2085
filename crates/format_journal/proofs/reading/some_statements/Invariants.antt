use Rattle.std.proofs.Common.{◌≡◌, ◌-◌}
use Rattle.base_fields.specs.Readers.{times}
use Rattle.base_fields.proofs.Loops.{with_front}
use Rattle.format_journal.specs.JournalReading.{statement_at}
use Rattle.format_journal.proofs.reading.some_statements.Given as goal

abbrev pub invariant-loop : goal.invariant-loop
invariant-loop l =
    with_front statement_at l.script (times statement_at (l.count - l.counter) l.rest)
    ≡ times statement_at l.count l.bytes
