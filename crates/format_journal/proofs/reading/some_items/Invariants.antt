use Rattle.std.proofs.Common.{◌≡◌, ◌-◌}
use Rattle.base_fields.specs.Readers.{times}
use Rattle.base_fields.proofs.Loops.{with_front}
use Rattle.format_journal.specs.JournalReading.{item_at}
use Rattle.format_journal.proofs.reading.some_items.Given as goal

abbrev pub invariant-loop : goal.invariant-loop
invariant-loop l =
    with_front item_at l.items (times item_at (l.count - l.counter) l.rest) ≡ times item_at l.count l.bytes
