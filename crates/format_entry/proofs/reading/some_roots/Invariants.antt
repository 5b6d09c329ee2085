use Rattle.std.proofs.Common.{◌≡◌, ◌-◌}
use Rattle.base_fields.specs.Readers.{times}
use Rattle.base_fields.proofs.Loops.{with_front}
use Rattle.format_entry.specs.EntryReading.{root_at}
use Rattle.format_entry.proofs.reading.some_roots.Given as goal

abbrev pub invariant-loop : goal.invariant-loop
invariant-loop l =
    with_front root_at l.roots (times root_at (l.count - l.counter) l.rest) ≡ times root_at l.count l.bytes
