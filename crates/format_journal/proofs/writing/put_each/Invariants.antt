use Rattle.std.proofs.Common.{◌≡◌, ◌++◌, take, flat_map}
use Rattle.format_journal.specs.Journal.{item_bytes}
use Rattle.format_journal.proofs.writing.put_each.Given as goal

abbrev pub invariant-loop-item : goal.invariant-loop-item
invariant-loop-item l = l.out.items ≡ l.initial.out.items ++ flat_map item_bytes (take l.item-index l.items)
