use Rattle.std.proofs.Common.{◌≡◌, map, take}
use Rattle.format_entry.specs.Entry.{entry_bytes}
use Rattle.audit_receipt.proofs.leaves.entry_leaves.Given as goal

abbrev pub invariant-loop-entry : goal.invariant-loop-entry
invariant-loop-entry l = l.leaves.items ≡ map entry_bytes (take l.entry-index l.entries)
