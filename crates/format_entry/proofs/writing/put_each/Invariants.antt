use Rattle.std.proofs.Common.{◌≡◌, ◌++◌, take, flat_map}
use Rattle.format_entry.specs.Entry.{root_bytes}
use Rattle.format_entry.proofs.writing.put_each.Given as goal

abbrev pub invariant-loop-root : goal.invariant-loop-root
invariant-loop-root l = l.out.items ≡ l.initial.out.items ++ flat_map root_bytes (take l.root-index l.roots)
