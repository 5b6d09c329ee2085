use Rattle.std.proofs.Common.{◌≡◌, map, take}
use Rattle.audit_roots.specs.Marks.{number_of}
use Rattle.audit_roots.proofs.roots.put_numbers.Given as goal

abbrev pub invariant-loop-mark : goal.invariant-loop-mark
invariant-loop-mark l = l.numbers.items ≡ map number_of (take l.mark-index l.marks)
