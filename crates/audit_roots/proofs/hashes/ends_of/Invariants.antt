use Rattle.std.proofs.Common.{◌≡◌, ◌++◌, drop, filter}
use Rattle.audit_roots.specs.Marks.{is_end}
use Rattle.audit_roots.proofs.hashes.ends_of.Given as goal

abbrev pub invariant-loop-mark : goal.invariant-loop-mark
invariant-loop-mark l = l.ends.items ++ filter is_end (drop l.mark-index l.marks) ≡ filter is_end l.marks
