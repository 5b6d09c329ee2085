use Rattle.std.proofs.Common.{◌≡◌, ◌++◌, drop, filter}
use Rattle.audit_roots.specs.Marks.{is_start}
use Rattle.audit_roots.proofs.hashes.starts_of.Given as goal

abbrev pub invariant-loop-mark : goal.invariant-loop-mark
invariant-loop-mark l = l.starts.items ++ filter is_start (drop l.mark-index l.marks) ≡ filter is_start l.marks
