use Rattle.std.proofs.Common.{◌≡◌, ◌++◌, drop}
use Rattle.audit_roots.specs.Marks.{woven}
use Rattle.audit_roots.proofs.hashes.woven.Given as goal

abbrev pub invariant-loop-mark : goal.invariant-loop-mark
invariant-loop-mark l = l.hashes.items ++ woven (drop l.mark-index l.marks) l.starts l.ends ≡ woven l.marks l.fn.starts l.fn.ends
