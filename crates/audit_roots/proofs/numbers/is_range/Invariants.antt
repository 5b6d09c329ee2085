use Rattle.std.proofs.Common.{◌≡◌, drop}
use Rattle.audit_roots.specs.Numbered.{is_range}
use Rattle.audit_roots.proofs.numbers.is_range.Given as goal

abbrev pub invariant-loop-i : goal.invariant-loop-i
invariant-loop-i l = is_range l.i (drop l.i l.numbers) ≡ is_range 0 l.numbers
