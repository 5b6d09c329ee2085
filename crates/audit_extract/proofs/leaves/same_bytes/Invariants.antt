use Rattle.std.proofs.Common.{◌≡◌, length, take}
use Rattle.audit_extract.specs.Leaves.{bytes_of}
use Rattle.audit_extract.proofs.leaves.same_bytes.Given as goal

abbrev pub invariant-loop-i : goal.invariant-loop-i
invariant-loop-i l = (length l.a ≡ length l.b) × (bytes_of (take l.i l.a) ≡ bytes_of (take l.i l.b))
