use Rattle.std.proofs.Common.{◌≡◌, take}
use Rattle.audit_extract.specs.Leaves.{bytes_of}
use Rattle.audit_extract.proofs.leaves.copied.Given as goal

abbrev pub invariant-loop-leaf : goal.invariant-loop-leaf
invariant-loop-leaf l = l.blobs.items ≡ bytes_of (take l.leaf-index l.leaves)
