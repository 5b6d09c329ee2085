use Rattle.std.proofs.Common.{◌≡◌, ◌≤◌, ◌-◌, length, map, take}
use Rattle.audit_roots.specs.Marks.{leaf_hash}
use Rattle.audit_roots.proofs.hashes.leaf_hashes.Given as goal

abbrev pub invariant-parts : goal.invariant-parts
invariant-parts g l = (l.done ≤ length l.marks)
    × (l.hashes.items ≡ map (leaf_hash (g.H.Hash32.digest l.hasher)) (take l.done l.marks))

abbrev pub decreases-parts : goal.decreases-parts
decreases-parts g l = length l.marks - l.done
