use Rattle.std.proofs.Common.{◌≡◌, ◌≤◌, ◌-◌, length, map, take}
use Rattle.audit_roots.specs.Marks.{leaf_hash}
use Rattle.audit_roots.proofs.hashes.hashes_in_fours.Given as goal

abbrev pub invariant-fours : goal.invariant-fours
invariant-fours g l = (l.done ≤ length l.marks)
    × (l.hashes.items ≡ map (leaf_hash (g.H.Hash32.digest l.hasher)) (take l.done l.marks))

abbrev pub decreases-fours : goal.decreases-fours
decreases-fours g l = length l.marks - l.done

abbrev pub invariant-rest : goal.invariant-rest
invariant-rest g l = (l.done ≤ length l.marks)
    × (l.hashes.items ≡ map (leaf_hash (g.H.Hash32.digest l.hasher)) (take l.done l.marks))

abbrev pub decreases-rest : goal.decreases-rest
decreases-rest g l = length l.marks - l.done
