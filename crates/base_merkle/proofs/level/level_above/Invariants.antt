use Rattle.std.proofs.Common.{◌≡◌, ◌≤◌, ◌-◌, ◌++◌, length, drop}
use Rattle.base_merkle.specs.Levels.{level_above}
use Rattle.base_merkle.proofs.level.level_above.Given as goal

abbrev pub invariant-eights : goal.invariant-eights
invariant-eights g l = (l.done ≤ length l.nodes)
    × (l.above.items ++ level_above (g.H.Hash32.digest l.hasher) (drop l.done l.nodes) ≡ level_above (g.H.Hash32.digest l.hasher) l.nodes)

abbrev pub decreases-eights : goal.decreases-eights
decreases-eights g l = length l.nodes - l.done

abbrev pub invariant-pairs : goal.invariant-pairs
invariant-pairs g l = (l.done ≤ length l.nodes)
    × (l.above.items ++ level_above (g.H.Hash32.digest l.hasher) (drop l.done l.nodes) ≡ level_above (g.H.Hash32.digest l.hasher) l.nodes)

abbrev pub decreases-pairs : goal.decreases-pairs
decreases-pairs g l = length l.nodes - l.done
