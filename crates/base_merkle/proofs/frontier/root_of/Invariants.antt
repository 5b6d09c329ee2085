use Rattle.std.proofs.Common.{◌≡◌, ◌<◌, drop, length}
use Rattle.base_merkle.specs.Stack.{stack_root}
use Rattle.base_merkle.proofs.frontier.root_of.Given as goal

abbrev pub invariant-loop-at : goal.invariant-loop-at
invariant-loop-at g l =
    (l.hash ≡ stack_root (g.H.Hash32.digest l.hasher) (drop l.at l.nodes)) × (l.at < length l.nodes)

abbrev pub decreases-loop-at : goal.decreases-loop-at
decreases-loop-at g l = l.at
