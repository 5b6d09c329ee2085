use Rattle.std.proofs.Common.{◌≤◌, length}
use Rattle.base_merkle.specs.PutOn.{Carries}
use Rattle.base_merkle.proofs.frontier.put_on.Given as goal

abbrev pub invariant-loop-nodes : goal.invariant-loop-nodes
invariant-loop-nodes g l =
    Carries (g.H.Hash32.digest l.hasher) l.initial.nodes.items l.initial.node l.nodes.items l.node
    × (length l.nodes.items ≤ length l.initial.nodes.items)

abbrev pub decreases-loop-nodes : goal.decreases-loop-nodes
decreases-loop-nodes g l = length l.nodes.items
