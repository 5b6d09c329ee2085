use Rattle.std.proofs.Common.{arith, rules}
use Rattle.std.proofs.lemmas.Grind.{common_steps}
use Rattle.std.proofs.lemmas.List.{nil_from_length}
use Rattle.base_merkle.proofs.Stacks.{ends_none_at, ends_some_at, carries_on_at}
use Rattle.base_merkle.proofs.frontier.put_on.Goals as goal

pub returns-in-None-clause-stack : goal.returns-in-None-clause-stack
returns-in-None-clause-stack g c =
    ends_none_at (g.H.Hash32.digest c.args.hasher) c.args.nodes.now.items c.loop-nodes.nodes.items c.pop.new.self.items c.push.new.self.items c.args.node c.loop-nodes.node
    c.loop-nodes.invariant.0
    (nil_from_length c.loop-nodes.nodes.items (grind (arith, c.in-None.ensures.variant)))
    (grind (arith, common_steps, c.in-None.ensures.items))
    c.push.ensures.items

pub returns-then-last-node-clause-stack : goal.returns-then-last-node-clause-stack
returns-then-last-node-clause-stack g c =
    ends_some_at (g.H.Hash32.digest c.args.hasher) c.args.nodes.now.items c.loop-nodes.nodes.items c.pop.new.self.items c.push-then-last-node.new.self.items c.push-then-last-node-2.new.self.items c.args.node c.in-Some.last c.loop-nodes.node
    c.loop-nodes.invariant.0
    c.in-Some.ensures.items
    (search rules)
    c.push-then-last-node.ensures.items
    c.push-then-last-node-2.ensures.items

pub loop-nodes-preserved : goal.loop-nodes-preserved
loop-nodes-preserved g c = (
  carries_on_at (g.H.Hash32.digest c.args.hasher) c.args.nodes.now.items c.loop-nodes.nodes.items c.pop.new.self.items c.args.node c.in-Some.last c.loop-nodes.node _ _
      c.loop-nodes.invariant.0
      c.in-Some.ensures.items
      (search rules)
      (search rules)
      (search rules),
  (grind (arith, common_steps, c.in-Some.ensures.items)),
)
