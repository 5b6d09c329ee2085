use Rattle.std.proofs.Common.{arith}
use Rattle.base_merkle.proofs.Stacks.{few_nodes, few_at}
use Rattle.base_merkle.proofs.frontier.Frontier.push_leaf_hash.Goals as goal

pub put_on-requires-after_bounds : goal.put_on-requires-after_bounds
put_on-requires-after_bounds g c κs within =
    let h = c.requires.0 in
    let leaves = c.requires.1 in
    few_at _ _ (few_nodes (g.H.Hash32.digest h) c.args.self.now.nodes.items leaves 1 (omega arith) c.requires.2.nodes) c.requires.3
