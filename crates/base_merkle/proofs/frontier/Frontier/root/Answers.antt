use Rattle.base_merkle.proofs.Stacks.{root_is}
use Rattle.base_merkle.proofs.frontier.Frontier.root.Goals as goal

pub returns : goal.returns
returns g c = λ h leaves holds.
    let same = root_is (g.H.Hash32.digest h) c.args.self.now.nodes.items leaves 1 holds.nodes in
    rw (c.root_of.ensures, c.deref.ensures.0, holds.hasher) same
