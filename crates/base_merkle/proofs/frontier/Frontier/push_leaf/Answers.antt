use Rattle.base_merkle.proofs.frontier.Frontier.push_leaf.Goals as goal

pub returns : goal.returns
returns g c = λ h leaves holds. c.push_leaf_hash.ensures h leaves c.args.bytes.now holds (rw holds.hasher at c.leaf_hash-hash.ensures)
