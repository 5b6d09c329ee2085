use Rattle.audit_extract.proofs.Halves.{split_within}
use Rattle.audit_extract.proofs.trees.tree_halves.Goals as goal

pub split_at-requires : goal.split_at-requires
split_at-requires c = rw c.split_of.ensures (split_within c.args.leaves.now c.requires.more)
