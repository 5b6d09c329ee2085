use Rattle.law_journal.proofs.SoFar.{so_far}
use Rattle.store_table.proofs.leaves.leaf_of.Goals as goal

pub leaf_of_version-requires : goal.leaf_of_version-requires
leaf_of_version-requires c = (c.requires.0, c.requires.1, so_far c.requires.0 c.args.event.now.values.now c.requires.2)
