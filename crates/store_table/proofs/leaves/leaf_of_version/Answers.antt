use Rattle.law_events.proofs.Leaves.{are_values}
use Rattle.store_table.proofs.leaves.leaf_of_version.Goals as goal

pub write_leaf-requires : goal.write_leaf-requires
write_leaf-requires c = are_values c.requires.0 c.args.event.now.values.now c.requires.1 c.requires.2 c.are_utf8_texts.ensures
