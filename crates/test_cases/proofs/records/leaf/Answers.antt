use Rattle.test_cases.proofs.Found.{has_leaf}
use Rattle.test_cases.proofs.records.leaf.Goals as goal

pub leaf_found-is_one-requires : goal.leaf_found-is_one-requires
leaf_found-is_one-requires c = has_leaf c.args.bytes.now c.in_ok-found.found c.in_ok-found.ensures.found
