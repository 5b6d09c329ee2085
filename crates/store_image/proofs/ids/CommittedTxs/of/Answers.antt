use Rattle.store_image.proofs.Found.{rising, same_ids}
use Rattle.store_image.proofs.ids.CommittedTxs.of.Goals as goal

pub invariant_of-result : goal.invariant_of-result
invariant_of-result c = rising c.sort_unstable.new.self.items c.sort_unstable.ensures.sorted

pub returns : goal.returns
returns c = same_ids c.args.items.now c.in_ok-ids.ids.items c.sort_unstable.new.self.items c.in_ok-ids.ensures c.sort_unstable.ensures.permutation
