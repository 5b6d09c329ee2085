use Rattle.std.proofs.Common.{map}
use Rattle.audit_asof.proofs.Found.{rising, same_ids}
use Rattle.audit_asof.proofs.earlier_txs.EarlierTxs.of.Goals as goal

pub invariant_of-result : goal.invariant_of-result
invariant_of-result c = rising c.sort_unstable.new.self.items c.sort_unstable.ensures.sorted

pub returns : goal.returns
returns c = same_ids (map (λ e. e.id) c.args.entries.now) c.in_ok-ids.ids.items c.sort_unstable.new.self.items c.in_ok-ids.ensures c.sort_unstable.ensures.permutation
