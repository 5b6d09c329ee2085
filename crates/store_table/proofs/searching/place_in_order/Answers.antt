use Rattle.std.proofs.Common.{rules}
use Rattle.std.proofs.lemmas.List.Sorted.{IsPartitionPoint-from_clause}
use Rattle.store_table.specs.Orders.{comes_before, passes, version_at}
use Rattle.store_table.proofs.InOrder.{comes_before_is_downward, order_parted, order_place}
use Rattle.store_table.proofs.searching.place_in_order.Goals as goal

pub returns-clause-place : goal.returns-clause-place
returns-clause-place c =
    let ordinals = c.args.ordinals.now in
    let key = c.args.key.now in
    let vs = c.args.versions.now in
    let test = comes_before ordinals key c.args.version.now in
    let down = comes_before_is_downward ordinals key c.args.version.now in
    order_place ordinals key test down vs c.requires.rising c.args.order.now.list c.requires.order c.partition_point.result c.partition_point.ensures.bound
    (IsPartitionPoint-from_clause (λ e. passes test (version_at e vs)) c.args.order.now.list c.partition_point.result c.partition_point.ensures.partitioned
    (order_parted ordinals key test down vs c.requires.rising c.args.order.now.list c.requires.order) (λ a r f called. search rules))
