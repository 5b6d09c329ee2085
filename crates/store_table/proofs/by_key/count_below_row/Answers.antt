use Rattle.std.proofs.Common.{rules, []}
use Rattle.std.proofs.lemmas.List.Sorted.{IsPartitionPoint-from_clause}
use Rattle.spec_model.specs.Keys.{key_at}
use Rattle.store_table.specs.Orders.{is_below, passes, version_at}
use Rattle.store_table.proofs.InOrder.{order_parted, order_place}
use Rattle.store_table.proofs.OfKey.{below_down}
use Rattle.store_table.proofs.by_key.count_below_row.Goals as goal

pub returns-clause-place : goal.returns-clause-place
returns-clause-place c =
    let key = c.args.places.now in
    let vs = c.args.versions.now in
    let wanted = key_at c.args.places.now c.args.row.now in
    let test = is_below key wanted in
    let down = below_down key wanted in
    order_place [] key test down vs c.requires.rising c.args.order.now.list c.requires.order c.partition_point.result c.partition_point.ensures.bound
    (IsPartitionPoint-from_clause (λ e. passes test (version_at e vs)) c.args.order.now.list c.partition_point.result c.partition_point.ensures.partitioned
    (order_parted [] key test down vs c.requires.rising c.args.order.now.list c.requires.order) (λ a r f called. search rules))
