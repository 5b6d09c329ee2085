use Rattle.std.proofs.Common.{rules}
use Rattle.std.proofs.lemmas.List.Sorted.{IsPartitionPoint-from_clause}
use Rattle.store_table.specs.Orders.{has_row_below, passes, version_at}
use Rattle.store_table.proofs.InOrder.{order_parted, order_place}
use Rattle.store_table.proofs.OfKey.{row_below_down}
use Rattle.store_table.proofs.index.rows_below.Goals as goal

pub returns : goal.returns
returns c =
    let ordinals = c.args.index.now.ordinals in
    let key = c.args.key.now in
    let vs = c.args.versions.now in
    let test = has_row_below ordinals key c.args.version.now in
    let down = row_below_down ordinals key c.args.version.now in
    order_place ordinals key test down vs c.requires.rising c.args.index.now.order.list c.requires.order c.partition_point.result c.partition_point.ensures.bound
    (IsPartitionPoint-from_clause (λ e. passes test (version_at e vs)) c.args.index.now.order.list c.partition_point.result c.partition_point.ensures.partitioned
    (order_parted ordinals key test down vs c.requires.rising c.args.index.now.order.list c.requires.order) (λ a r f called. search rules))
