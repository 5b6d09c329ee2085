use Rattle.std.proofs.Common.{rules}
use Rattle.std.proofs.lemmas.List.Sorted.{IsPartitionPoint-from_clause}
use Rattle.std.specs.Prelude.{slice_get}
use Rattle.audit_asof.specs.KeyOrder.{is_below, passes}
use Rattle.audit_asof.proofs.KeyOrder.{count_is, order_parted, below_down}
use Rattle.audit_asof.proofs.by_key.count_below.Goals as goal

pub returns-clause-count : goal.returns-clause-count
returns-clause-count c =
    let key = c.args.key.now in
    let vs = c.args.versions.now in
    let order = c.args.order.now in
    let test = is_below key c.args.wanted.now in
    let down = below_down key c.args.wanted.now in
    count_is key vs order c.requires test down c.partition_point.result c.partition_point.ensures.bound
    (IsPartitionPoint-from_clause (λ n. passes test (slice_get vs n)) order c.partition_point.result c.partition_point.ensures.partitioned
    (order_parted key vs order c.requires test down) (λ a r f called. search rules))
