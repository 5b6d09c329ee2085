use Rattle.std.proofs.Common.{rules, of_calls, ltb, leb}
use Rattle.std.proofs.lemmas.List.Sorted.{IsPartitionPoint-from_clause, IsPartitionedBy-ltb}
use Rattle.audit_roots.specs.EventIds.{tx_in}
use Rattle.audit_columns.proofs.Searches.{run_is, up_to}
use Rattle.audit_roots.proofs.event_ids.ids_of.Goals as goal

pub returns : goal.returns
returns c =
    let tx = c.args.tx in
    let ids = c.args.ids.now in
    let rest_is = c.split_at.ensures.back in
    run_is tx_in tx ids c.partition_point-from.result c.partition_point-count.result _ _ rest_is c.split_at-2.ensures.front c.partition_point-from.ensures.bound c.partition_point-count.ensures.bound
    (IsPartitionPoint-from_clause (λ e. ltb (tx_in e) tx) _ _ c.partition_point-from.ensures.partitioned (IsPartitionedBy-ltb tx_in ids tx c.requires) (λ a r q k. search (rules, of_calls)))
    (IsPartitionPoint-from_clause (λ e. leb (tx_in e) tx) _ _ c.partition_point-count.ensures.partitioned (up_to tx_in tx ids c.partition_point-from.result _ rest_is c.requires) (λ a r q k. search (rules, of_calls)))
