use Rattle.std.proofs.Common.{rules, of_calls, ltb, leb}
use Rattle.std.proofs.lemmas.List.Sorted.{IsPartitionPoint-from_clause, IsPartitionedBy-ltb}
use Rattle.audit_columns.proofs.Searches.{run_is, up_to}
use Rattle.audit_rules.specs.Seen.{position_in}
use Rattle.audit_rules.proofs.statements.started_at.Goals as goal

pub returns : goal.returns
returns c =
    let position = c.args.position in
    let rows = c.args.rows.now in
    let rest_is = c.split_at.ensures.back in
    run_is position_in position rows c.partition_point-from.result c.partition_point-count.result _ _ rest_is c.split_at-2.ensures.front c.partition_point-from.ensures.bound c.partition_point-count.ensures.bound
    (IsPartitionPoint-from_clause (λ r. ltb (position_in r) position) _ _ c.partition_point-from.ensures.partitioned (IsPartitionedBy-ltb position_in rows position c.requires) (λ a r q k. search (rules, of_calls)))
    (IsPartitionPoint-from_clause (λ r. leb (position_in r) position) _ _ c.partition_point-count.ensures.partitioned (up_to position_in position rows c.partition_point-from.result _ rest_is c.requires) (λ a r q k. search (rules, of_calls)))
