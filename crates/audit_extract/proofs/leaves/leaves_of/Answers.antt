use Rattle.std.proofs.Common.{rules, of_calls}
use Rattle.std.proofs.lemmas.List.Sorted.{IsPartitionPoint-from_clause}
use Rattle.audit_extract.specs.Leaves.{comes_before}
use Rattle.audit_extract.proofs.Groups.{before_first, after_in, not_after, found_in}
use Rattle.audit_extract.proofs.leaves.leaves_of.Goals as goal

pub returns : goal.returns
returns c =
    let g = c.args.group in
    let ys = c.args.leaves.now in
    let rest_is = c.split_at.ensures.back in
    let one = IsPartitionPoint-from_clause (comes_before g) _ _ c.partition_point-from.ensures.partitioned (before_first g ys c.requires) (λ a r q k. search (rules, of_calls)) in
    let two = IsPartitionPoint-from_clause (not_after g) _ _ c.partition_point-count.ensures.partitioned (after_in g ys c.partition_point-from.result _ rest_is c.requires) (λ a r q k. search (rules, of_calls)) in
    found_in g ys c.partition_point-from.result c.partition_point-count.result _ _ rest_is c.split_at-2.ensures.front c.partition_point-from.ensures.bound c.partition_point-count.ensures.bound one two
