use Rattle.std.proofs.Common.{rules}
use Rattle.std.proofs.lemmas.List.Sorted.{IsPartitionPoint-from_clause}
use Rattle.std.specs.Ordering.{is_lt}
use Rattle.store_table.specs.Ends.{ending_cmp}
use Rattle.store_table.proofs.Ends.{endings_parted}
use Rattle.sql_parts.proofs.OneMore.{point_is}
use Rattle.store_table.proofs.ending.place_of.Goals as goal

pub returns-clause-place : goal.returns-clause-place
returns-clause-place c =
    let e = c.args.ending.now in
    let ends = c.args.ends.now in
    point_is (λ a. is_lt (ending_cmp a e)) ends c.partition_point.result c.partition_point.ensures.bound
    (IsPartitionPoint-from_clause (λ a. is_lt (ending_cmp a e)) ends c.partition_point.result c.partition_point.ensures.partitioned
    (endings_parted e c.requires.0 ends c.requires.1) (λ a r f called. search rules))
