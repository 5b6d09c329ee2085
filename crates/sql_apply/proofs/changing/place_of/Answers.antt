use Rattle.std.proofs.Common.{rules}
use Rattle.std.proofs.lemmas.List.Sorted.{IsPartitionPoint-from_clause}
use Rattle.sql_apply.specs.Places.{starts_before}
use Rattle.sql_apply.proofs.Places.{partitioned, place_is}
use Rattle.sql_apply.proofs.changing.place_of.Goals as goal

pub returns-clause-value : goal.returns-clause-value
returns-clause-value c =
    place_is c.args.at c.args.versions.now c.partition_point.result c.partition_point.ensures.bound
    (IsPartitionPoint-from_clause (starts_before c.args.at) c.args.versions.now c.partition_point.result c.partition_point.ensures.partitioned
    (partitioned c.args.at c.args.versions.now c.requires) (λ a r f called. search rules))
