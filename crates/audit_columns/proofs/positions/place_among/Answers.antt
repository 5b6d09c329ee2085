use Rattle.std.proofs.Common.{rules, of_calls, nat_lt, ◌∙◌}
use Rattle.std.proofs.lemmas.List.Sorted.{IsPartitionPoint-from_clause}
use Rattle.audit_columns.specs.Positions.{PlacedId}
use Rattle.audit_columns.proofs.EntryPositions.{parted, some_found, none_found}
use Rattle.audit_columns.proofs.positions.place_among.Goals as goal

pub returns-in-Some : goal.returns-in-Some
returns-in-Some c =
    let id = c.args.id in
    let ids = c.args.by_id.now in
    let found = c.in-Some.ensures.lookup in
    let point = IsPartitionPoint-from_clause (λ (p : PlacedId). nat_lt p.0 id) _ _ c.partition_point-at.ensures.partitioned (parted id ids c.requires) (λ a r q k. search (rules, of_calls)) in
    c.place_of.ensures ∙ some_found id c.args.none ids c.partition_point-at.result c.requires point c.in-Some.placed.now found.0 found.1

pub returns-in-None : goal.returns-in-None
returns-in-None c =
    let id = c.args.id in
    let ids = c.args.by_id.now in
    let found = c.in-None.ensures.lookup in
    let point = IsPartitionPoint-from_clause (λ (p : PlacedId). nat_lt p.0 id) _ _ c.partition_point-at.ensures.partitioned (parted id ids c.requires) (λ a r q k. search (rules, of_calls)) in
    none_found id c.args.none ids c.partition_point-at.result c.requires point found.3
