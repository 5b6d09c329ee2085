use Rattle.std.proofs.Common.{rules, of_calls, ltb, ◌∙◌}
use Rattle.std.proofs.lemmas.List.Sorted.{IsPartitionPoint-from_clause, IsPartitionedBy-ltb}
use Rattle.audit_verify.specs.Entries.{Placed}
use Rattle.audit_verify.proofs.EntryPlaces.{found_first}
use Rattle.audit_verify.proofs.entries.Entries.position.Goals as goal

pub returns : goal.returns
returns c =
    let id = c.args.id in
    let ids = c.as_slice-ids.result.now in
    c.place_at_head.ensures
    ∙ found_first id c.args.self.now ids _ c.partition_point-from.result c.requires c.as_slice-ids.ensures.value c.split_at.ensures.back c.partition_point-from.ensures.bound
    (λ up. IsPartitionPoint-from_clause (λ (p : Placed). ltb p.0 id) ids _ c.partition_point-from.ensures.partitioned (IsPartitionedBy-ltb (λ (p : Placed). p.0) ids id up) (λ a r q k. search (rules, of_calls)))
