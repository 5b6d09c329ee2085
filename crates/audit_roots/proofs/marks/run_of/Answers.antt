use Rattle.std.proofs.Common.{rules, of_calls, ltb, leb, refl}
use Rattle.std.proofs.lemmas.List.Sorted.{IsPartitionPoint-from_clause, IsPartitionedBy-ltb}
use Rattle.audit_roots.specs.Marks.{tx_of}
use Rattle.audit_roots.proofs.Hashed.{hashes_of_part}
use Rattle.audit_columns.proofs.Searches.{run_is, up_to}
use Rattle.audit_roots.proofs.marks.run_of.Goals as goal

pub returns-clause-own : goal.returns-clause-own
returns-clause-own c =
    let tx = c.args.tx in
    let ms = c.args.marks.now in
    let rest_is = c.split_at.ensures.back in
    run_is tx_of tx ms c.partition_point-from.result c.partition_point-count.result _ _ rest_is c.split_at-2.ensures.front c.partition_point-from.ensures.bound c.partition_point-count.ensures.bound
    (IsPartitionPoint-from_clause (λ m. ltb (tx_of m) tx) _ _ c.partition_point-from.ensures.partitioned (IsPartitionedBy-ltb tx_of ms tx c.requires.rise) (λ a r q k. search (rules, of_calls)))
    (IsPartitionPoint-from_clause (λ m. leb (tx_of m) tx) _ _ c.partition_point-count.ensures.partitioned (up_to tx_of tx ms c.partition_point-from.result _ rest_is c.requires.rise) (λ a r q k. search (rules, of_calls)))

pub returns-clause-hashes : goal.returns-clause-hashes
returns-clause-hashes c = λ h all.
    hashes_of_part h c.args.marks.now _ _ c.args.hashes.now _ c.partition_point-from.result c.partition_point-count.result c.partition_point-count.result refl
    c.split_at.ensures.back c.split_at-2.ensures.front c.hashes_at.ensures all
