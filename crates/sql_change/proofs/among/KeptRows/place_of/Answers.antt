use Rattle.std.proofs.Common.{◌≡◌, ◌≤◌, true, false, length, rules, subst, sym}
use Rattle.std.specs.List.Sorted.{IsPartitionedBy, IsPartitionPoint}
use Rattle.std.proofs.lemmas.List.Sorted.{IsPartitionPoint-from_clause}
use Rattle.sql_change.specs.KeyOrder.{is_below, passes}
use Rattle.sql_change.proofs.KeyOrder.{partitioned, place_is}
use Rattle.sql_change.proofs.among.KeptRows.place_of.Goals as goal

pub returns-clause-value : goal.returns-clause-value
returns-clause-value c =
    let columns = c.args.table.now.columns in
    let rows = c.args.self.now.rows in
    let row = c.args.row.now in
    let order = c.args.self.now.by_key.items in
    let less = passes (is_below columns row) rows in
    let n = c.partition_point.result in
    let is = c.as_slice-by_key.ensures.value in
    let point : IsPartitionPoint (λ p. less p ≡ true) (λ p. less p ≡ false) c.as_slice-by_key.result.now n =
    IsPartitionPoint-from_clause less c.as_slice-by_key.result.now n c.partition_point.ensures.partitioned
    (subst (IsPartitionedBy less) (sym is) (partitioned columns rows row order c.requires)) (λ a r f called. search rules) in
    place_is columns rows row order n (subst (λ xs. n ≤ length xs) is c.partition_point.ensures.bound)
    (subst (λ xs. IsPartitionPoint (λ p. less p ≡ true) (λ p. less p ≡ false) xs n) is point)
