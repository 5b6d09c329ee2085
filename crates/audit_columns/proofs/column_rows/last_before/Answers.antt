use Rattle.std.proofs.Common.{rules, of_calls, is_lt, arith}
use Rattle.std.proofs.lemmas.List.Sorted.{IsPartitionPoint-from_clause}
use Rattle.audit_columns.specs.declared.column_rows.ColumnRow.{ColumnRow}
use Rattle.audit_columns.specs.ColumnRows.{row_cmp}
use Rattle.audit_columns.proofs.LastRows.{last_at, none_before, parted}
use Rattle.audit_columns.proofs.column_rows.last_before.Goals as goal

pub returns-then-count-eq0 : goal.returns-then-count-eq0
returns-then-count-eq0 c =
    let target = c.args.target.now in
    let rows = c.args.rows.now in
    let point = IsPartitionPoint-from_clause (λ (r : ColumnRow). is_lt (row_cmp r target)) _ _ c.partition_point-count.ensures.partitioned (parted target rows c.requires) (λ a r q k. search (rules, of_calls)) in
    none_before target rows c.partition_point-count.result c.partition_point-count.ensures.bound point (omega (arith, c.if-count-eq0.true))

pub returns : goal.returns
returns c =
    let target = c.args.target.now in
    let rows = c.args.rows.now in
    let point = IsPartitionPoint-from_clause (λ (r : ColumnRow). is_lt (row_cmp r target)) _ _ c.partition_point-count.ensures.partitioned (parted target rows c.requires) (λ a r q k. search (rules, of_calls)) in
    last_at target rows c.partition_point-count.result c.partition_point-count.ensures.bound point _ (omega (arith, c.if-count-eq0.false))
