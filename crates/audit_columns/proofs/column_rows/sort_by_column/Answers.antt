use Rattle.std.proofs.Common.{rules, is_lt}
use Rattle.std.proofs.lemmas.Fn.{always_returns_same}
use Rattle.std.proofs.lemmas.List.Sorted.{ranks_by}
use Rattle.sql_parts.proofs.Sorting.{sorted_stably}
use Rattle.audit_columns.specs.declared.column_rows.ColumnRow.{ColumnRow}
use Rattle.audit_columns.specs.ColumnRows.{row_cmp}
use Rattle.audit_columns.proofs.LastRows.{rows_total}
use Rattle.audit_columns.proofs.column_rows.sort_by_column.Goals as goal

abbrev itself : ColumnRow → ColumnRow
itself r = r

pub returns : goal.returns
returns c =
    sorted_stably row_cmp rows_total _ _
    (c.in_ok-sort_by.ensures.sorted (λ x y. is_lt (row_cmp (itself x) (itself y))) (ranks_by rows_total itself) (always_returns_same _ _ _ (λ a r f k. search rules)))
    (c.in_ok-sort_by.ensures.stable (λ x y. is_lt (row_cmp (itself x) (itself y))) (ranks_by rows_total itself) (always_returns_same _ _ _ (λ a r f k. search rules)))
