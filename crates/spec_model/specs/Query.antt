-- SELECT: what is checked, and the rows that it shows.
use Rattle.std.specs.Prelude.{ℕ, ◌&&◌, not, Bool, true, false, if◌then◌else◌, List, [], ◌∷◌, map, length, Option, Some, None, Ok, Err}
use Rattle.std.specs.List.{list_all}
use Rattle.std.specs.declared.cmp.Ordering.{Ordering}
use Rattle.std.specs.declared.cmp.Ordering.TheVariants.{Equal}
use Rattle.std.specs.Ordering.{ordering_then}
use Rattle.sql_value.specs.declared.value.Value.{Value}
use Rattle.sql_value.specs.declared.value.Value.TheVariants.{Null, Num}
use Rattle.sql_value.specs.declared.column.ColumnDef.{ColumnDef}
use Rattle.sql_value.specs.declared.refusal.Refusal.TheVariants.{NoSuchTable, NoSuchColumn, TypeMismatch}
use Rattle.sql_value.specs.declared.expr.Class.{Class}
use Rattle.sql_value.specs.declared.expr.Class.TheVariants.{Whole, Dec}
use Rattle.sql_value.specs.Order.{value_cmp}
use Rattle.sql_types.specs.declared.statement.Select.{Select}
use Rattle.sql_types.specs.declared.statement.SelectList.{SelectList}
use Rattle.sql_types.specs.declared.statement.SelectList.TheVariants.{All, Columns, Aggs}
use Rattle.sql_types.specs.declared.statement.Agg.{Agg}
use Rattle.sql_types.specs.declared.statement.Agg.TheVariants.{Count, Sum}
use Rattle.spec_model.specs.Refusals.{Checked, and_then, or_refused}
use Rattle.spec_model.specs.Numbers.{in_38_digits, sum_of}
use Rattle.spec_model.specs.Columns.{column_of, place_of}
use Rattle.spec_model.specs.Classes.{class_of_type}
use Rattle.spec_model.specs.Lists.{sorted, checked_map, checked_filter, checked_fold}
use Rattle.spec_model.specs.Rows.{Row, number}
use Rattle.spec_model.specs.Keys.{value_at}
use Rattle.spec_model.specs.Parts.{columns_of, what_shown}
use Rattle.spec_model.specs.Where.{holds}
use Rattle.spec_model.specs.Catalog.{Defs, NamedPart, find_part}
use Rattle.spec_model.specs.Checks.{refused_if, is_declared, cond_names, cond_is_truth}

-- ---- checks

abbrev pub is_number : Checked Class → Bool
is_number (Ok Whole) = true
is_number (Ok (Dec s)) = true
is_number _ = false

abbrev pub has_sum : Option ColumnDef → Bool
has_sum (Some c) = is_number (class_of_type c.ty)
has_sum None = false

abbrev pub agg_names : List ColumnDef → Agg → Bool
agg_names columns Count = true
agg_names columns (Sum name) = is_declared columns name

abbrev pub is_sum_of_numbers : List ColumnDef → Agg → Bool
is_sum_of_numbers columns Count = true
is_sum_of_numbers columns (Sum name) = has_sum (column_of columns name)

-- the columns that are to be shown are there
abbrev pub selects_declared : List ColumnDef → SelectList → Bool
selects_declared columns All = true
selects_declared columns (Columns names) = list_all (is_declared columns) names
selects_declared columns (Aggs aggs) = list_all (agg_names columns) aggs

-- sums are of numbers
abbrev pub sums_are_of_numbers : List ColumnDef → SelectList → Bool
sums_are_of_numbers columns (Aggs aggs) = list_all (is_sum_of_numbers columns) aggs
sums_are_of_numbers columns _ = true

-- all that is checked of a SELECT over these columns
unfoldable pub select_check : List ColumnDef → Select → Checked (Unit {0})
select_check columns q =
    refused_if
    (not (selects_declared columns q.what && cond_names columns q.cond
    && list_all (λ o. is_declared columns o.0) q.order)) NoSuchColumn
    (refused_if (not (sums_are_of_numbers columns q.what && cond_is_truth columns q.cond)) TypeMismatch
    (Ok tt))

-- the table or part that a SELECT reads, where nothing is refused
unfoldable pub query_check : Defs → Select → Checked NamedPart
query_check defs q =
    and_then (or_refused NoSuchTable (find_part defs q.table))
    (λ n. and_then (select_check (columns_of n.0 n.1) q) (λ passed. Ok n))

-- ---- ORDER BY

-- the value of a row at a place, NULL where there is none
abbrev pub value_in : Option ℕ → Row → Value
value_in (Some place) row = value_at row place
value_in None row = Null

-- by one column; true is DESC
abbrev pub column_cmp : List ColumnDef → List ℕ × Bool → Row → Row → Ordering
column_cmp columns o a b =
    if o.1 then value_cmp (value_in (place_of columns o.0) b) (value_in (place_of columns o.0) a)
    else value_cmp (value_in (place_of columns o.0) a) (value_in (place_of columns o.0) b)

-- by the first column, then by the second, and so on
abbrev pub order_cmp : List ColumnDef → List (List ℕ × Bool) → Row → Row → Ordering
order_cmp columns [] a b = Equal
order_cmp columns (o ∷ os) a b = ordering_then (column_cmp columns o a b) (order_cmp columns os a b)

-- ---- COUNT(*) and SUM

-- one value more; NULL is left out
abbrev pub added_up : Value → Value → Checked Value
added_up sum Null = Ok sum
added_up Null (Num s v) = in_38_digits v s
added_up (Num s v) (Num z w) = sum_of v s w z
added_up _ _ = Err TypeMismatch

-- the sum in the order of the rows, NULL over no values
unfoldable pub total : List Value → Checked Value
total values = checked_fold added_up Null values

unfoldable pub agg_value : List ColumnDef → List Row → Agg → Checked Value
agg_value columns rows Count = Ok (number (length rows))
agg_value columns rows (Sum name) = total (map (value_in (place_of columns name)) rows)

-- ---- the rows shown

abbrev pub projected : List ColumnDef → List (List ℕ) → Row → Row
projected columns names row = map (λ name. value_in (place_of columns name) row) names

abbrev pub apply_select_list : List ColumnDef → List ℕ → ℕ → SelectList → List Row → Checked (List Row)
apply_select_list columns dropped shown All rows = Ok (map (what_shown dropped shown) rows)
apply_select_list columns dropped shown (Columns names) rows = Ok (map (projected columns names) rows)
apply_select_list columns dropped shown (Aggs aggs) rows =
    and_then (checked_map (agg_value columns rows) aggs) (λ values. Ok (values ∷ []))

-- of the rows of a part those that the condition takes, sorted, and of each what is to be shown; `*` shows so
-- many columns without the dropped ones
unfoldable pub selected : List ColumnDef → List ℕ → ℕ → Select → List Row → Checked (List Row)
selected columns dropped shown q rows =
    and_then (checked_filter (holds columns q.cond) rows) (λ taken.
    apply_select_list columns dropped shown q.what (sorted (order_cmp columns q.order) taken))
