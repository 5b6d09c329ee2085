-- Rows of the table of columns, by the column that they are about and then by start.
use Rattle.std.specs.Prelude.{ℕ, ℤ, pos, ◌&&◌, ◌||◌, not, Bool, false, if◌then◌else◌, List, [], ◌∷◌, Option, Some, None, is_some, is_none}
use Rattle.std.specs.List.{filter, filter_map}
use Rattle.std.specs.Ordering.{int_cmp, int_eq, is_lt, ordering_then}
use Rattle.std.specs.declared.cmp.Ordering.{Ordering}
use Rattle.sql_value.specs.declared.column.ColumnDef.{ColumnDef}
use Rattle.sql_value.specs.declared.value.Value.{Value}
use Rattle.sql_value.specs.declared.value.Value.TheVariants.{Num}
use Rattle.sql_types.specs.declared.entry.TxEntry.{TxEntry}
use Rattle.sql_types.specs.declared.version.TypedValue.{TypedValue}
use Rattle.sql_types.specs.declared.version.Version.{Version}
use Rattle.spec_model.specs.Keys.{value_at}
use Rattle.spec_model.specs.Lists.{sorted}
use Rattle.spec_model.specs.Rows.{event_cmp, values_of}
use Rattle.spec_model.specs.SystemTables.{columns_columns}
use Rattle.spec_verify.specs.Versions.{has_columns, says_not_null}
use Rattle.audit_columns.specs.declared.column_rows.ColumnRow.{ColumnRow}
use Rattle.audit_columns.specs.Positions.{Rank, rank_of}

-- ---- rows

abbrev pub number_in : Value → Option ℤ
number_in (Num s n) = Some n
number_in _ = None

abbrev pub column_row : Option ℤ → Option ℤ → Rank → Bool → Option ColumnRow
column_row (Some table) (Some item) start not_null =
    Some (record { table = table; item = item; start = start; not_null = not_null })
column_row _ _ _ _ = None

-- what a row says of a column, if it has these columns and is about one
abbrev pub read_row : List TxEntry → List ColumnDef → Version → Option ColumnRow
read_row entries columns r =
    if has_columns columns r.values
    then column_row (number_in (value_at (values_of r) 0)) (number_in (value_at (values_of r) 1)) (rank_of entries r.start) (says_not_null r)
    else None

abbrev pub read_rows : List TxEntry → List ColumnDef → List Version → List ColumnRow
read_rows entries columns rows = filter_map (read_row entries columns) rows

-- ---- their order

-- they are about one column
abbrev pub same_column : ColumnRow → ColumnRow → Bool
same_column a b = int_eq a.table b.table && int_eq a.item b.item

-- by column, and then by start
abbrev pub row_cmp : ColumnRow → ColumnRow → Ordering
row_cmp a b =
    ordering_then (int_cmp a.table b.table) (ordering_then (int_cmp a.item b.item) (event_cmp a.start b.start))

-- the rows of the table of columns, sorted so
abbrev pub sorted_rows : List TxEntry → List Version → List ColumnRow
sorted_rows entries second = sorted row_cmp (read_rows entries columns_columns second)

-- ---- the last row about a column before a start

-- what stands in the order where rows about the column that start at this rank do
abbrev pub row_at : ℕ → ℕ → Rank → ColumnRow
row_at table item at = record { table = pos table; item = pos item; start = at; not_null = false }

abbrev pub or_last : ColumnRow → Option ColumnRow → Option ColumnRow
or_last r None = Some r
or_last r (Some last) = Some last

abbrev pub last_of : List ColumnRow → Option ColumnRow
last_of [] = None
last_of (r ∷ rs) = or_last r (last_of rs)

-- the last that comes before this one
abbrev pub last_before : List ColumnRow → ColumnRow → Option ColumnRow
last_before rows target = last_of (filter (λ r. is_lt (row_cmp r target)) rows)

-- whether it says NOT NULL, if it is about the same column
abbrev pub not_null_by : ColumnRow → Option ColumnRow → Option Bool
not_null_by target None = None
not_null_by target (Some r) = if same_column r target then Some r.not_null else None

-- a column that is NOT NULL, or isn't, or isn't there takes the value
abbrev pub takes_by : Option Bool → Option TypedValue → Bool
takes_by None v = is_none v
takes_by (Some not_null) v = is_some v || not not_null
