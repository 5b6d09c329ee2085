-- Rows and their versions: what a version is, and in what order versions stand.
use Rattle.std.specs.Prelude.{ℕ, pos, ◌==◌, ◌&&◌, Bool, if◌then◌else◌, List, [], ◌∷◌, map, Option, Some, None, is_none}
use Rattle.std.specs.List.{filter}
use Rattle.std.specs.declared.cmp.Ordering.{Ordering}
use Rattle.std.specs.Ordering.{nat_cmp, ordering_then}
use Rattle.sql_value.specs.declared.value.Value.{Value}
use Rattle.sql_value.specs.declared.value.Value.TheVariants.{Null, Num}
use Rattle.sql_value.specs.declared.column.ColumnDef.{ColumnDef}
use Rattle.sql_types.specs.declared.version.TypedValue.{TypedValue}
use Rattle.sql_types.specs.declared.version.Version.{Version}
use Rattle.spec_model.specs.Lists.{inserted}

abbrev pub Row : Type 0
Row = List Value

-- ---- values and types

-- a value as its column stores it; NULL is none
abbrev pub stored_value : ColumnDef → Value → Option TypedValue
stored_value c Null = None
stored_value c v = Some (record { ty = c.ty; value = v })

-- a row as its columns store it
abbrev pub stored_row : List ColumnDef → Row → List (Option TypedValue)
stored_row (c ∷ cs) (v ∷ vs) = stored_value c v ∷ stored_row cs vs
stored_row _ _ = []

-- the value of a column; none is NULL
abbrev pub value_or_null : Option TypedValue → Value
value_or_null (Some t) = t.value
value_or_null None = Null

-- the values of a version
abbrev pub values_of : Version → Row
values_of v = map value_or_null v.values

-- ---- rows that are shorter than their columns

-- a row with a value for each column: NULL behind its last value
abbrev pub filled : List ColumnDef → Row → Row
filled [] row = row
filled (c ∷ cs) [] = Null ∷ filled cs []
filled (c ∷ cs) (v ∷ vs) = v ∷ filled cs vs

-- and so as it is stored
abbrev pub filled_stored : List ColumnDef → List (Option TypedValue) → List (Option TypedValue)
filled_stored [] values = values
filled_stored (c ∷ cs) [] = None ∷ filled_stored cs []
filled_stored (c ∷ cs) (v ∷ vs) = v ∷ filled_stored cs vs

-- the row that a version is under these columns; what is missing is NULL
abbrev pub row_of : List ColumnDef → Version → Row
row_of columns v = filled columns (values_of v)

-- a whole number as a value
abbrev pub number : ℕ → Value
number n = Num 0 (pos n)

-- ---- events: the transaction that made one, and its number there

abbrev pub EventId : Type 0
EventId = ℕ × ℕ

-- by the transaction, then by the number
abbrev pub event_cmp : EventId → EventId → Ordering
event_cmp a b = ordering_then (nat_cmp a.0 b.0) (nat_cmp a.1 b.1)

abbrev pub same_event : EventId → EventId → Bool
same_event a b = a.0 == b.0 && a.1 == b.1

-- ---- versions

abbrev pub start_cmp : Version → Version → Ordering
start_cmp v w = event_cmp v.start w.start

-- starts a version, in its place among those of its table
unfoldable pub started : EventId → List (Option TypedValue) → List Version → List Version
started at values versions = inserted start_cmp (record { values = values; start = at; end = None }) versions

abbrev pub with_end : EventId → Version → Version
with_end at v = record { values = v.values; start = v.start; end = Some at }

-- ends the version that this event started
unfoldable pub ended : EventId → EventId → List Version → List Version
ended at start versions = map (λ v. if same_event v.start start then with_end at v else v) versions

-- the versions without an end
abbrev pub live : List Version → List Version
live versions = filter (λ v. is_none v.end) versions
