-- The parts of a table: its columns and its rows as each part shows them.
use Rattle.std.specs.Prelude.{ℕ, false, List, [], ◌∷◌, ◌++◌, map, flat_map, take, length, codes, Option, Some, None}
use Rattle.sql_value.specs.declared.value.Value.TheVariants.{Text}
use Rattle.sql_value.specs.declared.column.ColumnDef.{ColumnDef}
use Rattle.sql_value.specs.declared.sql_type.SqlType.{SqlType}
use Rattle.sql_value.specs.declared.sql_type.SqlType.TheVariants.{Int, BigInt, NVarChar}
use Rattle.sql_types.specs.declared.table.TableDef.{TableDef}
use Rattle.sql_types.specs.declared.table.Part.{Part}
use Rattle.sql_types.specs.declared.table.Part.TheVariants.{Base, History, View, System}
use Rattle.sql_types.specs.declared.version.Version.{Version}
use Rattle.spec_model.specs.Lists.{sorted, without}
use Rattle.spec_model.specs.Rows.{Row, EventId, event_cmp, number, row_of}
use Rattle.spec_model.specs.Keys.{Key, live_by_key}

-- ---- columns

-- a column that a part adds: it is never NULL, and in no key
abbrev pub added_column : List ℕ → SqlType → ColumnDef
added_column name ty = record { name = name; ty = ty; nullable = false; key_position = 0 }

-- the event that started a version
abbrev pub start_columns : List ColumnDef
start_columns =
    added_column (codes "ledger_start_transaction_id") BigInt
    ∷ added_column (codes "ledger_start_sequence_number") BigInt ∷ []

-- the events that started and ended a version
abbrev pub history_columns : List ColumnDef
history_columns =
    added_column (codes "ledger_start_transaction_id") BigInt
    ∷ added_column (codes "ledger_end_transaction_id") BigInt
    ∷ added_column (codes "ledger_start_sequence_number") BigInt
    ∷ added_column (codes "ledger_end_sequence_number") BigInt ∷ []

-- an event, and what it did
abbrev pub view_columns : List ColumnDef
view_columns =
    added_column (codes "ledger_transaction_id") BigInt
    ∷ added_column (codes "ledger_sequence_number") BigInt
    ∷ added_column (codes "ledger_operation_type") Int
    ∷ added_column (codes "ledger_operation_type_desc") (NVarChar 6) ∷ []

-- the columns that a part has besides the declared ones
abbrev pub added : Part → List ColumnDef
added Base = start_columns
added History = history_columns
added View = view_columns
added System = start_columns

-- the declared columns, dropped ones among them, and then the added ones
abbrev pub columns_of : TableDef → Part → List ColumnDef
columns_of def part = def.columns ++ added part

-- how many of them `*` looks at: a base table and a system table hide those of the start
abbrev pub shown_of : TableDef → Part → ℕ
shown_of def Base = length def.columns
shown_of def History = length (columns_of def History)
shown_of def View = length (columns_of def View)
shown_of def System = length def.columns

-- what `*` gives of a row: of its first values, so many, all but those of dropped columns
abbrev pub what_shown : List ℕ → ℕ → Row → Row
what_shown dropped shown row = without dropped (take shown row)

-- ---- rows

-- a version that stands, with its start
abbrev pub base_row : List ColumnDef → Version → Row
base_row columns v = row_of columns v ++ number v.start.0 ∷ number v.start.1 ∷ []

-- a version that ended, with its start and its end
abbrev pub history_row : List ColumnDef → Version → EventId → Row
history_row columns v end =
    row_of columns v ++ number v.start.0 ∷ number end.0 ∷ number v.start.1 ∷ number end.1 ∷ []

abbrev pub history_rows_of : List ColumnDef → Version → Option EventId → List Row
history_rows_of columns v (Some end) = history_row columns v end ∷ []
history_rows_of columns v None = []

-- the versions that ended, by their start
abbrev pub history_rows : List ColumnDef → List Version → List Row
history_rows columns versions = flat_map (λ v. history_rows_of columns v v.end) versions

-- an event with the row that the view shows of it
abbrev pub ViewRow : Type 0
ViewRow = EventId × Row

abbrev pub view_row_of_start : List ColumnDef → Version → ViewRow
view_row_of_start columns v =
    (v.start, row_of columns v ++ number v.start.0 ∷ number v.start.1 ∷ number 1 ∷ Text (codes "INSERT") ∷ [])

abbrev pub view_row_of_end : List ColumnDef → Version → Option EventId → List ViewRow
view_row_of_end columns v (Some end) =
    (end, row_of columns v ++ number end.0 ∷ number end.1 ∷ number 2 ∷ Text (codes "DELETE") ∷ []) ∷ []
view_row_of_end columns v None = []

-- one row for each start and each end, by transaction and number
abbrev pub view_rows : List ColumnDef → List Version → List Row
view_rows columns versions =
    map (λ s. s.1)
    (sorted (λ a b. event_cmp a.0 b.0)
    (flat_map (λ v. view_row_of_start columns v ∷ view_row_of_end columns v v.end) versions))

-- the rows of a part, in its order. Where a base table's key is fixed, the one row with that key.
unfoldable pub rows_of : TableDef → Part → Option Key → List Version → List Row
rows_of def Base key versions = map (base_row def.columns) (live_by_key def.columns key versions)
rows_of def History key versions = history_rows def.columns versions
rows_of def View key versions = view_rows def.columns versions
rows_of def System key versions = map (base_row def.columns) (live_by_key def.columns None versions)
