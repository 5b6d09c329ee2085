-- The rows of a table in an image: its base, its history, and its indexes.
use Rattle.std.specs.Prelude.{ℕ, zero, suc, List, ◌++◌, map, get_or, Option, None, is_some}
use Rattle.std.specs.List.{filter}
use Rattle.std.specs.declared.cmp.Ordering.{Ordering}
use Rattle.sql_value.specs.declared.column.ColumnDef.{ColumnDef}
use Rattle.sql_types.specs.declared.table.TableDef.{TableDef}
use Rattle.sql_types.specs.declared.table.IndexDef.{IndexDef}
use Rattle.sql_types.specs.declared.version.TypedValue.{TypedValue}
use Rattle.sql_types.specs.declared.version.Version.{Version}
use Rattle.sql_types.specs.declared.version.Table.{Table}
use Rattle.sql_types.specs.declared.image.TableRows.{TableRows}
use Rattle.spec_model.specs.Lists.{sorted}
use Rattle.spec_model.specs.Rows.{value_or_null, live, filled_stored}
use Rattle.spec_model.specs.Keys.{key_places, key_cmp}

-- a row as it is stored: a value with its type for each column, NULL being none
abbrev pub Stored : Type 0
Stored = List (Option TypedValue)

-- the value of the column with this ordinal, counted from 1
abbrev pub stored_at : Stored → ℕ → Option TypedValue
stored_at row zero = None
stored_at row (suc n) = get_or row n None

-- the ordinals of an index's columns, and then those of the key's columns, by key position
unfoldable pub index_ordinals : TableDef → IndexDef → List ℕ
index_ordinals def index = index.ordinals ++ map suc (key_places def.columns)

-- the row of an index for a version
abbrev pub index_row : TableDef → IndexDef → Version → Stored
index_row def index v = map (stored_at v.values) (index_ordinals def index)

-- by the first value, then by the second, and so on
unfoldable pub stored_cmp : Stored → Stored → Ordering
stored_cmp a b = key_cmp (map value_or_null a) (map value_or_null b)

-- the rows of an index: one for each base row, sorted
unfoldable pub index_rows : TableDef → List Version → IndexDef → List Stored
index_rows def base index = sorted stored_cmp (map (index_row def index) base)

-- the versions that have ended
abbrev pub ended_ones : List Version → List Version
ended_ones versions = filter (λ v. is_some v.end) versions

-- a version with a value for each of these columns; what is missing is NULL
abbrev pub filled_version : List ColumnDef → Version → Version
filled_version columns v = record { values = filled_stored columns v.values; start = v.start; end = v.end }

abbrev pub filled_table : Table → Table
filled_table t = record { def = t.def; versions = map (filled_version t.def.columns) t.versions }

-- the versions of a table that stand, those that have ended, and the rows of its indexes
abbrev pub rows_by_part : Table → TableRows
rows_by_part t =
    record {
      base = live t.versions;
      history = ended_ones t.versions;
      indexes = map (index_rows t.def (live t.versions)) t.def.indexes;
    }

-- the rows of a table, each with a value for each column; the versions of a table stand by rising start
unfoldable pub table_rows : Table → TableRows
table_rows t = rows_by_part (filled_table t)
