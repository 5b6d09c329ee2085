-- Primary keys, and what a statement reads of a table's versions.
use Rattle.std.specs.Prelude.{ℕ, ◌==◌, not, Bool, List, map, get_or, Option, Some, None, is_none, slice_get}
use Rattle.std.specs.List.{filter, list_any, filter_map}
use Rattle.std.specs.declared.cmp.Ordering.{Ordering}
use Rattle.std.specs.Ordering.{is_eq, nat_cmp}
use Rattle.std.specs.Cmp.Lexicographic.{slice_cmp}
use Rattle.sql_value.specs.declared.value.Value.{Value}
use Rattle.sql_value.specs.declared.value.Value.TheVariants.{Null}
use Rattle.sql_value.specs.declared.column.ColumnDef.{ColumnDef}
use Rattle.sql_value.specs.Order.{value_cmp}
use Rattle.sql_types.specs.declared.version.Version.{Version}
use Rattle.spec_model.specs.Lists.{sorted, numbered}
use Rattle.spec_model.specs.Rows.{Row, values_of, live}

-- a column at its place, counted from 0
abbrev pub Placed : Type 0
Placed = ℕ × ColumnDef

abbrev pub position_cmp : Placed → Placed → Ordering
position_cmp a b = nat_cmp a.1.key_position b.1.key_position

-- the places of the columns that have a key position, by that position
unfoldable pub key_places : List ColumnDef → List ℕ
key_places columns =
    map (λ p. p.0) (sorted position_cmp (filter (λ p. not (p.1.key_position == 0)) (numbered 0 columns)))

-- the key's columns, by key position
abbrev pub key_columns : List ColumnDef → List ColumnDef
key_columns columns = filter_map (slice_get columns) (key_places columns)

abbrev pub value_at : Row → ℕ → Value
value_at row place = get_or row place Null

abbrev pub Key : Type 0
Key = List Value

-- ---- by the places of the key's columns

-- the key of a row
unfoldable pub key_at : List ℕ → Row → Key
key_at places row = map (value_at row) places

-- keys are ordered by their first value, then by the second, and so on
unfoldable pub key_cmp : Key → Key → Ordering
key_cmp = slice_cmp value_cmp

unfoldable pub same_key : Key → Key → Bool
same_key a b = is_eq (key_cmp a b)

abbrev pub version_key_at : List ℕ → Version → Key
version_key_at places v = key_at places (values_of v)

-- the versions of one key
abbrev pub of_key_at : List ℕ → Key → List Version → List Version
of_key_at places key versions = filter (λ v. same_key (version_key_at places v) key) versions

-- what a statement reads of the versions of a base table: those of one key, or all
abbrev pub part_read_at : List ℕ → Option Key → List Version → List Version
part_read_at places None versions = versions
part_read_at places (Some key) versions = of_key_at places key versions

-- a row of this key stands
unfoldable pub has_live_row_at : List ℕ → Key → List Version → Bool
has_live_row_at places key versions = list_any (λ v. is_none v.end) (part_read_at places (Some key) versions)

-- the rows that stand, in key order: those of one key, or all
unfoldable pub live_by_key_at : List ℕ → Option Key → List Version → List Version
live_by_key_at places key versions =
    sorted (λ v w. key_cmp (version_key_at places v) (version_key_at places w))
    (live (part_read_at places key versions))

-- ---- by the columns of a table, which say the places

abbrev pub key_of : List ColumnDef → Row → Key
key_of columns row = key_at (key_places columns) row

abbrev pub version_key : List ColumnDef → Version → Key
version_key columns v = key_of columns (values_of v)

abbrev pub of_key : List ColumnDef → Key → List Version → List Version
of_key columns key versions = of_key_at (key_places columns) key versions

abbrev pub part_read : List ColumnDef → Option Key → List Version → List Version
part_read columns key versions = part_read_at (key_places columns) key versions

abbrev pub has_live_row : List ColumnDef → Key → List Version → Bool
has_live_row columns key versions = has_live_row_at (key_places columns) key versions

abbrev pub live_by_key : List ColumnDef → Option Key → List Version → List Version
live_by_key columns key versions = live_by_key_at (key_places columns) key versions
