-- Versions: each has its table's columns and fits them as they were when it started, and those of one key follow
-- one another.
use Rattle.std.specs.Prelude.{ℕ, ℤ, pos, ◌+◌, ◌==◌, ◌&&◌, ◌||◌, not, Bool, true, false, if◌then◌else◌, nat_le, List, [], ◌∷◌, map, flat_map, Option, Some, None, is_some, is_none}
use Rattle.std.specs.List.{filter}
use Rattle.std.specs.Ordering.{int_eq}
use Rattle.sql_value.specs.declared.value.Value.{Value}
use Rattle.sql_value.specs.declared.value.Value.TheVariants.{Num}
use Rattle.sql_value.specs.declared.column.ColumnDef.{ColumnDef}
use Rattle.sql_value.specs.declared.sql_type.SqlType.{SqlType}
use Rattle.sql_value.specs.Stored.{is_stored}
use Rattle.sql_types.specs.declared.entry.TxEntry.{TxEntry}
use Rattle.sql_types.specs.declared.image.Image.{Image}
use Rattle.sql_types.specs.declared.image.TableRows.{TableRows}
use Rattle.sql_types.specs.declared.table.TableDef.{TableDef}
use Rattle.sql_types.specs.declared.version.Table.{Table}
use Rattle.sql_types.specs.declared.version.TypedValue.{TypedValue}
use Rattle.sql_types.specs.declared.version.Version.{Version}
use Rattle.spec_model.specs.Checks.{is_append_only}
use Rattle.spec_model.specs.Keys.{value_at}
use Rattle.spec_model.specs.Rows.{EventId, values_of}
use Rattle.spec_model.specs.SystemTables.{columns_id, columns_columns}
use Rattle.sql_value.specs.TypeCodes.{type_code, first_parameter, second_parameter}
use Rattle.format_image.specs.Rows.{Stored}
use Rattle.format_image.specs.Tables.{tables_in}
use Rattle.spec_verify.specs.declared.place.Place.{Place}
use Rattle.spec_verify.specs.Entries.{TableEvent, least_event}
use Rattle.spec_verify.specs.Order.{is_before, is_in_order, last_started, shares_key}

-- they have one code and one set of parameters
abbrev pub same_type : SqlType → SqlType → Bool
same_type a b =
    type_code a == type_code b
    && (first_parameter a == first_parameter b && second_parameter a == second_parameter b)

-- NULL, or a value of the column's type that the type stores
abbrev pub is_of : ColumnDef → Option TypedValue → Bool
is_of c None = true
is_of c (Some t) = same_type t.ty c.ty && is_stored t.value c.ty

-- a value of each column's type, and nothing more
abbrev pub has_columns : List ColumnDef → Stored → Bool
has_columns [] [] = true
has_columns (c ∷ cs) (v ∷ vs) = is_of c v && has_columns cs vs
has_columns _ _ = false

-- NULL stands only where the column may be NULL
abbrev pub respects_not_null : List ColumnDef → Stored → Bool
respects_not_null (c ∷ cs) (v ∷ vs) = (c.nullable || is_some v) && respects_not_null cs vs
respects_not_null _ _ = true

-- the versions that have the columns of their table and their types: keys are compared among these
abbrev pub with_columns : List ColumnDef → List Version → List Version
with_columns columns versions = filter (λ (v : Version). has_columns columns v.values) versions

-- ---- columns as they were

-- the base rows of the table of columns, the second table of an image
abbrev pub rows_of_columns : List TableRows → List Version
rows_of_columns (first ∷ second ∷ more) = second.base
rows_of_columns _ = []

-- the value is this number
abbrev pub is_number : ℤ → Value → Bool
is_number n (Num s v) = int_eq v n
is_number n _ = false

-- the row is about column n of the table with this id: it has the columns of the table of columns, and its
-- first two values are the id and n
abbrev pub is_about_column : ℕ → ℕ → Version → Bool
is_about_column table n r =
    has_columns columns_columns r.values
    && (is_number (pos table) (value_at (values_of r) 0) && is_number (pos n) (value_at (values_of r) 1))

-- the row says NOT NULL: its eighth value is 0
abbrev pub says_not_null : Version → Bool
says_not_null r = is_number (pos 0) (value_at (values_of r) 7)

-- a column takes the value, by the last row about it: NULL where there is none, and not NULL where that row says
-- NOT NULL
abbrev pub takes : Option Version → Option TypedValue → Bool
takes None v = is_none v
takes (Some r) v = is_some v || not (says_not_null r)

module _ (entries : List TxEntry) (second : List Version) where
  -- the column as of an event: the last row about it that started before
  abbrev pub column_as_of : ℕ → ℕ → EventId → Option Version
  column_as_of table n at =
      last_started entries (filter (λ (r : Version). is_about_column table n r && is_before entries r.start at) second)

  -- these values, of column n and of those behind it
  abbrev pub respects_from : ℕ → ℕ → EventId → Stored → Bool
  respects_from table n at [] = true
  respects_from table n at (v ∷ vs) = takes (column_as_of table n at) v && respects_from table (n + 1) at vs

  -- NULL stands where it may: in the tables of the system as they are defined, and in another by its columns as
  -- they were when the version started
  abbrev pub respects_columns : TableDef → Version → Bool
  respects_columns def v =
      if nat_le def.id columns_id then respects_not_null def.columns v.values
      else respects_from def.id 1 v.start v.values

-- ---- versions

module _ (entries : List TxEntry) (second : List Version) where
  -- its values are those of the table's columns, with NULL where it may be; it has no end where the table is
  -- append-only; where it is in the base no earlier base row has its key; and it stands in order among the
  -- versions of its key
  abbrev pub version_holds : Table → Version → Bool
  version_holds t v =
      has_columns t.def.columns v.values && respects_columns entries second t.def v
      && not (is_append_only t.def.kind && is_some v.end)
      && not (shares_key entries t.def.columns (with_columns t.def.columns t.versions) v)
      && is_in_order entries t.def.columns (with_columns t.def.columns t.versions) v

  -- the starts of those for which it does not hold
  abbrev pub bad_versions : Table → List TableEvent
  bad_versions t =
      map (λ (v : Version). (t.def.id, v.start)) (filter (λ v. not (version_holds t v)) t.versions)

-- of the versions for which that fails, in all tables, the start of the least
unfoldable pub version_fault : Image → Option Place
version_fault i = least_event (flat_map (bad_versions i.entries (rows_of_columns i.tables)) (tables_in i))
