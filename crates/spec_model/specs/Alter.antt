-- ALTER TABLE and DROP TABLE: what is checked, the definition that takes the place of the table's, and the row of a system
-- table that says so. A dropped table and a dropped column stay where they are, under other names; a version keeps the
-- values that it has, and counts as NULL in a column that was added behind it.
use Rattle.std.specs.Prelude.{ℕ, suc, pos, ◌==◌, ◌||◌, not, nat_le, true, if◌then◌else◌, List, [], ◌∷◌, ◌++◌, map, length, codes, Option, Some, None, option_and_then, slice_get, slice_set, Ok}
use Rattle.std.specs.List.{list_any, filter}
use Rattle.std.specs.Fmt.{decimal}
use Rattle.std.specs.Ordering.{nat_cmp}
use Rattle.sql_value.specs.declared.value.Value.{Value}
use Rattle.sql_value.specs.declared.value.Value.TheVariants.{Num}
use Rattle.sql_value.specs.declared.column.ColumnDef.{ColumnDef}
use Rattle.sql_value.specs.declared.refusal.Refusal.TheVariants.{NoSuchTable, NameConflict, NoSuchColumn, ReadOnlyTable, KeyNotUpdatable, LimitExceeded}
use Rattle.sql_value.specs.Stored.{is_in_range}
use Rattle.sql_types.specs.declared.statement.Alter.{Alter}
use Rattle.sql_types.specs.declared.statement.Alter.TheVariants.{Add, DropColumn}
use Rattle.sql_types.specs.declared.table.TableDef.{TableDef}
use Rattle.sql_types.specs.declared.version.Version.{Version}
use Rattle.spec_model.specs.Refusals.{Checked, and_then, or_refused}
use Rattle.spec_model.specs.Columns.{names_of, place_of}
use Rattle.spec_model.specs.LiveColumns.{is_dropped}
use Rattle.spec_model.specs.Limits.{max_columns}
use Rattle.spec_model.specs.Lists.{has_name, repeats, inserted, greatest}
use Rattle.spec_model.specs.Rows.{stored_row, values_of}
use Rattle.spec_model.specs.Keys.{value_at}
use Rattle.spec_model.specs.Changes.{Change, Starts}
use Rattle.spec_model.specs.Catalog.{Defs, NamedPart, find_part}
use Rattle.spec_model.specs.Checks.{refused_if, is_standing}
use Rattle.spec_model.specs.SystemTables.{tables_columns, columns_columns, changed_table_row, changed_column_row}
use Rattle.spec_model.specs.Create.{table_names, all_names, is_long, is_ledger_name}

-- ---- names of what was dropped

-- what was dropped: the name that it had, and a number that no other has
abbrev pub dropped_name : List ℕ → List ℕ → ℕ → List ℕ
dropped_name what name n = codes "MSSQL_DroppedLedger" ++ what ++ codes "_" ++ name ++ codes "_" ++ decimal n

abbrev pub dropped_column_name : List ℕ → ℕ → List ℕ
dropped_column_name name ordinal = dropped_name (codes "Column") name ordinal

abbrev pub dropped_table_name : List ℕ → ℕ → List ℕ
dropped_table_name name id = dropped_name (codes "Table") name id

-- what has no history gets no name for it
abbrev pub dropped_history_name : List ℕ → ℕ → List ℕ
dropped_history_name [] id = []
dropped_history_name (b ∷ bs) id = dropped_name (codes "History") (b ∷ bs) id

abbrev pub dropped_view_name : List ℕ → ℕ → List ℕ
dropped_view_name name id = dropped_name (codes "View") name id

-- ---- definitions

abbrev pub with_columns : List ColumnDef → List ℕ → TableDef → TableDef
with_columns columns dropped def =
    record {
      id = def.id;
      name = def.name;
      kind = def.kind;
      gone = def.gone;
      history = def.history;
      view = def.view;
      columns = columns;
      dropped = dropped;
      indexes = def.indexes;
    }

-- an added column may be NULL and is in no key
abbrev pub column_to_add : ColumnDef → ColumnDef
column_to_add c = record { name = c.name; ty = c.ty; nullable = true; key_position = 0 }

-- with this column behind all others
abbrev pub with_added : TableDef → ColumnDef → TableDef
with_added def c = with_columns (def.columns ++ column_to_add c ∷ []) def.dropped def

-- a dropped column has another name and may be NULL
abbrev pub dropped_column : ℕ → ColumnDef → ColumnDef
dropped_column ordinal c =
    record {
      name = dropped_column_name c.name ordinal;
      ty = c.ty;
      nullable = true;
      key_position = c.key_position;
    }

-- with the column at this place, counted from 0, dropped
abbrev pub with_dropped : TableDef → ℕ × ColumnDef → TableDef
with_dropped def p =
    with_columns
    (slice_set def.columns p.0 (dropped_column (suc p.0) p.1)) (inserted nat_cmp (suc p.0) def.dropped) def

-- a dropped table has other names
unfoldable pub dropped_table : TableDef → TableDef
dropped_table def =
    record {
      id = def.id;
      name = dropped_table_name def.name def.id;
      kind = def.kind;
      gone = true;
      history = dropped_history_name def.history def.id;
      view = dropped_view_name def.view def.id;
      columns = def.columns;
      dropped = def.dropped;
      indexes = def.indexes;
    }

-- ---- checks of ALTER TABLE, in their order

-- a definition, and the ordinal and the definition of its column that was added or dropped
abbrev pub WithColumn : Type 0
WithColumn = TableDef × (ℕ × ColumnDef)

abbrev pub added_to : TableDef → ColumnDef → WithColumn
added_to def c = (with_added def c, (suc (length def.columns), column_to_add c))

abbrev pub add_check_in : ColumnDef → NamedPart → Checked WithColumn
add_check_in c n =
    refused_if (has_name (names_of n.0.columns) c.name || is_ledger_name c.name) NameConflict
    (refused_if (nat_le max_columns (length n.0.columns) || not (is_in_range c.ty) || is_long c.name) LimitExceeded
    (refused_if (not (is_standing n.0 n.1)) ReadOnlyTable
    (Ok (added_to n.0 c))))

-- the column at this place, unless it was dropped
abbrev pub live_at : TableDef → ℕ → Option (ℕ × ColumnDef)
live_at def place =
    if is_dropped def (suc place) then None
    else option_and_then (λ c. Some (place, c)) (slice_get def.columns place)

-- the live column of this name, with its place
abbrev pub live_named : TableDef → List ℕ → Option (ℕ × ColumnDef)
live_named def name = option_and_then (live_at def) (place_of def.columns name)

abbrev pub new_name_of : Option (ℕ × ColumnDef) → List (List ℕ)
new_name_of None = []
new_name_of (Some p) = dropped_column_name p.1.name (suc p.0) ∷ []

-- the new name of a column to be dropped: there is one for a live column of a table that stands
abbrev pub new_column_names : NamedPart → List ℕ → List (List ℕ)
new_column_names n name = if is_standing n.0 n.1 then new_name_of (live_named n.0 name) else []

abbrev pub dropped_from : TableDef → ℕ × ColumnDef → WithColumn
dropped_from def p = (with_dropped def p, (suc p.0, dropped_column (suc p.0) p.1))

abbrev pub drop_column_check : TableDef → ℕ × ColumnDef → Checked WithColumn
drop_column_check def p = refused_if (not (p.1.key_position == 0)) KeyNotUpdatable (Ok (dropped_from def p))

abbrev pub drop_column_check_in : List ℕ → NamedPart → Checked WithColumn
drop_column_check_in name n =
    refused_if (list_any (has_name (names_of n.0.columns)) (new_column_names n name)) NameConflict
    (refused_if (list_any is_long (new_column_names n name)) LimitExceeded
    (refused_if (not (is_standing n.0 n.1)) ReadOnlyTable
    (and_then (or_refused NoSuchColumn (live_named n.0 name)) (drop_column_check n.0))))

-- the definition after, where nothing is refused
unfoldable pub alter_check : Defs → Alter → Checked WithColumn
alter_check defs (Add table column) = and_then (or_refused NoSuchTable (find_part defs table)) (add_check_in column)
alter_check defs (DropColumn table column) =
    and_then (or_refused NoSuchTable (find_part defs table)) (drop_column_check_in column)

-- ---- checks of DROP TABLE, in their order

-- the new names of a table to be dropped: there are such for a table that stands
abbrev pub new_table_names : NamedPart → List (List ℕ)
new_table_names n = if is_standing n.0 n.1 then table_names (dropped_table n.0) else []

abbrev pub drop_check_in : Defs → NamedPart → Checked TableDef
drop_check_in defs n =
    refused_if (repeats (new_table_names n) || list_any (has_name (all_names defs)) (new_table_names n)) NameConflict
    (refused_if (list_any is_long (new_table_names n)) LimitExceeded
    (refused_if (not (is_standing n.0 n.1)) ReadOnlyTable
    (Ok (dropped_table n.0))))

unfoldable pub drop_check : Defs → List ℕ → Checked TableDef
drop_check defs name = and_then (or_refused NoSuchTable (find_part defs name)) (drop_check_in defs)

-- ---- the row that says so

-- a whole number that isn't negative; anything else counts as 0
abbrev pub count_in : Value → ℕ
count_in (Num s (pos n)) = n
count_in _ = 0

abbrev pub count_at : ℕ → Version → ℕ
count_at place v = count_in (value_at (values_of v) place)

-- the changes of the rows about a table, which stand at this place of a row
abbrev pub changes_at : ℕ → ℕ → List Version → List ℕ
changes_at place id versions = map (count_at place) (filter (λ v. count_at 0 v == id) versions)

-- one above the greatest change of a table in the rows of both system tables
unfoldable pub next_change : ℕ → List Version → List Version → ℕ
next_change id first second = suc (greatest (changes_at 1 id first ++ changes_at 2 id second))

-- ---- the whole statement

-- the definition that takes the place of the one with its id, and the rows that start in the two system tables
pub record Altered : Type 0 where
  pub def : TableDef
  pub first : List Change
  pub second : List Change

-- of ALTER TABLE one in the second
abbrev pub altered_table : ℕ → WithColumn → Altered
altered_table change x =
    record {
      def = x.0;
      first = [];
      second = Starts (stored_row columns_columns (changed_column_row change x.0 x.1)) ∷ [];
    }

-- of DROP TABLE one in the first
abbrev pub gone_table : ℕ → TableDef → Altered
gone_table change def =
    record {
      def = def;
      first = Starts (stored_row tables_columns (changed_table_row change def)) ∷ [];
      second = [];
    }

module _ (defs : Defs) (first second : List Version) where
  -- what ALTER TABLE makes over these definitions and these versions of the system tables
  abbrev pub alteration : Alter → Checked Altered
  alteration a =
      and_then (alter_check defs a) (λ x. Ok (altered_table (next_change x.0.id first second) x))

  -- what DROP TABLE makes
  abbrev pub table_drop : List ℕ → Checked Altered
  table_drop name =
      and_then (drop_check defs name) (λ def. Ok (gone_table (next_change def.id first second) def))
