-- A definition, as the rows of the two tables of the system tell it so far.
use Rattle.std.specs.Prelude.{ℕ, ℤ, pos, ◌==◌, ◌||◌, not, Bool, false, if◌then◌else◌, List, [], ◌∷◌, map, length, Option, Some, None, option_map}
use Rattle.std.specs.List.{filter, filter_map, list_any}
use Rattle.std.specs.Ordering.{int_cmp, int_eq, is_gt}
use Rattle.sql_value.specs.declared.column.ColumnDef.{ColumnDef}
use Rattle.sql_value.specs.declared.column.TableKind.{TableKind}
use Rattle.sql_value.specs.declared.column.TableKind.TheVariants.{AppendOnly, Updatable}
use Rattle.sql_value.specs.declared.value.Value.{Value}
use Rattle.sql_value.specs.declared.value.Value.TheVariants.{Text}
use Rattle.sql_types.specs.declared.table.IndexDef.{IndexDef}
use Rattle.sql_types.specs.declared.table.TableDef.{TableDef}
use Rattle.spec_model.specs.Keys.{same_key, value_at}
use Rattle.spec_model.specs.Lists.{numbered}
use Rattle.spec_model.specs.Rows.{Row}
use Rattle.spec_model.specs.SystemTables.{index_row}
use Rattle.law_catalog_rows.specs.Changes.{is_dropped}
use Rattle.law_catalog_rows.specs.Encoded.{about}
use Rattle.law_catalog_rows.specs.Latest.{number_at, is_past}

-- ---- rows that count

-- the later of two rows about one thing, which is named at k: the one with the greater change
abbrev pub later_row : ℕ → Option Row → Row → Option Row
later_row k None row = Some row
later_row k (Some last) row = if is_past k row last then Some row else Some last

-- behind the last one that was found so far
abbrev pub last_row_from : ℕ → ℤ → Option Row → List Row → Option Row
last_row_from k thing last [] = last
last_row_from k thing last (row ∷ rows) =
    last_row_from k thing (if int_eq (number_at k row) thing then later_row k last row else last) rows

-- of the rows about this thing the one with the greatest change, and of several the first
abbrev pub last_row : ℕ → ℤ → List Row → Option Row
last_row k thing rows = last_row_from k thing None rows

-- the text at this place of a row; it is empty where none stands
abbrev pub text_in : Value → List ℕ
text_in (Text text) = text
text_in _ = []

abbrev pub text_at : ℕ → Row → List ℕ
text_at place row = text_in (value_at row place)

-- ---- columns

-- a column as its row says it; its type and its place in the key never change
abbrev pub column_said : ColumnDef → Row → ColumnDef
column_said c row =
    record {
      name = text_at 3 row;
      ty = c.ty;
      nullable = not (int_eq (number_at 7 row) (pos 0));
      key_position = c.key_position;
    }

abbrev pub column_told : List Row → ℕ × ColumnDef → Option ColumnDef
column_told rows c = option_map (column_said c.1) (last_row 1 (pos c.0) rows)

-- of some columns those that have a row
abbrev pub columns_told : List Row → List ColumnDef → List ColumnDef
columns_told rows columns = filter_map (column_told rows) (numbered 1 columns)

abbrev pub says_dropped : Option Row → Bool
says_dropped None = false
says_dropped (Some row) = is_dropped row

-- of the ordinals of dropped columns those whose row says so
abbrev pub dropped_told : List Row → List ℕ → List ℕ
dropped_told rows dropped = filter (λ ordinal. says_dropped (last_row 1 (pos ordinal) rows)) dropped

-- ---- indexes, which never change

abbrev pub has_row : List Row → Row → Bool
has_row rows row = list_any (same_key row) rows

-- of an index, which is number g of its table, the parts that have their row
abbrev pub index_told : List Row → ℕ → ℕ × IndexDef → IndexDef
index_told rows id g =
    record {
      name = g.1.name;
      ordinals = map (λ p. p.1) (filter (λ p. has_row rows (index_row id g.0 g.1.name p)) (numbered 1 g.1.ordinals));
    }

-- of some indexes those of which some part has its row
abbrev pub indexes_told : List Row → ℕ → List IndexDef → List IndexDef
indexes_told rows id indexes =
    filter (λ i. not (length i.ordinals == 0)) (map (index_told rows id) (numbered 1 indexes))

-- ---- all of it

-- the columns, the indexes and the parts of indexes of which there is a row
abbrev pub items_told : List Row → TableDef → TableDef
items_told rows def =
    record def {
      columns = columns_told rows def.columns;
      dropped = dropped_told rows def.dropped;
      indexes = indexes_told rows def.id def.indexes;
    }

-- The kind that the number in a table's row stands for: 1 and 3 are append-only, 2 and 4 updatable. No definition is
-- spelled by a row with another number.
abbrev pub kind_numbered : ℤ → TableKind
kind_numbered number = if int_eq number (pos 1) || int_eq number (pos 3) then AppendOnly else Updatable

-- a table as its row says it: its names, its kind, and whether it was dropped
abbrev pub table_told : Option Row → TableDef → TableDef
table_told None def = def
table_told (Some row) def =
    record def {
      name = text_at 2 row;
      kind = kind_numbered (number_at 3 row);
      gone = is_gt (int_cmp (number_at 3 row) (pos 2));
      history = text_at 4 row;
      view = text_at 5 row;
    }

-- what these rows tell of a definition that later rows say whole
unfoldable pub def_told : List Row → List Row → TableDef → TableDef
def_told first second def =
    table_told (last_row 0 (pos def.id) (about (pos def.id) first)) (items_told (about (pos def.id) second) def)
