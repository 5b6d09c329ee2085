-- A transaction in which a row about a table starts has events in the system tables alone. All its rows there are
-- about this table, and they are those of one statement. Events of a transaction are numbered from 0.
use Rattle.std.specs.Prelude.{ℕ, ℤ, pos, negsuc, ◌+ℤ◌, ◌%◌, ◌==◌, ◌&&◌, ◌||◌, not, nat_lt, Bool, false, List, [], ◌∷◌, ◌++◌}
use Rattle.std.specs.List.{filter, list_all, list_any}
use Rattle.std.specs.Ordering.{int_eq}
use Rattle.sql_types.specs.declared.entry.TxEntry.{TxEntry}
use Rattle.spec_model.specs.SystemTables.{tables_id, columns_id}
use Rattle.spec_rules.specs.Places.{PlacedRow, rooted_at}
use Rattle.spec_rules.specs.Rows.{CatalogRows, is_column_row, item_of, has_no_change, is_about_table, tables_about, items_about}

-- the number of the row's start in its transaction
abbrev pub number_of : PlacedRow → ℕ
number_of r = r.place.1

-- ---- the rows of a statement, of both system tables

-- the row of a column of a new table, whose ordinal is its number
abbrev pub is_column_created : PlacedRow → Bool
is_column_created r = is_column_row r && has_no_change 1 r && int_eq (item_of r) (pos (number_of r))

-- CREATE TABLE: the row of the table, then its columns
abbrev pub creates_table : List PlacedRow → List PlacedRow → Bool
creates_table (r ∷ []) items = has_no_change 0 r && number_of r == 0 && list_all is_column_created items
creates_table _ items = false

-- 1001, 2001 and so on
abbrev pub starts_an_index : ℤ → Bool
starts_an_index (pos n) = nat_lt 1000 n && n % 1000 == 1
starts_an_index (negsuc n) = false

-- the item is as far above this one as the number of the row says
abbrev pub continues_index : ℤ → PlacedRow → Bool
continues_index item r = has_no_change 1 r && int_eq (item_of r) (item +ℤ pos (number_of r))

-- CREATE INDEX: the parts of one index, one after another
abbrev pub creates_index : List PlacedRow → List PlacedRow → Bool
creates_index [] items =
    list_any (λ f. starts_an_index (item_of f) && list_all (continues_index (item_of f)) items) items
creates_index _ items = false

-- ADD and DROP COLUMN: one row of a column
abbrev pub alters_table : List PlacedRow → List PlacedRow → Bool
alters_table [] (r ∷ []) = not (has_no_change 1 r)
alters_table _ _ = false

-- DROP TABLE: one row of the table
abbrev pub drops_table : List PlacedRow → List PlacedRow → Bool
drops_table (r ∷ []) [] = not (has_no_change 0 r)
drops_table _ _ = false

abbrev pub are_of_one_statement : List PlacedRow → List PlacedRow → Bool
are_of_one_statement tables items =
    creates_table tables items || creates_index tables items || alters_table tables items
    || drops_table tables items

-- ---- transactions

abbrev pub is_system_table : ℕ → Bool
is_system_table id = id == tables_id || id == columns_id

-- the rows that start in the transaction with the entry at this position
abbrev pub started_at : ℕ → List PlacedRow → List PlacedRow
started_at position rows = filter (λ r. r.place.0 == position) rows

module _ (entries : List TxEntry) (rows : CatalogRows) (t : ℤ) where
  -- the transaction with the entry at this position is one statement about t
  abbrev pub is_one_statement : ℕ → Bool
  is_one_statement position =
      list_all is_system_table (rooted_at entries position)
      && list_all (is_about_table t) (started_at position rows.tables)
      && list_all (is_about_table t) (started_at position rows.items)
      && are_of_one_statement (started_at position rows.tables) (started_at position rows.items)

  -- so it is with each transaction in which a row about t starts
  unfoldable pub one_statement : Bool
  one_statement = list_all (λ r. is_one_statement r.place.0) (tables_about rows t ++ items_about rows t)
