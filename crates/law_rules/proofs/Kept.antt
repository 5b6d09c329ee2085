-- What each statement keeps that enters rows in the tables of the system.
use Rattle.std.proofs.Common.{◌≡◌, ◌≤◌, ℕ, ◌+◌, List, [], ◌∷◌, ◌++◌, length, Ok}
use Rattle.std.specs.Prelude.{pos, ◌<ℤ◌}
use Rattle.std.specs.List.{AllByRecursion}
use Rattle.sql_value.specs.declared.column.ColumnDef.{ColumnDef}
use Rattle.sql_types.specs.declared.statement.CreateIndex.{CreateIndex}
use Rattle.sql_types.specs.declared.statement.CreateTable.{CreateTable}
use Rattle.sql_types.specs.declared.statement.RowStmt.{RowStmt}
use Rattle.sql_types.specs.declared.table.IndexDef.{IndexDef}
use Rattle.sql_types.specs.declared.table.TableDef.{TableDef}
use Rattle.spec_model.specs.Alter.{WithColumn, added_to, dropped_from, dropped_table}
use Rattle.spec_model.specs.Catalog.{Tables, changed_table, defs_of, versions_of}
use Rattle.spec_model.specs.Changes.{Changes, changed_all, row_changes}
use Rattle.spec_model.specs.Checks.{row_statement_check}
use Rattle.spec_model.specs.Create.{create_check, index_check, with_index}
use Rattle.spec_model.specs.Effect.{redefined}
use Rattle.spec_model.specs.Rows.{EventId}
use Rattle.spec_model.specs.SystemTables.{table_row, column_rows, index_rows, changed_table_row, changed_column_row}
use Rattle.law_frame.proofs.Alterations.{Added, ColumnDropped, TableDropped}
use Rattle.law_journal.specs.Kept.{KeptTable}
use Rattle.law_journal.proofs.DefLists.{redef}
use Rattle.law_catalog_rows.specs.Latest.{change_of}
use Rattle.spec_rules.specs.Places.{EventPlace, PlacedRow}
use Rattle.spec_rules.specs.Rows.{tables_about, items_about}
use Rattle.law_rules.specs.Steps.{Catalog, Entered, Ground, StandBefore, Stands, all_defs}

-- the catalog before and after a statement whose rows start at this place
pub record Around (p : EventPlace) (x y : Catalog) : Type 0 where
  pub before : Ground x
  pub after : Ground y
  pub earlier : StandBefore p x.rows

-- the change is above those of all rows about the table
pub record IsNext (change : ℕ) (x : Catalog) (def : TableDef) : Type 0 where
  pub above : 1 ≤ change
  pub tables : AllByRecursion (λ (r : PlacedRow). change_of 0 r.row <ℤ pos change) (tables_about x.rows (pos def.id))
  pub items : AllByRecursion (λ (r : PlacedRow). change_of 1 r.row <ℤ pos change) (items_about x.rows (pos def.id))

-- the row of a changed column was entered, and the definition that has the column took its table's place
pub record ColumnEntered (p : EventPlace) (change : ℕ) (c : WithColumn) (x y : Catalog) : Type 0 where
  pub rows : Entered p [] (changed_column_row change c.0 c.1 ∷ []) x y
  pub defs : y.defs ≡ redef c.0 x.defs

pub record StepsKeep (P : Catalog → Type 0) : Type 0 where
  pub table_created : (p : EventPlace) (x y : Catalog) → Around p x y
      → (c : CreateTable) (def : TableDef) → create_check (all_defs x) c ≡ Ok def
      → Entered p (table_row def ∷ []) (column_rows def) x y → y.defs ≡ x.defs ++ def ∷ [] → P x → P y
  pub index_created : (p : EventPlace) (x y : Catalog) → Around p x y
      → (c : CreateIndex) (i : TableDef × IndexDef) → index_check (all_defs x) c ≡ Ok i → Stands x i.0
      → Entered p [] (index_rows i.0.id (length i.0.indexes + 1) i.1) x y → y.defs ≡ redef (with_index i.0 i.1) x.defs
      → P x → P y
  pub column_added : (p : EventPlace) (x y : Catalog) → Around p x y
      → (table : List ℕ) (c : ColumnDef) (w : WithColumn) (a : Added (all_defs x) table c w) → Stands x a.found.0
      → (change : ℕ) → IsNext change x a.found.0 → ColumnEntered p change (added_to a.found.0 c) x y → P x → P y
  pub column_dropped : (p : EventPlace) (x y : Catalog) → Around p x y
      → (table name : List ℕ) (w : WithColumn) (d : ColumnDropped (all_defs x) table name w) → Stands x d.found.0
      → (change : ℕ) → IsNext change x d.found.0 → ColumnEntered p change (dropped_from d.found.0 d.column) x y → P x → P y
  pub table_dropped : (p : EventPlace) (x y : Catalog) → Around p x y
      → (name : List ℕ) (def : TableDef) (d : TableDropped (all_defs x) name def) → Stands x d.found.0
      → (change : ℕ) → IsNext change x d.found.0
      → Entered p (changed_table_row change (dropped_table d.found.0) ∷ []) [] x y → y.defs ≡ redef (dropped_table d.found.0) x.defs
      → P x → P y

-- ---- with the users' tables

abbrev pub at_event : (ℕ → ℕ) → EventId → EventPlace
at_event place event = (place event.0, event.1)

-- the tables that the catalog's definitions are of, before this event
pub record UsersAt (place : ℕ → ℕ) (now : EventId) (x : Catalog) (us : Tables) : Type 0 where
  pub defs : defs_of us ≡ x.defs
  pub kept : AllByRecursion (KeptTable place now) us

pub record UsersKeep (place : ℕ → ℕ) (Q : Catalog → Tables → Type 0) : Type 0 where
  pub table_created : (now : EventId) (x y : Catalog) (us : Tables) → Around (at_event place now) x y → UsersAt place now x us
      → (c : CreateTable) (def : TableDef) → create_check (all_defs x) c ≡ Ok def
      → Entered (at_event place now) (table_row def ∷ []) (column_rows def) x y → y.defs ≡ x.defs ++ def ∷ []
      → Q x us → Q y (us ++ record { def = def; versions = [] } ∷ [])
  pub index_created : (now : EventId) (x y : Catalog) (us : Tables) → Around (at_event place now) x y → UsersAt place now x us
      → (c : CreateIndex) (i : TableDef × IndexDef) → index_check (all_defs x) c ≡ Ok i → Stands x i.0
      → Entered (at_event place now) [] (index_rows i.0.id (length i.0.indexes + 1) i.1) x y → y.defs ≡ redef (with_index i.0 i.1) x.defs
      → Q x us → Q y (redefined (with_index i.0 i.1) us)
  pub column_added : (now : EventId) (x y : Catalog) (us : Tables) → Around (at_event place now) x y → UsersAt place now x us
      → (table : List ℕ) (c : ColumnDef) (w : WithColumn) (a : Added (all_defs x) table c w) → Stands x a.found.0
      → (change : ℕ) → IsNext change x a.found.0 → ColumnEntered (at_event place now) change (added_to a.found.0 c) x y
      → Q x us → Q y (redefined (added_to a.found.0 c).0 us)
  pub column_dropped : (now : EventId) (x y : Catalog) (us : Tables) → Around (at_event place now) x y → UsersAt place now x us
      → (table name : List ℕ) (w : WithColumn) (d : ColumnDropped (all_defs x) table name w) → Stands x d.found.0
      → (change : ℕ) → IsNext change x d.found.0 → ColumnEntered (at_event place now) change (dropped_from d.found.0 d.column) x y
      → Q x us → Q y (redefined (dropped_from d.found.0 d.column).0 us)
  pub table_dropped : (now : EventId) (x y : Catalog) (us : Tables) → Around (at_event place now) x y → UsersAt place now x us
      → (name : List ℕ) (def : TableDef) (d : TableDropped (all_defs x) name def) → Stands x d.found.0
      → (change : ℕ) → IsNext change x d.found.0
      → Entered (at_event place now) (changed_table_row change (dropped_table d.found.0) ∷ []) [] x y → y.defs ≡ redef (dropped_table d.found.0) x.defs
      → Q x us → Q y (redefined (dropped_table d.found.0) us)
  -- INSERT, UPDATE and DELETE enter no rows in the system's tables
  pub rows_changed : (now : EventId) (x : Catalog) (us : Tables) → Ground x → StandBefore (at_event place now) x.rows → UsersAt place now x us
      → (stmt : RowStmt) (def : TableDef) → row_statement_check (all_defs x) stmt ≡ Ok def → Stands x def
      → (c : Changes) → row_changes def (versions_of us def.id) stmt ≡ Ok c
      → Q x us → Q x (changed_table def.id (changed_all now.0 now.1 c.0) us)

-- what a statement whose rows start at this event makes of the catalog and of the users' tables
pub record UsersStep (place : ℕ → ℕ) (now : EventId) (x : Catalog) (us : Tables) (Q : Catalog → Tables → Type 0) : Type 0 where
  pub table_created : (y : Catalog) → Around (at_event place now) x y → UsersAt place now x us
      → (c : CreateTable) (def : TableDef) → create_check (all_defs x) c ≡ Ok def
      → Entered (at_event place now) (table_row def ∷ []) (column_rows def) x y → y.defs ≡ x.defs ++ def ∷ []
      → Q y (us ++ record { def = def; versions = [] } ∷ [])
  pub index_created : (y : Catalog) → Around (at_event place now) x y → UsersAt place now x us
      → (c : CreateIndex) (i : TableDef × IndexDef) → index_check (all_defs x) c ≡ Ok i → Stands x i.0
      → Entered (at_event place now) [] (index_rows i.0.id (length i.0.indexes + 1) i.1) x y → y.defs ≡ redef (with_index i.0 i.1) x.defs
      → Q y (redefined (with_index i.0 i.1) us)
  pub column_added : (y : Catalog) → Around (at_event place now) x y → UsersAt place now x us
      → (table : List ℕ) (c : ColumnDef) (w : WithColumn) (a : Added (all_defs x) table c w) → Stands x a.found.0
      → (change : ℕ) → IsNext change x a.found.0 → ColumnEntered (at_event place now) change (added_to a.found.0 c) x y
      → Q y (redefined (added_to a.found.0 c).0 us)
  pub column_dropped : (y : Catalog) → Around (at_event place now) x y → UsersAt place now x us
      → (table name : List ℕ) (w : WithColumn) (d : ColumnDropped (all_defs x) table name w) → Stands x d.found.0
      → (change : ℕ) → IsNext change x d.found.0 → ColumnEntered (at_event place now) change (dropped_from d.found.0 d.column) x y
      → Q y (redefined (dropped_from d.found.0 d.column).0 us)
  pub table_dropped : (y : Catalog) → Around (at_event place now) x y → UsersAt place now x us
      → (name : List ℕ) (def : TableDef) (d : TableDropped (all_defs x) name def) → Stands x d.found.0
      → (change : ℕ) → IsNext change x d.found.0
      → Entered (at_event place now) (changed_table_row change (dropped_table d.found.0) ∷ []) [] x y → y.defs ≡ redef (dropped_table d.found.0) x.defs
      → Q y (redefined (dropped_table d.found.0) us)
  -- INSERT, UPDATE and DELETE enter no rows in the system's tables
  pub rows_changed : Ground x → StandBefore (at_event place now) x.rows → UsersAt place now x us
      → (stmt : RowStmt) (def : TableDef) → row_statement_check (all_defs x) stmt ≡ Ok def → Stands x def
      → (c : Changes) → row_changes def (versions_of us def.id) stmt ≡ Ok c
      → Q x (changed_table def.id (changed_all now.0 now.1 c.0) us)

-- what each statement keeps it makes of a catalog and of tables that have it
pub users_step : (place : ℕ → ℕ) (Q : Catalog → Tables → Type 0) → UsersKeep place Q → (now : EventId) (x : Catalog) (us : Tables) → Q x us → UsersStep place now x us Q
users_step place Q keeps now x us h = record {
  table_created = λ y around at c def passed entered defs. keeps.table_created now x y us around at c def passed entered defs h;
  index_created = λ y around at c i passed st entered defs. keeps.index_created now x y us around at c i passed st entered defs h;
  column_added = λ y around at table c w a st change next entered. keeps.column_added now x y us around at table c w a st change next entered h;
  column_dropped = λ y around at table name w d st change next entered. keeps.column_dropped now x y us around at table name w d st change next entered h;
  table_dropped = λ y around at name def d st change next entered defs. keeps.table_dropped now x y us around at name def d st change next entered defs h;
  rows_changed = λ ground before at stmt def passed st c is. keeps.rows_changed now x us ground before at stmt def passed st c is h;
}

-- what no change of a user's rows concerns
pub of_catalogs : (place : ℕ → ℕ) (P : Catalog → Type 0) → StepsKeep P → UsersKeep place (λ x us. P x)
of_catalogs place P keeps = record {
  table_created = λ now x y us around at c def passed entered defs h. keeps.table_created (at_event place now) x y around c def passed entered defs h;
  index_created = λ now x y us around at c i passed st entered defs h. keeps.index_created (at_event place now) x y around c i passed st entered defs h;
  column_added = λ now x y us around at table c w a st change next entered h. keeps.column_added (at_event place now) x y around table c w a st change next entered h;
  column_dropped = λ now x y us around at table name w d st change next entered h. keeps.column_dropped (at_event place now) x y around table name w d st change next entered h;
  table_dropped = λ now x y us around at name def d st change next entered defs h. keeps.table_dropped (at_event place now) x y around name def d st change next entered defs h;
  rows_changed = λ now x us ground before at stmt def passed st c is h. h;
}
