-- The effect of one table statement: the tables after, the counter of events after, and the reply.
use Rattle.std.specs.Prelude.{ℕ, ◌+◌, ◌==◌, if◌then◌else◌, List, [], ◌∷◌, ◌++◌, map, length, Ok, Err}
use Rattle.sql_value.specs.declared.refusal.Refusal.{Refusal}
use Rattle.sql_types.specs.declared.statement.Stmt.{Stmt}
use Rattle.sql_types.specs.declared.statement.Stmt.TheVariants as s
use Rattle.sql_types.specs.declared.statement.RowStmt.{RowStmt}
use Rattle.sql_types.specs.declared.statement.Select.{Select}
use Rattle.sql_types.specs.declared.reply.Reply.{Reply}
use Rattle.sql_types.specs.declared.reply.Reply.TheVariants as r
use Rattle.sql_types.specs.declared.table.TableDef.{TableDef}
use Rattle.sql_types.specs.declared.table.IndexDef.{IndexDef}
use Rattle.sql_types.specs.declared.version.Table.{Table}
use Rattle.sql_types.specs.declared.version.Version.{Version}
use Rattle.spec_model.specs.Refusals.{Checked}
use Rattle.spec_model.specs.Rows.{Row, stored_row}
use Rattle.spec_model.specs.Parts.{rows_of, columns_of, shown_of}
use Rattle.spec_model.specs.Where.{key_fixed}
use Rattle.spec_model.specs.Changes.{Change, Changes, Starts, changed_all, row_changes}
use Rattle.spec_model.specs.Catalog.{NamedPart, Tables, defs_of, versions_of, changed_table}
use Rattle.spec_model.specs.Checks.{row_statement_check}
use Rattle.spec_model.specs.Query.{query_check, selected}
use Rattle.spec_model.specs.SystemTables.{tables_id, columns_id, tables_columns, columns_columns, table_row, column_rows, index_rows}
use Rattle.spec_model.specs.Create.{create_check, index_check, with_index}
use Rattle.spec_model.specs.Alter.{Altered, alteration, table_drop}

pub record Effect : Type 0 where
  pub tables : Tables
  pub seq : ℕ
  pub reply : Reply

-- a refusal leaves tables and counter
abbrev pub refused : Tables → ℕ → Refusal → Effect
refused tables seq e = record { tables = tables; seq = seq; reply = r.Refused e }

-- ---- INSERT, UPDATE and DELETE

abbrev pub done : Tables → ℕ → ℕ → ℕ → Checked Changes → Effect
done tables tx seq id (Ok c) =
    record {
      tables = changed_table id (changed_all tx seq c.0) tables;
      seq = seq + length c.0;
      reply = r.Changed c.1;
    }
done tables tx seq id (Err e) = refused tables seq e

abbrev pub row_effect : Tables → ℕ → ℕ → RowStmt → Checked TableDef → Effect
row_effect tables tx seq stmt (Ok def) =
    done tables tx seq def.id (row_changes def (versions_of tables def.id) stmt)
row_effect tables tx seq stmt (Err e) = refused tables seq e

-- ---- SELECT

abbrev pub shown : Tables → ℕ → Checked (List Row) → Effect
shown tables seq (Ok rows) = record { tables = tables; seq = seq; reply = r.Rows rows }
shown tables seq (Err e) = refused tables seq e

-- the rows that a SELECT shows of a part of a table with these versions
unfoldable pub query_rows : Select → NamedPart → List Version → Checked (List Row)
query_rows q n versions =
    selected (columns_of n.0 n.1) n.0.dropped (shown_of n.0 n.1) q
    (rows_of n.0 n.1 (key_fixed n.0.columns q.cond) versions)

abbrev pub query_effect : Tables → ℕ → Select → Checked NamedPart → Effect
query_effect tables seq q (Ok n) = shown tables seq (query_rows q n (versions_of tables n.0.id))
query_effect tables seq q (Err e) = refused tables seq e

-- ---- CREATE TABLE and CREATE INDEX

-- the rows of the first system table are numbered from seq, those of the second after them
abbrev pub with_system_rows : ℕ → ℕ → List Change → List Change → Tables → Tables
with_system_rows tx seq first second tables =
    changed_table columns_id (changed_all tx (seq + length first) second)
    (changed_table tables_id (changed_all tx seq first) tables)

abbrev pub table_start : TableDef → List Change
table_start def = Starts (stored_row tables_columns (table_row def)) ∷ []

abbrev pub column_starts : List Row → List Change
column_starts rows = map (λ row. Starts (stored_row columns_columns row)) rows

-- the new table has no versions
abbrev pub table_effect : Tables → ℕ → ℕ → Checked TableDef → Effect
table_effect tables tx seq (Ok def) =
    record {
      tables =
          with_system_rows tx seq (table_start def) (column_starts (column_rows def)) tables
          ++ record { def = def; versions = [] } ∷ [];
      seq = seq + 1 + length def.columns;
      reply = r.Made;
    }
table_effect tables tx seq (Err e) = refused tables seq e

abbrev pub with_def : TableDef → Table → Table
with_def def t = record { def = def; versions = t.versions }

-- the tables with this definition in the place of the one with its id
abbrev pub redefined : TableDef → Tables → Tables
redefined def tables = map (λ t. if t.def.id == def.id then with_def def t else t) tables

abbrev pub index_starts : TableDef → IndexDef → List Change
index_starts def index = column_starts (index_rows def.id (length def.indexes + 1) index)

abbrev pub index_effect : Tables → ℕ → ℕ → Checked (TableDef × IndexDef) → Effect
index_effect tables tx seq (Ok x) =
    record {
      tables = redefined (with_index x.0 x.1) (with_system_rows tx seq [] (index_starts x.0 x.1) tables);
      seq = seq + length x.1.ordinals;
      reply = r.Made;
    }
index_effect tables tx seq (Err e) = refused tables seq e

-- ---- ALTER TABLE and DROP TABLE

abbrev pub altered_effect : Tables → ℕ → ℕ → Checked Altered → Effect
altered_effect tables tx seq (Ok a) =
    record {
      tables = redefined a.def (with_system_rows tx seq a.first a.second tables);
      seq = seq + length a.first + length a.second;
      reply = r.Made;
    }
altered_effect tables tx seq (Err e) = refused tables seq e

-- ---- one table statement of transaction tx, whose next event has the number seq

-- Other statements do nothing here.
unfoldable pub effect : Tables → ℕ → ℕ → Stmt → Effect
effect tables tx seq (s.Create c) = table_effect tables tx seq (create_check (defs_of tables) c)
effect tables tx seq (s.Index c) = index_effect tables tx seq (index_check (defs_of tables) c)
effect tables tx seq (s.Alter a) =
    altered_effect tables tx seq
    (alteration (defs_of tables) (versions_of tables tables_id) (versions_of tables columns_id) a)
effect tables tx seq (s.Drop name) =
    altered_effect tables tx seq
    (table_drop (defs_of tables) (versions_of tables tables_id) (versions_of tables columns_id) name)
effect tables tx seq (s.Change stmt) =
    row_effect tables tx seq stmt (row_statement_check (defs_of tables) stmt)
effect tables tx seq (s.Select q) = query_effect tables seq q (query_check (defs_of tables) q)
effect tables tx seq _ = record { tables = tables; seq = seq; reply = r.NoOutput }
