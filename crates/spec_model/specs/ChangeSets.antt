-- What a statement does to the tables, apart from the transaction and the numbers of its events: its starts
-- and ends in
-- order, the definition that it makes, and its reply.
use Rattle.std.specs.Prelude.{ℕ, ◌+◌, List, [], ◌∷◌, ◌++◌, map, length, Ok, Err}
use Rattle.sql_types.specs.declared.statement.Stmt.{Stmt}
use Rattle.sql_types.specs.declared.statement.Stmt.TheVariants as s
use Rattle.sql_types.specs.declared.statement.RowStmt.{RowStmt}
use Rattle.sql_types.specs.declared.statement.Select.{Select}
use Rattle.sql_types.specs.declared.reply.Reply.{Reply}
use Rattle.sql_types.specs.declared.reply.Reply.TheVariants as r
use Rattle.sql_types.specs.declared.table.TableDef.{TableDef}
use Rattle.sql_types.specs.declared.table.IndexDef.{IndexDef}
use Rattle.spec_model.specs.Refusals.{Checked}
use Rattle.spec_model.specs.Rows.{Row, EventId}
use Rattle.spec_model.specs.Changes.{Change, Changes, changed, row_changes}
use Rattle.spec_model.specs.Catalog.{NamedPart, Tables, defs_of, versions_of, changed_table}
use Rattle.spec_model.specs.Checks.{row_statement_check}
use Rattle.spec_model.specs.Query.{query_check}
use Rattle.spec_model.specs.SystemTables.{tables_id, columns_id, column_rows}
use Rattle.spec_model.specs.Create.{create_check, index_check, with_index}
use Rattle.spec_model.specs.Alter.{Altered, alteration, table_drop}
use Rattle.spec_model.specs.Effect.{Effect, query_rows, table_start, column_starts, index_starts, redefined}

-- a start or an end, in the table with this id
abbrev pub TableChange : Type 0
TableChange = ℕ × Change

abbrev pub in_table : ℕ → List Change → List TableChange
in_table id changes = map (λ c. (id, c)) changes

-- a change, as this event
abbrev pub changed_in : EventId → TableChange → Tables → Tables
changed_in at c tables = changed_table c.0 (changed at c.1) tables

-- changes one after another, numbered from seq
abbrev pub changed_from : ℕ → ℕ → List TableChange → Tables → Tables
changed_from tx seq [] tables = tables
changed_from tx seq (c ∷ cs) tables = changed_from tx (seq + 1) cs (changed_in (tx, seq) c tables)

-- what becomes of the definitions
pub data Definition : Type 0 where
  as_before : Definition
  -- a new table, without versions
  new : TableDef → Definition
  -- in the place of the one with its id, with one index more
  in_place : TableDef → Definition
  -- in the place of the one with its id, with other columns or other names
  altered : TableDef → Definition

abbrev pub defined : Definition → Tables → Tables
defined as_before tables = tables
defined (new def) tables = tables ++ record { def = def; versions = [] } ∷ []
defined (in_place def) tables = redefined def tables
defined (altered def) tables = redefined def tables

pub record ChangeSet : Type 0 where
  pub changes : List TableChange
  pub definition : Definition
  pub reply : Reply

abbrev pub only_replies : Reply → ChangeSet
only_replies reply = record { changes = []; definition = as_before; reply = reply }

abbrev pub row_change_set : ℕ → Checked Changes → ChangeSet
row_change_set id (Ok c) = record { changes = in_table id c.0; definition = as_before; reply = r.Changed c.1 }
row_change_set id (Err e) = only_replies (r.Refused e)

abbrev pub row_stmt_change_set : Tables → RowStmt → Checked TableDef → ChangeSet
row_stmt_change_set tables stmt (Ok def) = row_change_set def.id (row_changes def (versions_of tables def.id) stmt)
row_stmt_change_set tables stmt (Err e) = only_replies (r.Refused e)

abbrev pub select_change_set : Checked (List Row) → ChangeSet
select_change_set (Ok rows) = only_replies (r.Rows rows)
select_change_set (Err e) = only_replies (r.Refused e)

abbrev pub query_change_set : Tables → Select → Checked NamedPart → ChangeSet
query_change_set tables q (Ok n) = select_change_set (query_rows q n (versions_of tables n.0.id))
query_change_set tables q (Err e) = only_replies (r.Refused e)

abbrev pub create_table_change_set : Checked TableDef → ChangeSet
create_table_change_set (Ok def) =
    record {
      changes = in_table tables_id (table_start def) ++ in_table columns_id (column_starts (column_rows def));
      definition = new def;
      reply = r.Made;
    }
create_table_change_set (Err e) = only_replies (r.Refused e)

abbrev pub create_index_change_set : Checked (TableDef × IndexDef) → ChangeSet
create_index_change_set (Ok x) =
    record {
      changes = in_table columns_id (index_starts x.0 x.1);
      definition = in_place (with_index x.0 x.1);
      reply = r.Made;
    }
create_index_change_set (Err e) = only_replies (r.Refused e)

abbrev pub altered_change_set : Checked Altered → ChangeSet
altered_change_set (Ok a) =
    record {
      changes = in_table tables_id a.first ++ in_table columns_id a.second;
      definition = altered a.def;
      reply = r.Made;
    }
altered_change_set (Err e) = only_replies (r.Refused e)

-- what a table statement does to these tables
unfoldable pub change_set : Tables → Stmt → ChangeSet
change_set tables (s.Create c) = create_table_change_set (create_check (defs_of tables) c)
change_set tables (s.Index c) = create_index_change_set (index_check (defs_of tables) c)
change_set tables (s.Alter a) =
    altered_change_set (alteration (defs_of tables) (versions_of tables tables_id) (versions_of tables columns_id) a)
change_set tables (s.Drop name) =
    altered_change_set (table_drop (defs_of tables) (versions_of tables tables_id) (versions_of tables columns_id) name)
change_set tables (s.Change stmt) = row_stmt_change_set tables stmt (row_statement_check (defs_of tables) stmt)
change_set tables (s.Select q) = query_change_set tables q (query_check (defs_of tables) q)
change_set tables _ = only_replies r.NoOutput

-- carried out by transaction tx, whose next event has the number seq
abbrev pub carried_out : Tables → ℕ → ℕ → ChangeSet → Effect
carried_out tables tx seq p =
    record {
      tables = defined p.definition (changed_from tx seq p.changes tables);
      seq = seq + length p.changes;
      reply = p.reply;
    }
