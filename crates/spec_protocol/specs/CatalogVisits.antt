-- Visits of the catalog's cell: a name is looked up, a table or an index is created, a table is altered or dropped, a
-- lock is given back.
use Rattle.std.specs.Prelude.{ℕ, ◌≡◌, ◌==◌, ◌+◌, ◌++◌, false, if◌then◌else◌, List, [], ◌∷◌, map, length, Option, Some, None, Ok, Err, not}
use Rattle.sql_value.specs.declared.refusal.Refusal.{Refusal}
use Rattle.sql_types.specs.declared.lock.Mode.TheVariants.{S, X}
use Rattle.sql_types.specs.declared.reply.Reply.{Reply}
use Rattle.sql_types.specs.declared.reply.Reply.TheVariants as reply
use Rattle.sql_types.specs.declared.statement.Stmt.{Stmt}
use Rattle.sql_types.specs.declared.statement.Stmt.TheVariants as stmt
use Rattle.sql_types.specs.declared.statement.CreateTable.{CreateTable}
use Rattle.sql_types.specs.declared.statement.CreateIndex.{CreateIndex}
use Rattle.sql_types.specs.declared.statement.Select.{Select}
use Rattle.sql_types.specs.declared.table.Part.TheVariants.{System}
use Rattle.sql_types.specs.declared.table.TableDef.{TableDef}
use Rattle.sql_types.specs.declared.table.IndexDef.{IndexDef}
use Rattle.spec_model.specs.Alter.{Altered, alteration, table_drop}
use Rattle.spec_model.specs.Changes.{Change, changed_all}
use Rattle.spec_model.specs.Catalog.{find_part}
use Rattle.spec_model.specs.Locks.{whole, catalog_request}
use Rattle.spec_model.specs.Query.{query_check}
use Rattle.spec_model.specs.Refusals.{Checked}
use Rattle.spec_model.specs.SystemTables.{tables_id, columns_id, column_rows}
use Rattle.spec_model.specs.Create.{create_check, index_check, with_index}
use Rattle.spec_model.specs.Effect.{query_rows, table_start, column_starts, index_starts}
use Rattle.spec_history.specs.Lists.{Text}
use Rattle.spec_model.specs.Holds.{released}
use Rattle.spec_protocol.specs.Server.{Server}
use Rattle.sql_types.specs.declared.lock.Hold.{Hold}
use Rattle.spec_protocol.specs.Cells.{CatalogCell, Catalog, catalog_at, versions_in}
use Rattle.spec_protocol.specs.Seats.{Tree, OpenTransaction, begun, found, made, answering, refused, SeatState}
use Rattle.spec_protocol.specs.LocksCover.{name_of}
use Rattle.spec_protocol.specs.RequestsIn.{of_catalog}
use Rattle.spec_protocol.specs.Moves.{visiting, noting, InOpenTransaction, then_at}
use Rattle.spec_protocol.specs.Doing.{grown, events_from, done, rows_reply, Stopped}
use Rattle.spec_model.specs.InTheWay.{first_conflict}
use Rattle.spec_model.specs.Holds.{holds_after, holds_any}

abbrev pub with_holds : List Hold → CatalogCell → CatalogCell
with_holds holds c = record {
  defs = c.defs;
  creator = c.creator;
  tables = c.tables;
  columns = c.columns;
  holds = holds;
}

-- ---- looking up

-- it takes S, and gets what the catalog has under the statement's name
pub record Looks (v : Server) (c : CatalogCell) (s : SeatState) (d : CatalogCell)
    (t : SeatState) : Type 0 where
  pub o : OpenTransaction
  pub at : InOpenTransaction v s o
  pub at_begin : at.stands.stage ≡ begun
  pub shares : catalog_request o.explicit at.stands.stmt ≡ Some S
  pub name : Text
  pub named : name_of at.stands.stmt ≡ Some name
  pub free : first_conflict c.holds o.id (whole S ∷ []) ≡ None
  pub cell : d ≡ with_holds (holds_after c.holds o.id (whole S ∷ [])) c
  pub seat : t ≡ then_at s at.stands (Some (visiting catalog_at o))
      (found (find_part c.defs name) (not (holds_any c.holds o.id)))

-- a SELECT on a system table, which takes S, is answered there
pub record ReadsSystem (v : Server) (c : CatalogCell) (s : SeatState) (d : CatalogCell)
    (t : SeatState) : Type 0 where
  pub o : OpenTransaction
  pub at : InOpenTransaction v s o
  pub at_begin : at.stands.stage ≡ begun
  pub q : Select
  pub selects : at.stands.stmt ≡ stmt.Select q
  pub def : TableDef
  pub passes : query_check c.defs q ≡ Ok (def, System)
  pub free : first_conflict c.holds o.id (whole S ∷ []) ≡ None
  pub cell : d ≡ with_holds (holds_after c.holds o.id (whole S ∷ [])) c
  pub seat : t ≡ done s at.stands (visiting catalog_at o)
      (rows_reply (query_rows q (def, System) (versions_in def.id (Catalog c))))

-- ---- creating

-- the table's rows in the system tables, and its definition
abbrev pub with_table : ℕ → ℕ → TableDef → List Hold → CatalogCell → CatalogCell
with_table tx seq def holds c =
    record {
      defs = c.defs ++ def ∷ [];
      creator = Some (record { tx = tx; before = c.defs });
      tables = changed_all tx seq (table_start def) c.tables;
      columns = changed_all tx (seq + 1) (column_starts (column_rows def)) c.columns;
      holds = holds;
    }

abbrev pub replaced_def : TableDef → List TableDef → List TableDef
replaced_def def defs = map (λ e. if e.id == def.id then def else e) defs

-- the index's rows, and its table's definition with it
abbrev pub with_new_index : ℕ → ℕ → TableDef → IndexDef → List Hold → CatalogCell → CatalogCell
with_new_index tx seq def index holds c =
    record {
      defs = replaced_def (with_index def index) c.defs;
      creator = Some (record { tx = tx; before = c.defs });
      tables = c.tables;
      columns = changed_all tx seq (index_starts def index) c.columns;
      holds = holds;
    }

-- the trees with the new events of the system tables
abbrev pub with_system_leaves : ℕ → ℕ → CatalogCell → List Tree → List Tree
with_system_leaves tx seq c trees = grown columns_id (events_from tx seq columns_id c.columns)
    (grown tables_id (events_from tx seq tables_id c.tables) trees)

-- it takes X; a table is made
pub record CreatesTable (v : Server) (c : CatalogCell) (s : SeatState) (d : CatalogCell)
    (t : SeatState) : Type 0 where
  pub o : OpenTransaction
  pub at : InOpenTransaction v s o
  pub at_begin : at.stands.stage ≡ begun
  pub alone : o.explicit ≡ false
  pub create : CreateTable
  pub creates : at.stands.stmt ≡ stmt.Create create
  pub free : first_conflict c.holds o.id (whole X ∷ []) ≡ None
  pub def : TableDef
  pub passes : create_check c.defs create ≡ Ok def
  pub cell : d ≡ with_table o.id o.seq def (holds_after c.holds o.id (whole X ∷ [])) c
  pub seat : t ≡ done s at.stands (noting (o.seq + 1 + length def.columns)
      (with_system_leaves o.id o.seq d o.trees) (visiting catalog_at o)) reply.Made

-- it takes X; an index is made, and its table's cell is still to be visited
pub record CreatesIndex (v : Server) (c : CatalogCell) (s : SeatState) (d : CatalogCell)
    (t : SeatState) : Type 0 where
  pub o : OpenTransaction
  pub at : InOpenTransaction v s o
  pub at_begin : at.stands.stage ≡ begun
  pub alone : o.explicit ≡ false
  pub create : CreateIndex
  pub creates : at.stands.stmt ≡ stmt.Index create
  pub free : first_conflict c.holds o.id (whole X ∷ []) ≡ None
  pub def : TableDef
  pub index : IndexDef
  pub passes : index_check c.defs create ≡ Ok (def, index)
  pub cell : d ≡ with_new_index o.id o.seq def index (holds_after c.holds o.id (whole X ∷ [])) c
  pub seat : t ≡ then_at s at.stands (Some (noting (o.seq + length index.ordinals)
      (grown columns_id (events_from o.id o.seq columns_id d.columns) o.trees) (visiting catalog_at o)))
      (made (with_index def index) false)

-- ---- altering and dropping

-- what ALTER TABLE and DROP TABLE make over the catalog; other statements alter no table
abbrev pub alters_in : CatalogCell → Stmt → Option (Checked Altered)
alters_in c (stmt.Alter a) = Some (alteration c.defs c.tables c.columns a)
alters_in c (stmt.Drop name) = Some (table_drop c.defs c.tables c.columns name)
alters_in c _ = None

-- the rows that say so, and the definition in the place of its table's
abbrev pub with_altered : ℕ → ℕ → Altered → List Hold → CatalogCell → CatalogCell
with_altered tx seq a holds c =
    record {
      defs = replaced_def a.def c.defs;
      creator = Some (record { tx = tx; before = c.defs });
      tables = changed_all tx seq a.first c.tables;
      columns = changed_all tx (seq + length a.first) a.second c.columns;
      holds = holds;
    }

-- the trees with the new events of that table of the system which has some: of the second where these changes of the
-- first are none
abbrev pub with_altered_leaves : ℕ → ℕ → List Change → CatalogCell → List Tree → List Tree
with_altered_leaves tx seq [] c trees = grown columns_id (events_from tx seq columns_id c.columns) trees
with_altered_leaves tx seq (x ∷ xs) c trees = grown tables_id (events_from tx seq tables_id c.tables) trees

-- it takes X; a table is altered or dropped, and its own cell is left as it is
pub record AltersTable (v : Server) (c : CatalogCell) (s : SeatState) (d : CatalogCell)
    (t : SeatState) : Type 0 where
  pub o : OpenTransaction
  pub at : InOpenTransaction v s o
  pub at_begin : at.stands.stage ≡ begun
  pub alone : o.explicit ≡ false
  pub free : first_conflict c.holds o.id (whole X ∷ []) ≡ None
  pub made_is : Altered
  pub passes : alters_in c at.stands.stmt ≡ Some (Ok made_is)
  pub cell : d ≡ with_altered o.id o.seq made_is (holds_after c.holds o.id (whole X ∷ [])) c
  pub seat : t ≡ done s at.stands (noting (o.seq + length made_is.first + length made_is.second)
      (with_altered_leaves o.id o.seq made_is.first d o.trees) (visiting catalog_at o)) reply.Made

-- the refusal of a statement that creates, alters or drops, whose X stays
abbrev pub CreateRefused : CatalogCell → Stmt → Refusal → Type 0
CreateRefused c (stmt.Create create) e = create_check c.defs create ≡ Err e
CreateRefused c (stmt.Index create) e = index_check c.defs create ≡ Err e
CreateRefused c (stmt.Alter a) e = alteration c.defs c.tables c.columns a ≡ Err e
CreateRefused c (stmt.Drop name) e = table_drop c.defs c.tables c.columns name ≡ Err e
CreateRefused c _ e = ⊥

pub record RefusesCreate (v : Server) (c : CatalogCell) (s : SeatState) (d : CatalogCell)
    (t : SeatState) : Type 0 where
  pub o : OpenTransaction
  pub at : InOpenTransaction v s o
  pub at_begin : at.stands.stage ≡ begun
  pub alone : o.explicit ≡ false
  pub free : first_conflict c.holds o.id (whole X ∷ []) ≡ None
  pub refusal : Refusal
  pub is : CreateRefused c at.stands.stmt refusal
  pub cell : d ≡ with_holds (holds_after c.holds o.id (whole X ∷ [])) c
  pub seat : t ≡ done s at.stands (visiting catalog_at o) (reply.Refused refusal)

-- ---- stopped, and given back

-- a lock is in the way, or there is no memory; the locks stay
pub record StopsInCatalog (v : Server) (c : CatalogCell) (s : SeatState) (t : SeatState) : Type 0 where
  pub o : OpenTransaction
  pub at : InOpenTransaction v s o
  pub at_begin : at.stands.stage ≡ begun
  pub r : Reply
  pub stopped : Stopped c.holds o.id (of_catalog (catalog_request o.explicit at.stands.stmt)) r
  pub seat : t ≡ then_at s at.stands (Some o) (answering r None)

-- the catalog's lock of a refused statement is given back
pub record ReleasesCatalogLock (v : Server) (c : CatalogCell) (s : SeatState) (d : CatalogCell)
    (t : SeatState) : Type 0 where
  pub o : OpenTransaction
  pub at : InOpenTransaction v s o
  pub refusal : Refusal
  pub refused : at.stands.stage ≡ refused (reply.Refused refusal)
  pub cell : d ≡ with_holds (released c.holds o.id) c
  pub seat : t ≡ then_at s at.stands (Some o) (answering (reply.Refused refusal) None)
