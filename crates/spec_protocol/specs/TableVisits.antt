-- Visits of a table's cell: its rows are changed or read, an index is added.
use Rattle.std.specs.Prelude.{ℕ, ◌≡◌, ◌+◌, Bool, true, false, List, [], ◌∷◌, map, length, Some, None, Ok, Err}
use Rattle.sql_value.specs.declared.refusal.Refusal.{Refusal}
use Rattle.sql_types.specs.declared.lock.Hold.{Hold}
use Rattle.sql_types.specs.declared.lock.LockRequest.{LockRequest}
use Rattle.sql_types.specs.declared.reply.Reply.{Reply}
use Rattle.sql_types.specs.declared.reply.Reply.TheVariants as reply
use Rattle.sql_types.specs.declared.statement.Stmt.{Stmt}
use Rattle.sql_types.specs.declared.statement.Stmt.TheVariants as stmt
use Rattle.sql_types.specs.declared.statement.RowStmt.{RowStmt}
use Rattle.sql_types.specs.declared.statement.Select.{Select}
use Rattle.sql_types.specs.declared.table.TableDef.{TableDef}
use Rattle.sql_types.specs.declared.table.IndexDef.{IndexDef}
use Rattle.sql_types.specs.declared.version.Version.{Version}
use Rattle.spec_model.specs.Keys.{key_places, live_by_key_at}
use Rattle.spec_model.specs.Catalog.{NamedPart}
use Rattle.spec_model.specs.Changes.{Change, changed_all, row_changes}
use Rattle.spec_model.specs.Checks.{row_statement_check}
use Rattle.spec_model.specs.Query.{query_check}
use Rattle.spec_model.specs.Effect.{query_rows}
use Rattle.spec_model.specs.Locks.{row_requests, query_requests}
use Rattle.spec_model.specs.Holds.{holds_after}
use Rattle.spec_model.specs.InTheWay.{first_conflict}
use Rattle.spec_protocol.specs.Server.{Server}
use Rattle.spec_protocol.specs.Cells.{Index, TableCell, cell_of}
use Rattle.spec_protocol.specs.Seats.{OpenTransaction, found, made, SeatState}
use Rattle.spec_protocol.specs.TablesAreSerial.{index_order}
use Rattle.spec_protocol.specs.Moves.{visiting, noting, InOpenTransaction, then_at}
use Rattle.spec_protocol.specs.Answering.{refused_by_check}
use Rattle.spec_protocol.specs.Doing.{grown, events_from, done, rows_reply, stage_refused, Stopped}

-- ---- a cell with other rows

abbrev pub reordered : List ℕ → List Version → Index → Index
reordered key versions index = record {
  ordinals = index.ordinals;
  order = index_order key index.ordinals versions;
}

-- key order and indexes follow the versions, whose key is at these places
abbrev pub with_versions : List ℕ → List Version → TableCell → TableCell
with_versions key versions c =
    record {
      id = c.id;
      key = key;
      versions = versions;
      order = map (λ v. v.start) (live_by_key_at key None versions);
      indexes = map (reordered key versions) c.indexes;
      holds = c.holds;
    }

abbrev pub with_holds : List Hold → TableCell → TableCell
with_holds holds c = record {
  id = c.id;
  key = c.key;
  versions = c.versions;
  order = c.order;
  indexes = c.indexes;
  holds = holds;
}

abbrev pub new_index : List ℕ → List Version → IndexDef → Index
new_index key versions index = record {
  ordinals = index.ordinals;
  order = index_order key index.ordinals versions;
}

-- the indexes of this definition
abbrev pub with_indexes : TableDef → TableCell → TableCell
with_indexes def c = record {
  id = c.id;
  key = c.key;
  versions = c.versions;
  order = c.order;
  indexes = map (new_index (key_places def.columns) c.versions) def.indexes;
  holds = c.holds;
}

-- ---- INSERT, UPDATE and DELETE

-- the seat found this table in the catalog, for a statement that passes what is checked before any row
pub record Found (v : Server) (c : TableCell) (s : SeatState) (o : OpenTransaction) (named : NamedPart)
    (fresh : Bool) : Type 0 where
  pub at : InOpenTransaction v s o
  pub at_found : at.stands.stage ≡ found (Some named) fresh
  pub here : named.0.id ≡ c.id

-- all rows are changed, or none
pub record ChangesRows (v : Server) (c : TableCell) (s : SeatState) (d : TableCell)
    (t : SeatState) : Type 0 where
  pub o : OpenTransaction
  pub named : NamedPart
  pub fresh : Bool
  pub at : Found v c s o named fresh
  pub row : RowStmt
  pub is : at.at.stands.stmt ≡ stmt.Change row
  pub passes : row_statement_check (named.0 ∷ []) row ≡ Ok named.0
  pub free : first_conflict c.holds o.id (row_requests named.0 row) ≡ None
  pub changes : List Change
  pub count : ℕ
  pub changed : row_changes named.0 c.versions row ≡ Ok (changes, count)
  pub cell : d ≡ with_holds (holds_after c.holds o.id (row_requests named.0 row)) (with_versions
      (key_places named.0.columns) (changed_all o.id o.seq changes c.versions) c)
  pub seat : t ≡ done s at.at.stands (noting (o.seq + length changes)
      (grown c.id (events_from o.id o.seq c.id d.versions) o.trees) (visiting (cell_of c.id) o))
      (reply.Changed count)

-- a refusal by rows; the locks stay
pub record RefusesRows (v : Server) (c : TableCell) (s : SeatState) (d : TableCell)
    (t : SeatState) : Type 0 where
  pub o : OpenTransaction
  pub named : NamedPart
  pub fresh : Bool
  pub at : Found v c s o named fresh
  pub row : RowStmt
  pub is : at.at.stands.stmt ≡ stmt.Change row
  pub passes : row_statement_check (named.0 ∷ []) row ≡ Ok named.0
  pub free : first_conflict c.holds o.id (row_requests named.0 row) ≡ None
  pub refusal : Refusal
  pub refuses : row_changes named.0 c.versions row ≡ Err refusal
  pub cell : d ≡ with_holds (holds_after c.holds o.id (row_requests named.0 row)) c
  pub seat : t ≡ done s at.at.stands (visiting (cell_of c.id) o) (reply.Refused refusal)

-- ---- SELECT

pub record ReadsRows (v : Server) (c : TableCell) (s : SeatState) (d : TableCell)
    (t : SeatState) : Type 0 where
  pub o : OpenTransaction
  pub named : NamedPart
  pub fresh : Bool
  pub at : Found v c s o named fresh
  pub q : Select
  pub is : at.at.stands.stmt ≡ stmt.Select q
  pub passes : query_check (named.0 ∷ []) q ≡ Ok named
  pub free : first_conflict c.holds o.id (query_requests named q) ≡ None
  pub cell : d ≡ with_holds (holds_after c.holds o.id (query_requests named q)) c
  pub seat : t ≡ done s at.at.stands (visiting (cell_of c.id) o) (rows_reply (query_rows q named c.versions))

-- ---- a lock is in the way, or there is no memory

abbrev pub requests_here : NamedPart → Stmt → List LockRequest
requests_here named (stmt.Change row) = row_requests named.0 row
requests_here named (stmt.Select q) = query_requests named q
requests_here named _ = []

-- a statement that passes what is checked before any row; the locks of the cell are as before, and the
-- statement's lock in the catalog is to be given back where it took it
pub record StopsInTable (v : Server) (c : TableCell) (s : SeatState) (t : SeatState) : Type 0 where
  pub o : OpenTransaction
  pub named : NamedPart
  pub fresh : Bool
  pub at : Found v c s o named fresh
  pub passes : refused_by_check (Some named) at.at.stands.stmt ≡ None
  pub r : Reply
  pub stopped : Stopped c.holds o.id (requests_here named at.at.stands.stmt) r
  pub seat : t ≡ then_at s at.at.stands (Some o) (stage_refused fresh r)

-- ---- CREATE INDEX

-- the index is added; where there is no memory for it, the transaction's end is fixed next
pub record AddsIndex (v : Server) (c : TableCell) (s : SeatState) (d : TableCell)
    (t : SeatState) : Type 0 where
  pub o : OpenTransaction
  pub at : InOpenTransaction v s o
  pub def : TableDef
  pub at_made : at.stands.stage ≡ made def false
  pub here : def.id ≡ c.id
  pub cell : d ≡ with_indexes def c
  pub seat : t ≡ then_at s at.stands (Some (visiting (cell_of c.id) o)) (made def true)
