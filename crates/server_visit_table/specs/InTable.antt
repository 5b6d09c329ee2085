-- What visits of a table's cell make of it and of a seat's transaction.
use Rattle.std.specs.Prelude.{ℕ, ◌≡◌, ◌+◌, List, [], ◌∷◌, length, Result, Ok, Err, Option, Some, None}
use Rattle.sql_value.specs.declared.refusal.Refusal.{Refusal}
use Rattle.sql_types.specs.declared.reply.Reply.{Reply}
use Rattle.sql_types.specs.declared.reply.Reply.TheVariants as reply
use Rattle.sql_types.specs.declared.statement.RowStmt.{RowStmt}
use Rattle.sql_types.specs.declared.statement.Select.{Select}
use Rattle.sql_types.specs.declared.statement.Stmt.{Stmt}
use Rattle.sql_types.specs.declared.statement.Stmt.TheVariants as stmt
use Rattle.sql_types.specs.declared.table.TableDef.{TableDef}
use Rattle.spec_model.specs.Catalog.{NamedPart}
use Rattle.spec_model.specs.Changes.{Change, changed_all, row_changes}
use Rattle.spec_model.specs.Effect.{query_rows}
use Rattle.spec_model.specs.Holds.{holds_after}
use Rattle.spec_model.specs.InTheWay.{first_conflict}
use Rattle.spec_model.specs.Keys.{key_places}
use Rattle.spec_model.specs.Locks.{query_requests, row_requests}
use Rattle.spec_model.specs.Rows.{Row}
use Rattle.server_session.specs.Cells.{TableCell}
use Rattle.server_session.specs.Doing.{events_from, grown, Stopped}
use Rattle.server_session.specs.Moves.{noting}
use Rattle.server_session.specs.Seats.{OpenTransaction}
use Rattle.server_session.specs.TableVisits.{requests_here, with_holds, with_versions}
use Rattle.server_session.specs.UndoVisits.{undone_to}
use Rattle.spec_model.specs.Checks.{row_statement_check}
use Rattle.store_table.specs.Calls.{HasFit, IsTable, LocksTaken, MayChange, RowsRead}
use Rattle.server_session.specs.Represents.{Represents}
use Rattle.server_session.specs.Context.{TxCtx}
use Rattle.sql_types.specs.declared.end_line.EndLine.{EndLine}
use Rattle.sql_types.specs.declared.end_line.EndLine.TheVariants.{Committed}
use Rattle.server_session.specs.declared.running.Running.{Running}
use Rattle.server_session.specs.declared.stage.ControlPoint.{ControlPoint}
use Rattle.server_session.specs.declared.stage.ControlPoint.TheVariants.{Inside}
use Rattle.server_session.specs.declared.stage.Stage.TheVariants.{Found, Made, GoingBack, Answering as Answered}

-- ---- where a seat needs a table's cell

abbrev pub IsFound : ControlPoint → Type 0
IsFound (Inside (Found def part fresh)) = Unit {0}
IsFound _ = ⊥

abbrev pub IsGoingBack : ControlPoint → Type 0
IsGoingBack (Inside (GoingBack seq passed)) = Unit {0}
IsGoingBack _ = ⊥

abbrev pub IsMade : ControlPoint → Type 0
IsMade (Inside (Made def indexed)) = Unit {0}
IsMade _ = ⊥

-- in none of these: it needs a table's cell to release it
abbrev pub IsElsewhere : ControlPoint → Type 0
IsElsewhere (Inside (Found def part fresh)) = ⊥
IsElsewhere (Inside (GoingBack seq passed)) = ⊥
IsElsewhere (Inside (Made def indexed)) = ⊥
IsElsewhere _ = Unit {0}

-- ---- releasing

-- once it is committed its versions stay, and else they are taken back
abbrev pub undone_by : Option EndLine → ℕ → TableCell → TableCell
undone_by (Some (Committed id place)) tx c = c
undone_by _ tx c = undone_to tx 0 c

-- of a refused CREATE INDEX
abbrev pub def_to_drop : ControlPoint → Option TableDef
def_to_drop (Inside (Answered a)) = a.def
def_to_drop _ = None

-- script, end and kind of the transaction are as before
pub record KeepsRest {H : Type 0} (r q : Running H) : Type 0 where
  pub script : q.script ≡ r.script
  pub explicit : q.explicit ≡ r.explicit
  pub end : q.end ≡ r.end

-- ---- a statement of rows

-- what INSERT, UPDATE and DELETE rely on in the cell and in the context
pub record MayChangeRows {H : Type 0} (digest : H → List ℕ → List ℕ) (context : TxCtx H) (c : TableCell)
    (def : TableDef) (row : RowStmt) : Type 0 where
  pub table : IsTable c def
  pub fit : HasFit c def
  pub passes : row_statement_check (def ∷ []) row ≡ Ok def
  pub before : MayChange digest context c.versions

-- what a statement of rows relies on
abbrev pub MayRun : {H : Type 0} → (H → List ℕ → List ℕ) → TxCtx H → TableCell → NamedPart → Stmt → Type 0
MayRun digest context c named (stmt.Change row) = MayChangeRows digest context c named.0 row
MayRun digest context c named (stmt.Select q) = IsTable c named.0
MayRun digest context c named _ = ⊥

-- What it makes of its table's cell and of its transaction: it is done with this reply, or it is stopped by
-- this refusal, and then neither changes.
pub data RunsInTable (c : TableCell) (o : OpenTransaction) (named : NamedPart) : Stmt → Result Reply Refusal → TableCell
    → OpenTransaction → Type 0 where
  changes : (row : RowStmt) (changes : List Change) (count : ℕ) (d : TableCell)
      → first_conflict c.holds o.id (row_requests named.0 row) ≡ None
      → row_changes named.0 c.versions row ≡ Ok (changes, count)
      → d ≡ with_holds (holds_after c.holds o.id (row_requests named.0 row))
      (with_versions (key_places named.0.columns) (changed_all o.id o.seq changes c.versions) c)
      → RunsInTable c o named (stmt.Change row) (Ok (reply.Changed count)) d
      (noting (o.seq + length changes) (grown c.id (events_from o.id o.seq c.id d.versions) o.trees) o)
  refuses : (row : RowStmt) (e : Refusal) (d : TableCell) → row_changes named.0 c.versions row ≡ Err e
      → LocksTaken c o.id (row_requests named.0 row) d
      → RunsInTable c o named (stmt.Change row) (Ok (reply.Refused e)) d o
  reads : (q : Select) (rows : List Row) (d : TableCell)
      → RowsRead c o.id (query_requests named q) named q rows d
      → RunsInTable c o named (stmt.Select q) (Ok (reply.Rows rows)) d o
  refuses_to_read : (q : Select) (e : Refusal) (d : TableCell) → query_rows q named c.versions ≡ Err e
      → LocksTaken c o.id (query_requests named q) d
      → RunsInTable c o named (stmt.Select q) (Ok (reply.Refused e)) d o
  stops : (s : Stmt) (e : Refusal) → Stopped c.holds o.id (requests_here named s) (reply.Refused e)
      → RunsInTable c o named s (Err e) c o

-- so it is for each transaction of which the context may be
pub record RunsInTableFor {H : Type 0} (digest : H → List ℕ → List ℕ) (h : H) (c : TableCell) (o : OpenTransaction)
    (named : NamedPart) (s : Stmt) (result : Result Reply Refusal) (d : TableCell) (after : TxCtx H)
    : Type 0 where
  pub p : OpenTransaction
  pub ran : RunsInTable c o named s result d p
  pub context : Represents digest h after p

abbrev pub HasRun : {H : Type 0} → (H → List ℕ → List ℕ) → TableCell → TxCtx H → NamedPart → Stmt
    → Result Reply Refusal → TableCell → TxCtx H → Type 0
HasRun {H} digest c before named s result d after = (h : H) (o : OpenTransaction)
    → Represents digest h before o → RunsInTableFor digest h c o named s result d after
