-- What the calls of a table's cell come to, for a statement of rows.
use Rattle.std.proofs.Common.{◌≡◌, ℕ, List, Result, Ok, Err, IfOk, IfErr, IsErrAnd, OnErr, refl, sym, subst}
use Rattle.sql_value.specs.declared.refusal.Refusal.{Refusal}
use Rattle.sql_value.specs.declared.refusal.Refusal.TheVariants as refusal
use Rattle.sql_types.specs.declared.lock.LockRequest.{LockRequest}
use Rattle.sql_types.specs.declared.reply.Reply.{Reply}
use Rattle.sql_types.specs.declared.statement.RowStmt.{RowStmt}
use Rattle.sql_types.specs.declared.statement.Select.{Select}
use Rattle.sql_types.specs.declared.statement.Stmt.{Stmt}
use Rattle.sql_types.specs.declared.statement.Stmt.TheVariants as stmt
use Rattle.sql_types.specs.declared.table.TableDef.{TableDef}
use Rattle.sql_types.specs.declared.table.Part.{Part}
use Rattle.spec_model.specs.Catalog.{NamedPart}
use Rattle.spec_model.specs.Locks.{query_requests, row_requests}
use Rattle.spec_model.specs.Rows.{Row}
use Rattle.server_session.specs.Cells.{TableCell}
use Rattle.server_session.specs.Doing.{no_memory}
use Rattle.server_session.specs.Seats.{OpenTransaction}
use Rattle.store_table.specs.Calls.{NoneChanged, NoneRead, RowsChanged, RowsRead}
use Rattle.store_table.specs.declared.stop.TableErr.{TableErr}
use Rattle.store_table.specs.declared.stop.TableErr.TheVariants.{Refused, Locked, Memory}
use Rattle.server_session.specs.Represents.{Represents}
use Rattle.server_session.specs.Context.{TxCtx}
use Rattle.server_visit_table.specs.InTable.{HasRun, RunsInTable, changes, reads, refuses, refuses_to_read, stops}
use Rattle.server_visit_table.specs.TableStages.{changed_reply, read_reply}

-- for want of memory nothing is done
pub lacks_memory : {H : Type 0} (digest : H → List ℕ → List ℕ) (c d : TableCell) (before after : TxCtx H) (named : NamedPart) (s : Stmt) (e : Refusal) → e ≡ refusal.NoMemory → d ≡ c → after ≡ before
    → HasRun digest c before named s (Err e) d after
lacks_memory {H} digest c d before after named s e is cell same = λ h o w. record {
  p = o;
  ran = subst (λ (x : TableCell). RunsInTable c o named s (Err e) x o) (sym cell) (subst (λ (f : Refusal). RunsInTable c o named s (Err f) c o) (sym is) (stops s refusal.NoMemory no_memory));
  context = subst (λ (x : TxCtx H). Represents digest h x o) (sym same) w;
}

pub stopped_for_memory : {H : Type 0} (digest : H → List ℕ → List ℕ) (c : TableCell) (before : TxCtx H) (named : NamedPart) (s : Stmt) (result : Result Reply Refusal) → IsErrAnd result (λ e. e ≡ refusal.NoMemory)
    → HasRun digest c before named s result c before
stopped_for_memory digest c before named s (Ok r) w = absurd w
stopped_for_memory digest c before named s (Err e) w = lacks_memory digest c c before before named s e w refl refl

module _ {H : Type 0} (digest : H → List ℕ → List ℕ) (c d : TableCell) (before after : TxCtx H) (def : TableDef) (part : Part) where
  changed_by : (row : RowStmt) (result : Result ℕ TableErr) → IfOk result (λ count. RowsChanged digest c before def row (row_requests def row) count d after) → IfErr result (λ stop. NoneChanged digest c before def row (row_requests def row) stop d)
      → OnErr result ((h : H) (o : OpenTransaction) → Represents digest h before o → Represents digest h after o) → HasRun digest c before (def, part) (stmt.Change row) (changed_reply result) d after
  changed_by row (Ok count) ok err ctx = λ h o w. let m = ok.made h o w in record { p = _; ran = changes row ok.changes count d m.free ok.changed m.cell; context = m.context }
  changed_by row (Err (Refused e)) ok err ctx = λ h o w. let n = err h o w in record { p = o; ran = refuses row e d n.0 n.1; context = ctx h o w }
  changed_by row (Err (Locked holder)) ok err ctx = λ h o w. let n = err h o w in record {
    p = o;
    ran = subst (λ (x : TableCell). RunsInTable c o (def, part) (stmt.Change row) (Err (refusal.Locked holder)) x o) (sym n.1) (stops (stmt.Change row) (refusal.Locked holder) n.0);
    context = ctx h o w;
  }
  changed_by row (Err Memory) ok err ctx = λ h o w. let n = err h o w in record {
    p = o;
    ran = subst (λ (x : TableCell). RunsInTable c o (def, part) (stmt.Change row) (Err refusal.NoMemory) x o) (sym n) (stops (stmt.Change row) refusal.NoMemory no_memory);
    context = ctx h o w;
  }

  pub has_changed : (row : RowStmt) (requests : List LockRequest) → requests ≡ row_requests def row → (result : Result ℕ TableErr) → IfOk result (λ count. RowsChanged digest c before def row requests count d after) → IfErr result (λ stop. NoneChanged digest c before def row requests stop d)
      → OnErr result ((h : H) (o : OpenTransaction) → Represents digest h before o → Represents digest h after o) → HasRun digest c before (def, part) (stmt.Change row) (changed_reply result) d after
  has_changed row requests e result ok err ctx = changed_by row result (subst (λ (ws : List LockRequest). IfOk result (λ count. RowsChanged digest c before def row ws count d after)) e ok)
      (subst (λ (ws : List LockRequest). IfErr result (λ stop. NoneChanged digest c before def row ws stop d)) e err) ctx

module _ {H : Type 0} (digest : H → List ℕ → List ℕ) (c d : TableCell) (before : TxCtx H) (named : NamedPart) (tx : ℕ) (ids : (h : H) (o : OpenTransaction) → Represents digest h before o → tx ≡ o.id) where
  read_by : (q : Select) (result : Result (List Row) TableErr) → IfOk result (λ rows. RowsRead c tx (query_requests named q) named q rows d) → IfErr result (λ stop. NoneRead c tx (query_requests named q) named q stop d)
      → HasRun digest c before named (stmt.Select q) (read_reply result) d before
  read_by q (Ok rows) ok err = λ h o w. record { p = o; ran = reads q rows d (subst (λ (n : ℕ). RowsRead c n (query_requests named q) named q rows d) (ids h o w) ok); context = w }
  read_by q (Err (Refused e)) ok err = λ h o w. let n = subst (λ (i : ℕ). NoneRead c i (query_requests named q) named q (Refused e) d) (ids h o w) err in record { p = o; ran = refuses_to_read q e d n.0 n.1; context = w }
  read_by q (Err (Locked holder)) ok err = λ h o w. let n = subst (λ (i : ℕ). NoneRead c i (query_requests named q) named q (Locked holder) d) (ids h o w) err in record {
    p = o;
    ran = subst (λ (x : TableCell). RunsInTable c o named (stmt.Select q) (Err (refusal.Locked holder)) x o) (sym n.1) (stops (stmt.Select q) (refusal.Locked holder) n.0);
    context = w;
  }
  read_by q (Err Memory) ok err = λ h o w. record {
    p = o;
    ran = subst (λ (x : TableCell). RunsInTable c o named (stmt.Select q) (Err refusal.NoMemory) x o) (sym err) (stops (stmt.Select q) refusal.NoMemory no_memory);
    context = w;
  }

  pub has_read : (q : Select) (requests : List LockRequest) → requests ≡ query_requests named q → (result : Result (List Row) TableErr) → IfOk result (λ rows. RowsRead c tx requests named q rows d) → IfErr result (λ stop. NoneRead c tx requests named q stop d)
      → HasRun digest c before named (stmt.Select q) (read_reply result) d before
  has_read q requests e result ok err = read_by q result (subst (λ (ws : List LockRequest). IfOk result (λ rows. RowsRead c tx ws named q rows d)) e ok) (subst (λ (ws : List LockRequest). IfErr result (λ stop. NoneRead c tx ws named q stop d)) e err)
