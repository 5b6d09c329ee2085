-- What each call of a table's cell makes of the cell and of the transaction's context.
use Rattle.std.specs.Prelude.{ℕ, ◌≡◌, ◌≢◌, ◌≤◌, ◌+◌, ◌++◌, ◌⊎◌, List, [], ◌∷◌, length, map, take, Ok, Err, None, Some, slice_get}
use Rattle.sql_value.specs.declared.refusal.Refusal.{Refusal}
use Rattle.sql_value.specs.declared.refusal.Refusal.TheVariants as refusal
use Rattle.sql_types.specs.declared.lock.LockRequest.{LockRequest}
use Rattle.sql_types.specs.declared.reply.Reply.TheVariants as reply
use Rattle.sql_types.specs.declared.statement.RowStmt.{RowStmt}
use Rattle.sql_types.specs.declared.statement.Select.{Select}
use Rattle.sql_types.specs.declared.table.TableDef.{TableDef}
use Rattle.sql_types.specs.declared.version.Version.{Version}
use Rattle.spec_model.specs.Catalog.{NamedPart}
use Rattle.spec_model.specs.Changes.{Change, changed_all, row_changes}
use Rattle.spec_model.specs.Effect.{query_rows}
use Rattle.spec_model.specs.Holds.{holds_after}
use Rattle.spec_model.specs.InTheWay.{first_conflict}
use Rattle.spec_model.specs.Keys.{key_places}
use Rattle.spec_model.specs.Limits.{max_columns}
use Rattle.spec_model.specs.Rows.{Row}
use Rattle.spec_model.specs.Runs.{MadeBefore}
use Rattle.spec_history.specs.Lists.{Each}
use Rattle.law_journal.specs.Fits.{FitsSoFar}
use Rattle.spec_protocol.specs.Cells.{TableCell}
use Rattle.spec_protocol.specs.Doing.{grown, events_from, Stopped}
use Rattle.spec_protocol.specs.Moves.{noting}
use Rattle.spec_protocol.specs.Seats.{OpenTransaction}
use Rattle.spec_protocol.specs.TableVisits.{with_holds, with_versions}
use Rattle.spec_protocol.specs.TablesAreSerial.{ordinals_of}
use Rattle.store_tx.specs.Represents.{Represents}
use Rattle.store_tx.specs.declared.context.TxCtx.{TxCtx}
use Rattle.store_table.specs.Orders.{version_at}
use Rattle.store_table.specs.Stored as stored
use Rattle.store_table.specs.Stored.{Index, Stored, rows_below}
use Rattle.store_table.specs.declared.stop.TableErr.{TableErr}
use Rattle.store_table.specs.declared.stop.TableErr.TheVariants.{Refused, Locked, Memory}

-- ---- what a call relies on

-- the definition is of the cell's table, and has the key of its versions
pub record IsTable (c : TableCell) (def : TableDef) : Type 0 where
  pub here : def.id ≡ c.id
  pub key : (c.versions ≡ []) ⊎ (c.key ≡ key_places def.columns)

-- no more columns than a table may have, which the versions fit so far
pub record HasFit (c : TableCell) (def : TableDef) : Type 0 where
  pub few : length def.columns ≤ max_columns
  pub fit : Each (λ v. FitsSoFar def.columns v.values) c.versions

-- the context is of a transaction whose starts and ends of these versions are numbered below its counter
pub record MayChange {H : Type 0} (digest : H → List ℕ → List ℕ) (ctx : TxCtx H) (versions : List Version)
    : Type 0 where
  pub h : H
  pub o : OpenTransaction
  pub is : Represents digest h ctx o
  pub before : Each (MadeBefore o.id o.seq) versions

-- the cell has the indexes of the definition but the last one
abbrev pub LacksLast : TableCell → TableDef → Type 0
LacksLast c def = (last : List ℕ)
    × (map (λ i. i.ordinals) c.indexes ++ last ∷ [] ≡ ordinals_of def.indexes)

-- ---- locks

-- nothing is in the way, and the transaction has what it wants
pub record LocksTaken (c : TableCell) (tx : ℕ) (requests : List LockRequest) (d : TableCell) : Type 0 where
  pub free : first_conflict c.holds tx requests ≡ None
  pub cell : d ≡ with_holds (holds_after c.holds tx requests) c

-- the rows refuse it, under its locks; or a lock is in the way or there is no memory, and the cell is as it
-- was
abbrev pub IsStopped : TableCell → ℕ → List LockRequest → (Refusal → Type 0) → TableErr → TableCell → Type 0
IsStopped c tx requests refuses (Refused e) d = refuses e × LocksTaken c tx requests d
IsStopped c tx requests refuses (Locked holder) d =
    Stopped c.holds tx requests (reply.Refused (refusal.Locked holder)) × (d ≡ c)
IsStopped c tx requests refuses Memory d = d ≡ c

-- how a refusal stops a statement: for want of memory its locks go, of which so many were there before
abbrev pub IsLeft : TableCell → ℕ → Refusal → TableErr → TableCell → Type 0
IsLeft c held e stop d =
    ((e ≡ refusal.NoMemory) × (stop ≡ Memory) × (d ≡ with_holds (take held c.holds) c))
    ⊎ ((e ≢ refusal.NoMemory) × (stop ≡ Refused e) × (d ≡ c))

-- ---- INSERT, UPDATE and DELETE

-- the changes are in the store, and the context has their leaves
pub record HasWritten {H : Type 0} (digest : H → List ℕ → List ℕ) (h : H) (s : Stored) (def : TableDef)
    (changes : List Change) (o : OpenTransaction) (t : Stored) (ctx : TxCtx H) : Type 0 where
  pub stored : t ≡ stored.with_versions (key_places def.columns) (changed_all o.id o.seq changes s.versions) s
  pub context : Represents digest h ctx (noting (o.seq + length changes)
      (grown def.id (events_from o.id o.seq def.id t.versions) o.trees) o)

-- the statement has these changes, and they are written for each transaction of which the context may be; so
-- many rows are changed
pub record RowsWritten {H : Type 0} (digest : H → List ℕ → List ℕ) (s : Stored) (before : TxCtx H)
    (def : TableDef) (row : RowStmt) (count : ℕ) (t : Stored) (after : TxCtx H) : Type 0 where
  pub changes : List Change
  pub changed : row_changes def s.versions row ≡ Ok (changes, count)
  pub written : (h : H) (o : OpenTransaction) → Represents digest h before o
      → HasWritten digest h s def changes o t after

-- the transaction has the locks, its changes are in the cell, and the context has their leaves
pub record HasChanges {H : Type 0} (digest : H → List ℕ → List ℕ) (h : H) (c : TableCell) (def : TableDef)
    (requests : List LockRequest) (changes : List Change) (o : OpenTransaction) (d : TableCell) (ctx : TxCtx H)
    : Type 0 where
  pub free : first_conflict c.holds o.id requests ≡ None
  pub cell : d ≡ with_holds (holds_after c.holds o.id requests)
      (with_versions (key_places def.columns) (changed_all o.id o.seq changes c.versions) c)
  pub context : Represents digest h ctx (noting (o.seq + length changes)
      (grown c.id (events_from o.id o.seq c.id d.versions) o.trees) o)

-- the statement has these changes, and they are made for each transaction of which the context may be; so
-- many rows are changed
pub record RowsChanged {H : Type 0} (digest : H → List ℕ → List ℕ) (c : TableCell) (before : TxCtx H)
    (def : TableDef) (row : RowStmt) (requests : List LockRequest) (count : ℕ) (d : TableCell) (after : TxCtx H)
    : Type 0 where
  pub changes : List Change
  pub changed : row_changes def c.versions row ≡ Ok (changes, count)
  pub made : (h : H) (o : OpenTransaction) → Represents digest h before o
      → HasChanges digest h c def requests changes o d after

-- nothing is changed: for each such transaction the rows refuse it, or it is stopped
abbrev pub NoneChanged : {H : Type 0} → (H → List ℕ → List ℕ) → TableCell → TxCtx H → TableDef → RowStmt
    → List LockRequest → TableErr → TableCell → Type 0
NoneChanged {H} digest c before def row requests stop d = (h : H) (o : OpenTransaction)
    → Represents digest h before o
    → IsStopped c o.id requests (λ e. row_changes def c.versions row ≡ Err e) stop d

-- ---- SELECT

-- the rows that the query shows, read under its locks
pub record RowsRead (c : TableCell) (tx : ℕ) (requests : List LockRequest) (named : NamedPart) (q : Select)
    (rows : List Row) (d : TableCell) : Type 0 where
  pub locks : LocksTaken c tx requests d
  pub shown : query_rows q named c.versions ≡ Ok rows

abbrev pub NoneRead : TableCell → ℕ → List LockRequest → NamedPart → Select → TableErr → TableCell → Type 0
NoneRead c tx requests named q stop d =
    IsStopped c tx requests (λ e. query_rows q named c.versions ≡ Err e) stop d

-- ---- places in an index

-- the index with this number has so many rows below that of the version which this event started
abbrev pub IsPlace : TableCell → ℕ → ℕ × ℕ → ℕ → Type 0
IsPlace c index start place = (i : Index) (v : Version) → slice_get c.indexes index ≡ Some i
    → version_at start c.versions ≡ Some v → place ≡ rows_below c.key i.ordinals v c.versions
