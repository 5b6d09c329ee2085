-- What each call of the catalog's cell makes of the cell and of the transaction's context.
use Rattle.std.specs.Prelude.{ℕ, ◌≡◌, ◌+◌, not, Bool, List, length, Ok, None}
use Rattle.std.specs.List.{AllByRecursion}
use Rattle.sql_types.specs.declared.lock.LockRequest.{LockRequest}
use Rattle.sql_types.specs.declared.statement.CreateIndex.{CreateIndex}
use Rattle.sql_types.specs.declared.statement.CreateTable.{CreateTable}
use Rattle.sql_types.specs.declared.table.IndexDef.{IndexDef}
use Rattle.sql_types.specs.declared.table.TableDef.{TableDef}
use Rattle.spec_model.specs.Alter.{Altered}
use Rattle.spec_model.specs.Create.{create_check, index_check, with_index}
use Rattle.spec_model.specs.Holds.{holds_after, holds_any, released}
use Rattle.spec_model.specs.InTheWay.{first_conflict}
use Rattle.spec_model.specs.Refusals.{Checked}
use Rattle.spec_model.specs.Runs.{MadeBefore}
use Rattle.spec_model.specs.SystemTables.{columns_id}
use Rattle.spec_model.specs.Undo.{versions_undone}
use Rattle.spec_protocol.specs.CatalogVisits.{with_altered, with_altered_leaves, with_holds, with_table, with_new_index, with_system_leaves}
use Rattle.spec_protocol.specs.Cells.{CatalogCell}
use Rattle.spec_protocol.specs.Doing.{grown, events_from}
use Rattle.spec_protocol.specs.Moves.{noting}
use Rattle.spec_protocol.specs.Seats.{OpenTransaction}
use Rattle.spec_protocol.specs.UndoVisits.{defs_before, creator_left}
use Rattle.store_tx.specs.Represents.{Represents}
use Rattle.store_tx.specs.declared.context.TxCtx.{TxCtx}

-- ---- locks

-- nothing is in the way, and the transaction has what it wants; true where it had no lock here before
pub record LocksTaken (c : CatalogCell) (tx : ℕ) (requests : List LockRequest) (answer : Bool)
    (d : CatalogCell) : Type 0 where
  pub free : first_conflict c.holds tx requests ≡ None
  pub fresh : answer ≡ not (holds_any c.holds tx)
  pub cell : d ≡ with_holds (holds_after c.holds tx requests) c

-- ---- creating

-- the context is of a transaction whose events in the system tables are numbered below its counter
pub record MayCreate {H : Type 0} (digest : H → List ℕ → List ℕ) (ctx : TxCtx H) (c : CatalogCell)
    : Type 0 where
  pub h : H
  pub o : OpenTransaction
  pub is : Represents digest h ctx o
  pub tables : AllByRecursion (MadeBefore o.id o.seq) c.tables
  pub columns : AllByRecursion (MadeBefore o.id o.seq) c.columns

-- the table's definition and its rows are in the catalog, and the context has their leaves
pub record HasTable {H : Type 0} (digest : H → List ℕ → List ℕ) (h : H) (c : CatalogCell)
    (def : TableDef) (o : OpenTransaction) (d : CatalogCell) (ctx : TxCtx H) : Type 0 where
  pub cell : d ≡ with_table o.id o.seq def c.holds c
  pub context : Represents digest h ctx (noting (o.seq + 1 + length def.columns)
      (with_system_leaves o.id o.seq d o.trees) o)

-- nothing is refused, and the table is made for each transaction of which the context may be
pub record TableMade {H : Type 0} (digest : H → List ℕ → List ℕ) (c : CatalogCell) (before : TxCtx H)
    (create : CreateTable) (d : CatalogCell) (after : TxCtx H) : Type 0 where
  pub def : TableDef
  pub passes : create_check c.defs create ≡ Ok def
  pub made : (h : H) (o : OpenTransaction) → Represents digest h before o → HasTable digest h c def o d after

-- the table's definition has the index, its rows are in the catalog, and the context has their leaves
pub record HasIndex {H : Type 0} (digest : H → List ℕ → List ℕ) (h : H) (c : CatalogCell)
    (def : TableDef) (index : IndexDef) (o : OpenTransaction) (d : CatalogCell) (ctx : TxCtx H)
    : Type 0 where
  pub cell : d ≡ with_new_index o.id o.seq def index c.holds c
  pub context : Represents digest h ctx (noting (o.seq + length index.ordinals)
      (grown columns_id (events_from o.id o.seq columns_id d.columns) o.trees) o)

-- nothing is refused, and the index is made; the table's definition is now this one
pub record IndexMade {H : Type 0} (digest : H → List ℕ → List ℕ) (c : CatalogCell) (before : TxCtx H)
    (create : CreateIndex) (answer : TableDef) (d : CatalogCell) (after : TxCtx H) : Type 0 where
  pub def : TableDef
  pub index : IndexDef
  pub passes : index_check c.defs create ≡ Ok (def, index)
  pub now : answer ≡ with_index def index
  pub made : (h : H) (o : OpenTransaction) → Represents digest h before o
      → HasIndex digest h c def index o d after

-- ---- altering and dropping

-- the definition and the row that says so are in the catalog, and the context has its leaf
pub record HasAltered {H : Type 0} (digest : H → List ℕ → List ℕ) (h : H) (c : CatalogCell) (a : Altered)
    (o : OpenTransaction) (d : CatalogCell) (ctx : TxCtx H) : Type 0 where
  pub cell : d ≡ with_altered o.id o.seq a c.holds c
  pub context : Represents digest h ctx (noting (o.seq + length a.first + length a.second)
      (with_altered_leaves o.id o.seq a.first d o.trees) o)

-- nothing is refused, and the table is altered or dropped for each transaction of which the context may be
pub record TableAltered {H : Type 0} (digest : H → List ℕ → List ℕ) (c : CatalogCell) (before : TxCtx H)
    (meant : Checked Altered) (d : CatalogCell) (after : TxCtx H) : Type 0 where
  pub a : Altered
  pub passes : meant ≡ Ok a
  pub made : (h : H) (o : OpenTransaction) → Represents digest h before o → HasAltered digest h c a o d after

-- ---- undoing and releasing

-- what the transaction changed of definitions and rows is as it was before
abbrev pub undone : ℕ → CatalogCell → CatalogCell
undone tx c =
    record {
      defs = defs_before tx c.creator c.defs;
      creator = creator_left tx c.creator;
      tables = versions_undone tx 0 c.tables;
      columns = versions_undone tx 0 c.columns;
      holds = c.holds;
    }

-- what it changed stays, and its locks go
abbrev pub left : ℕ → CatalogCell → CatalogCell
left tx c =
    record {
      defs = c.defs;
      creator = creator_left tx c.creator;
      tables = c.tables;
      columns = c.columns;
      holds = released c.holds tx;
    }
