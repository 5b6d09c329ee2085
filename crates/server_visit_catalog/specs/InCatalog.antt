-- What the parts of a visit of the catalog's cell make of a transaction, of the cell and of the stage.
use Rattle.std.specs.Prelude.{ℕ, ◌≡◌, ◌≢◌, ◌⊎◌, Bool, true, false, List, [], ◌∷◌, Option, Some, None, Ok, Err}
use Rattle.sql_value.specs.declared.refusal.Refusal.{Refusal}
use Rattle.sql_value.specs.declared.refusal.Refusal.TheVariants.{NoMemory}
use Rattle.sql_types.specs.declared.lock.Mode.{Mode}
use Rattle.sql_types.specs.declared.lock.Mode.TheVariants.{S, X}
use Rattle.sql_types.specs.declared.reply.Reply.TheVariants as reply
use Rattle.sql_types.specs.declared.statement.Alter.{Alter}
use Rattle.sql_types.specs.declared.statement.CreateIndex.{CreateIndex}
use Rattle.sql_types.specs.declared.statement.CreateTable.{CreateTable}
use Rattle.sql_types.specs.declared.statement.Select.{Select}
use Rattle.sql_types.specs.declared.statement.Stmt.{Stmt}
use Rattle.sql_types.specs.declared.statement.Stmt.TheVariants as stmt
use Rattle.sql_types.specs.declared.table.Part.{Part}
use Rattle.sql_types.specs.declared.table.Part.TheVariants.{System}
use Rattle.sql_types.specs.declared.table.TableDef.{TableDef}
use Rattle.spec_model.specs.Alter.{Altered, alteration, table_drop}
use Rattle.spec_model.specs.Catalog.{NamedPart, find_part}
use Rattle.spec_model.specs.Create.{create_check, index_check}
use Rattle.spec_model.specs.Effect.{query_rows}
use Rattle.spec_model.specs.Holds.{released}
use Rattle.spec_model.specs.Locks.{whole}
use Rattle.spec_model.specs.Query.{query_check}
use Rattle.spec_model.specs.Refusals.{Checked}
use Rattle.spec_model.specs.Rows.{Row}
use Rattle.server_session.specs.Lists.{Text}
use Rattle.server_session.specs.Answering.{refused_by_check}
use Rattle.server_session.specs.CatalogVisits.{with_holds}
use Rattle.server_session.specs.Cells.{CatalogCell, Catalog, catalog_at, versions_in}
use Rattle.server_session.specs.Doing.{Stopped}
use Rattle.server_session.specs.LocksCover.{name_of}
use Rattle.server_session.specs.Moves.{put_in}
use Rattle.server_session.specs.Seats.{OpenTransaction}
use Rattle.server_session.specs.Represents.{Represents}
use Rattle.server_session.specs.Context.{TxCtx}
use Rattle.store_catalog.specs.Calls.{left, undone, IndexMade, LocksTaken, MayCreate, TableAltered, TableMade}
use Rattle.server_session.specs.Sits.{IsOfRows}
use Rattle.server_session.specs.Stages.{done_stage, stopped_behind_lock, stopped_stage}
use Rattle.server_session.specs.VisitedCells.{VisitedCells}
use Rattle.sql_types.specs.declared.end_line.EndLine.{EndLine}
use Rattle.sql_types.specs.declared.end_line.EndLine.TheVariants.{Committed, Ended}
use Rattle.server_visit_catalog.specs.declared.got.LookupResult.{LookupResult}
use Rattle.server_visit_catalog.specs.declared.got.LookupResult.TheVariants as got
use Rattle.server_session.specs.declared.running.Running.{Running}
use Rattle.server_session.specs.declared.seat.Seat.{Seat}
use Rattle.server_session.specs.declared.stage.ControlPoint.{ControlPoint}
use Rattle.server_session.specs.declared.stage.ControlPoint.TheVariants.{Inside}
use Rattle.server_session.specs.declared.stage.Stage.{Stage}
use Rattle.server_session.specs.declared.stage.Stage.TheVariants.{Looking, Found, Made, Replied, GivingBack}

-- ---- the seat

-- at this stage of its statement
abbrev pub with_stage : {H : Type 0} → Stage → Seat H → Seat H
with_stage stage y = record {
  hasher = y.hasher;
  name = y.name;
  started = y.started;
  images = y.images;
  text = y.text;
  stmt = y.stmt;
  running = y.running;
  point = Inside stage;
}

-- ---- transactions

-- the transaction with these cells visited
abbrev pub with_visited : {H : Type 0} → VisitedCells → Running H → Running H
with_visited cells r = record {
  context = r.context;
  script = r.script;
  visited = cells;
  explicit = r.explicit;
  end = r.end;
}

-- the newest cell is released
abbrev pub Passes : VisitedCells → VisitedCells → Type 0
Passes before after = (cell : ℕ) (rest : List ℕ) → before.left ≡ cell ∷ rest → after.left ≡ rest

-- its script, what BEGIN opened and its end are as before, and so is the transaction of which the context is
pub record IsSame {H : Type 0} (digest : H → List ℕ → List ℕ) (r q : Running H) : Type 0 where
  pub context : (h : H) (o : OpenTransaction) → Represents digest h r.context o
      → Represents digest h q.context o
  pub script : q.script ≡ r.script
  pub explicit : q.explicit ≡ r.explicit
  pub end : q.end ≡ r.end

-- it has visited the catalog
abbrev pub HasVisited : {H : Type 0} → Running H → Running H → Type 0
HasVisited r q = q.visited.left ≡ put_in catalog_at r.visited.left

-- ---- the release

abbrev pub is_committed : Option EndLine → Bool
is_committed (Some (Committed id place)) = true
is_committed (Some (Ended id after)) = false
is_committed None = false

abbrev pub released_if : Bool → ℕ → CatalogCell → CatalogCell
released_if true tx c = left tx c
released_if false tx c = left tx (undone tx c)

-- what a transaction with this end made is undone unless it was committed, and its locks go
abbrev pub released_by : Option EndLine → ℕ → CatalogCell → CatalogCell
released_by end tx c = released_if (is_committed end) tx c

-- no other visit of the catalog is made there
abbrev pub ReleasesNext : ControlPoint → Type 0
ReleasesNext (Inside Looking) = ⊥
ReleasesNext (Inside (GivingBack e)) = ⊥
ReleasesNext _ = Unit {0}

-- ---- stages

-- with true for `fresh`, the lock is the transaction's first in the catalog
abbrev pub refused_stage : Bool → Bool → Refusal → Stage
refused_stage explicit fresh NoMemory = stopped_behind_lock fresh NoMemory
refused_stage explicit fresh e = done_stage explicit (reply.Refused e)

abbrev pub got_stage : Bool → Bool → Checked LookupResult → Stage
got_stage explicit fresh (Ok (got.Table def part)) = Found def part fresh
got_stage explicit fresh (Ok (got.Rows rows)) = done_stage explicit (reply.Rows rows)
got_stage explicit fresh (Err e) = refused_stage explicit fresh e

-- ---- what a statement gets

abbrev pub is_system : Part → Bool
is_system System = true
is_system _ = false

-- it passes its checks over a user's table of its name
pub record IsFound (c : CatalogCell) (s : Stmt) (n : NamedPart) : Type 0 where
  pub name : Text
  pub named : name_of s ≡ Some name
  pub finds : find_part c.defs name ≡ Some n
  pub passes : refused_by_check (Some n) s ≡ None
  pub of_rows : IsOfRows s
  pub of_user : n.1 ≢ System

-- it is refused by its checks over what it found
pub record IsBlocked (c : CatalogCell) (s : Stmt) (e : Refusal) : Type 0 where
  pub name : Text
  pub named : name_of s ≡ Some name
  pub fails : refused_by_check (find_part c.defs name) s ≡ Some e

-- it passes its checks over a system table, and reads these rows there
pub record IsShown (c : CatalogCell) (s : Stmt) (rows : Checked (List Row)) : Type 0 where
  pub q : Select
  pub selects : s ≡ stmt.Select q
  pub def : TableDef
  pub passes : query_check c.defs q ≡ Ok (def, System)
  pub reads : query_rows q (def, System) (versions_in def.id (Catalog c)) ≡ rows

-- an Err that isn't want of memory is a check's refusal, or what reading comes to
abbrev pub Gets : CatalogCell → Stmt → Checked LookupResult → Type 0
Gets c s (Ok (got.Table def part)) = IsFound c s (def, part)
Gets c s (Ok (got.Rows rows)) = IsShown c s (Ok rows)
Gets c s (Err e) = e ≢ NoMemory → IsBlocked c s e ⊎ IsShown c s (Err e)

-- ---- looking up

-- it doesn't get its lock, and all is as it was
pub record IsStopped {H : Type 0} (digest : H → List ℕ → List ℕ) (mode : Mode) (r : Running H)
    (c : CatalogCell) (q : Running H) (d : CatalogCell) (stage : Stage) : Type 0 where
  pub e : Refusal
  pub stopped : (h : H) (o : OpenTransaction) → Represents digest h r.context o
      → Stopped c.holds o.id (whole mode ∷ []) (reply.Refused e)
  pub same : IsSame digest r q
  pub left : q.visited.left ≡ r.visited.left
  pub cell : d ≡ c
  pub stage_is : stage ≡ stopped_stage e

-- it has its lock
abbrev pub Takes : {H : Type 0} → (H → List ℕ → List ℕ) → Mode → TxCtx H → CatalogCell → Bool → CatalogCell
    → Type 0
Takes {H} digest mode ctx c fresh d = (h : H) (o : OpenTransaction) → Represents digest h ctx o
    → LocksTaken c o.id (whole mode ∷ []) fresh d

-- under S, it gets what it looks for
pub record IsLookedUp {H : Type 0} (digest : H → List ℕ → List ℕ) (s : Stmt) (r : Running H)
    (c : CatalogCell) (q : Running H) (d : CatalogCell) (stage : Stage) : Type 0 where
  pub fresh : Bool
  pub takes : Takes digest S r.context c fresh d
  pub same : IsSame digest r q
  pub visited : HasVisited r q
  pub got : Checked LookupResult
  pub gets : Gets d s got
  pub stage_is : stage ≡ got_stage r.explicit fresh got

abbrev pub LooksUp : {H : Type 0} → (H → List ℕ → List ℕ) → Stmt → Running H → CatalogCell → Running H
    → CatalogCell → Stage → Type 0
LooksUp digest s r c q d stage = IsStopped digest S r c q d stage ⊎ IsLookedUp digest s r c q d stage

-- ---- creating

-- want of memory: the X goes again
pub record GoesAgain {H : Type 0} (digest : H → List ℕ → List ℕ) (r : Running H) (c : CatalogCell)
    (q : Running H) (d : CatalogCell) (stage : Stage) : Type 0 where
  pub cell : (h : H) (o : OpenTransaction) → Represents digest h r.context o
      → d ≡ with_holds (released c.holds o.id) c
  pub left : q.visited.left ≡ r.visited.left
  pub stage_is : stage ≡ stopped_stage NoMemory

-- refused by its checks: the X stays
pub record KeepsLock {H : Type 0} (e : Refusal) (r : Running H) (c : CatalogCell)
    (q : Running H) (d : CatalogCell) (stage : Stage) : Type 0 where
  pub cell : d ≡ c
  pub visited : HasVisited r q
  pub not_memory : e ≢ NoMemory
  pub stage_is : stage ≡ Replied (reply.Refused e)

-- a statement that creates, alters or drops, and has its X, is refused
pub record IsRefused {H : Type 0} (digest : H → List ℕ → List ℕ) (e : Refusal) (r : Running H)
    (c : CatalogCell) (q : Running H) (d : CatalogCell) (stage : Stage) : Type 0 where
  pub same : IsSame digest r q
  pub how : GoesAgain digest r c q d stage ⊎ KeepsLock e r c q d stage

-- what comes of such a statement once it has its X: `Checks` are its refusals, and `Makes` says what it made
pub record Creates {H : Type 0} (digest : H → List ℕ → List ℕ) (Checks : CatalogCell → Refusal → Type 0)
    (Makes : CatalogCell → Running H → CatalogCell → Stage → Type 0) (r : Running H) (c : CatalogCell)
    (q : Running H) (d : CatalogCell) (stage : Stage) : Type 0 where
  pub locked : CatalogCell
  pub fresh : Bool
  pub takes : Takes digest X r.context c fresh locked
  pub how : ((e : Refusal) × (e ≢ NoMemory → Checks locked e) × IsRefused digest e r locked q d stage)
      ⊎ Makes locked q d stage

abbrev pub HasMade : {H : Type 0} → Running H → Running H → Type 0
HasMade r q = (q.script ≡ r.script) × (q.explicit ≡ r.explicit) × (q.end ≡ r.end) × HasVisited r q

abbrev pub TableFails : CreateTable → CatalogCell → Refusal → Type 0
TableFails create c e = create_check c.defs create ≡ Err e

abbrev pub IndexFails : CreateIndex → CatalogCell → Refusal → Type 0
IndexFails create c e = index_check c.defs create ≡ Err e

abbrev pub IsTable : {H : Type 0} → (H → List ℕ → List ℕ) → CreateTable → Running H → CatalogCell → Running H
    → CatalogCell → Stage → Type 0
IsTable digest create r c q d stage = TableMade digest c r.context create d q.context × HasMade r q
    × (stage ≡ Replied reply.Made)

abbrev pub IsIndex : {H : Type 0} → (H → List ℕ → List ℕ) → CreateIndex → Running H → CatalogCell → Running H
    → CatalogCell → Stage → Type 0
IsIndex digest create r c q d stage = (def : TableDef) × IndexMade digest c r.context create def d q.context
    × HasMade r q × (stage ≡ Made def false)

-- CREATE TABLE
abbrev pub MakesTable : {H : Type 0} → (H → List ℕ → List ℕ) → CreateTable → Running H → CatalogCell
    → Running H → CatalogCell → Stage → Type 0
MakesTable digest create r c q d stage = IsStopped digest X r c q d stage
    ⊎ Creates digest (TableFails create) (λ l p e at. IsTable digest create r l p e at) r c q d stage

-- CREATE INDEX
abbrev pub MakesIndex : {H : Type 0} → (H → List ℕ → List ℕ) → CreateIndex → Running H → CatalogCell
    → Running H → CatalogCell → Stage → Type 0
MakesIndex digest create r c q d stage = IsStopped digest X r c q d stage
    ⊎ Creates digest (IndexFails create) (λ l p e at. IsIndex digest create r l p e at) r c q d stage

-- ---- altering and dropping

-- what ALTER TABLE makes over a catalog
abbrev pub by_alter : Alter → CatalogCell → Checked Altered
by_alter alter c = alteration c.defs c.tables c.columns alter

-- what DROP TABLE makes
abbrev pub by_drop : Text → CatalogCell → Checked Altered
by_drop name c = table_drop c.defs c.tables c.columns name

abbrev pub AlterFails : (CatalogCell → Checked Altered) → CatalogCell → Refusal → Type 0
AlterFails meant c e = meant c ≡ Err e

abbrev pub IsAltered : {H : Type 0} → (H → List ℕ → List ℕ) → (CatalogCell → Checked Altered) → Running H
    → CatalogCell → Running H → CatalogCell → Stage → Type 0
IsAltered digest meant r c q d stage = TableAltered digest c r.context (meant c) d q.context × HasMade r q
    × (stage ≡ Replied reply.Made)

-- ALTER TABLE or DROP TABLE
abbrev pub Alters : {H : Type 0} → (H → List ℕ → List ℕ) → (CatalogCell → Checked Altered) → Running H
    → CatalogCell → Running H → CatalogCell → Stage → Type 0
Alters digest meant r c q d stage = IsStopped digest X r c q d stage
    ⊎ Creates digest (AlterFails meant) (λ l p e at. IsAltered digest meant r l p e at) r c q d stage

-- ---- any table statement

abbrev pub MayLookFor : {H : Type 0} → (H → List ℕ → List ℕ) → Stmt → Running H → CatalogCell → Type 0
MayLookFor digest (stmt.Create create) r c = MayCreate digest r.context c
MayLookFor digest (stmt.Index create) r c = MayCreate digest r.context c
MayLookFor digest (stmt.Alter alter) r c = MayCreate digest r.context c
MayLookFor digest (stmt.Drop name) r c = MayCreate digest r.context c
MayLookFor digest (stmt.Change row) r c = Unit {0}
MayLookFor digest (stmt.Select q) r c = Unit {0}
MayLookFor digest _ r c = ⊥

abbrev pub Looked : {H : Type 0} → (H → List ℕ → List ℕ) → Stmt → Running H → CatalogCell → Running H
    → CatalogCell → Stage → Type 0
Looked digest (stmt.Create create) r c q d stage = MakesTable digest create r c q d stage
Looked digest (stmt.Index create) r c q d stage = MakesIndex digest create r c q d stage
Looked digest (stmt.Alter alter) r c q d stage = Alters digest (by_alter alter) r c q d stage
Looked digest (stmt.Drop name) r c q d stage = Alters digest (by_drop name) r c q d stage
Looked digest s r c q d stage = LooksUp digest s r c q d stage
