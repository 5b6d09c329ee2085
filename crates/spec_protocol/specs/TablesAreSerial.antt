-- The tables are serial.
use Rattle.std.specs.Prelude.{ℕ, ◌≡◌, ◌⊎◌, ◌≢◌, ◌==◌, ◌++◌, ◌-◌, ◌≤◌, Bool, true, false, if◌then◌else◌, List, [], ◌∷◌, map, Option, Some, None}
use mathlib.Core.Option.{some}
use Rattle.sql_types.specs.declared.statement.Stmt.{Stmt}
use Rattle.sql_types.specs.declared.table.TableDef.{TableDef}
use Rattle.sql_types.specs.declared.table.IndexDef.{IndexDef}
use Rattle.sql_types.specs.declared.version.Version.{Version}
use Rattle.spec_model.specs.Lists.{sorted}
use Rattle.spec_model.specs.Rows.{Row, EventId, values_of, live}
use Rattle.spec_model.specs.Keys.{key_cmp, key_places, live_by_key, same_key, value_at, version_key_at}
use Rattle.spec_model.specs.Catalog.{Defs, Tables, defs_of, versions_of}
use Rattle.spec_model.specs.ChangeSets.{change_set, defined}
use Rattle.spec_model.specs.Reach.{creates}
use Rattle.law_journal.specs.Fits.{FitsSoFar}
use Rattle.spec_history.specs.Lists.{Text, Each, In}
use Rattle.spec_history.specs.Transactions.{unfixed}
use Rattle.spec_protocol.specs.Server.{Server}
use Rattle.spec_protocol.specs.Cells.{Creator, Index, TableCell, cell_of}
use Rattle.spec_protocol.specs.Contents.{Contents, Known, HasAlone}
use Rattle.spec_protocol.specs.Seats.{OpenTransaction, made, replied, answering, SessionStatus, inside, Session, SeatState}
use Rattle.spec_protocol.specs.OpenOnes.{HasOpen, text_at, script_end}
use Rattle.spec_protocol.specs.CommittedTxs.{committed}

-- ---- definitions

-- from the catalog on, a CREATE may have changed the definitions
abbrev pub HasActed : SessionStatus → Type 0
HasActed (inside text (made def indexed)) = Unit {0}
HasActed (inside text (replied reply)) = Unit {0}
HasActed (inside text (answering reply def)) = Unit {0}
HasActed _ = ⊥

-- a transaction of its own, which isn't in the journal, stands in a statement that changes definitions and
-- did so, and has the catalog alone
pub record Creates (v : Server) (c : Contents) (k : Known) (seats : List SeatState) (x : Session)
    (stmt : Stmt) : Type 0 where
  pub j : ℕ
  pub o : OpenTransaction
  pub has : HasOpen seats j x o
  pub own : o.explicit ≡ false
  pub outside : k.has o.id ≡ false
  pub text : Text
  pub stands : text_at x.place ≡ Some text
  pub is : v.reads text ≡ Some stmt
  pub creates : creates stmt ≡ true
  pub acted : HasActed x.place
  pub exclusive : HasAlone c o.id

-- a statement that isn't in the journal changed the definitions, and the catalog has its way back
pub record IsUnderWay (v : Server) (c : Contents) (k : Known) (seats : List SeatState) (defs : Defs)
    (creator : Option Creator) : Type 0 where
  pub x : Session
  pub stmt : Stmt
  pub by : Creates v c k seats x stmt
  pub has_creator : creator ≡ Some (record { tx = by.o.id; before = defs_of k.tables })
  pub is : defs ≡ defs_of (defined (change_set k.tables stmt).definition k.tables)

-- the definitions are those of the journal or, while a statement that isn't in it changes them, those after
-- it
abbrev pub AreDefinitions : Server → Contents → Known → List SeatState → Defs → Option Creator → Type 0
AreDefinitions v c k seats defs creator = (defs ≡ defs_of k.tables) ⊎ IsUnderWay v c k seats defs creator

-- who changed the definitions has the catalog alone, and goes back to those of the journal
pub record GoesBack (c : Contents) (k : Known) (creator : Creator) : Type 0 where
  pub exclusive : HasAlone c creator.tx
  pub before : k.has creator.tx ≡ false → creator.before ≡ defs_of k.tables

-- ---- a table's cell

-- the definition of the table with this id
abbrev pub def_at : Defs → ℕ → Option TableDef
def_at [] id = None
def_at (def ∷ defs) id = if def.id == id then Some def else def_at defs id

-- of two versions without an end, the keys differ
abbrev pub KeysDiffer : List ℕ → List Version → Type 0
KeysDiffer key [] = Unit {0}
KeysDiffer key (v ∷ vs) = Each (λ w. same_key (version_key_at key v) (version_key_at key w) ≢ true) vs
    × KeysDiffer key vs

-- a row of an index: the values of its columns, and then the key, which is at these places
abbrev pub projected : List ℕ → List ℕ → Version → Row
projected key ordinals v = map (λ n. value_at (values_of v) (n - 1)) ordinals ++ version_key_at key v

-- the starts of the versions without an end, sorted by what the index has of them
abbrev pub index_order : List ℕ → List ℕ → List Version → List EventId
index_order key ordinals versions =
    map (λ v. v.start) (sorted (λ v w. key_cmp (projected key ordinals v) (projected key ordinals w))
    (live versions))

abbrev pub IsSortedProjection : List ℕ → List Version → Index → Type 0
IsSortedProjection key versions index = index.order ≡ index_order key index.ordinals versions

abbrev pub ordinals_of : List IndexDef → List (List ℕ)
ordinals_of indexes = map (λ i. i.ordinals) indexes

-- the statement has added the index of this definition: its end isn't fixed, or it is refused and has still
-- to drop it
abbrev pub HasAdded : SessionStatus → OpenTransaction → TableDef → Type 0
HasAdded (inside text (made def true)) o after = (def ≡ after) × (o.end ≡ unfixed)
HasAdded (inside text (answering reply (Some def))) o after = def ≡ after
HasAdded _ o after = ⊥

-- in this cell, which its transaction visited and hasn't released
pub record IsAdding (place : SessionStatus) (o : OpenTransaction) (after : TableDef) (i : ℕ) : Type 0 where
  pub added : HasAdded place o after
  pub visited : In i o.visited
  pub unreleased : In i o.released → ⊥

-- the indexes of the definition, in order, and at most one more; that is of a CREATE INDEX whose seat still
-- has the catalog alone
abbrev pub AreIndexes : Server → Contents → Known → List SeatState → TableDef → List (List ℕ) → Type 0
AreIndexes v c k seats def indexes =
    (indexes ≡ ordinals_of def.indexes)
    ⊎ ((x : Session) × (stmt : Stmt) × (after : TableDef) × (by : Creates v c k seats x stmt)
    × (def_at (defs_of (defined (change_set k.tables stmt).definition k.tables)) def.id ≡ Some after)
    × (indexes ≡ ordinals_of after.indexes) × IsAdding x.place by.o after (cell_of def.id))

pub record TableStands (v : Server) (c : Contents) (k : Known) (seats : List SeatState) (cell : TableCell)
    (def : TableDef) : Type 0 where
  -- the cell has the places of the definition's key
  pub key : (cell.versions ≡ []) ⊎ (cell.key ≡ key_places def.columns)
  -- all versions, also those of transactions that aren't in the journal, fit the definition that the journal
  -- gives so far
  pub fit : Each (λ w. FitsSoFar def.columns w.values) cell.versions
  -- the cell's key order is by that definition's key columns, and no two versions without an end have one key
  pub in_key_order : cell.order ≡ map (λ w. w.start) (live_by_key def.columns None cell.versions)
  pub keys_differ : KeysDiffer (key_places def.columns) (live cell.versions)
  -- each index is the sorted projection of the cell's base rows
  pub projections : Each (IsSortedProjection (key_places def.columns) cell.versions) cell.indexes
  -- the cell has the indexes that the journal gives its definition, in order, and at most one more
  pub indexes : AreIndexes v c k seats def (map (λ i. i.ordinals) cell.indexes)

-- a cell whose table the journal doesn't define has nothing
abbrev pub StandsAs : Server → Contents → Known → List SeatState → TableCell → Option TableDef → Type 0
StandsAs v c k seats cell None = (cell.versions ≡ []) × (cell.order ≡ []) × (cell.indexes ≡ [])
StandsAs v c k seats cell (Some def) = TableStands v c k seats cell def

-- ---- statements under way

-- where CREATE INDEX has added its index, the table's cell has those of the definition
abbrev pub HasIndexes : Contents → TableDef → Bool → Type 0
HasIndexes c def true = (i : ℕ) (cell : TableCell) → c.table i ≡ some cell → cell.id ≡ def.id
    → map (λ x. x.ordinals) cell.indexes ≡ ordinals_of def.indexes
HasIndexes c def false = Unit {0}

abbrev pub IsIndexed : Contents → SessionStatus → Type 0
IsIndexed c (inside text (made def indexed)) = HasIndexes c def indexed
IsIndexed c _ = Unit {0}

-- the definitions after a script are those of the catalog, or those before it
abbrev pub IsCarried : Defs → Tables → Tables → Type 0
IsCarried defs T left = (defs ≡ defs_of left) ⊎ (defs_of left ≡ defs_of T)

-- ---- all

-- `defs` are the definitions in the catalog, and `creator` is who changed them
pub record TablesAreSerial (v : Server) (c : Contents) (k : Known) (defs : Defs) (creator : Option Creator)
    (seats : List SeatState) : Type 0 where
  -- the catalog and the tables, without starts and ends whose id isn't in the journal, are those that the
  -- journal leads to
  pub definitions : AreDefinitions v c k seats defs creator
  pub goes_back : (e : Creator) → creator ≡ Some e → GoesBack c k e
  -- of each transaction whose end isn't fixed
  pub carried : (j : ℕ) (x : Session) (o : OpenTransaction) → HasOpen seats j x o → o.end ≡ unfixed
      → IsCarried defs k.tables (script_end v k.tables x o).state.tables
  pub indexed : (j : ℕ) (x : Session) (o : OpenTransaction) → HasOpen seats j x o → o.end ≡ unfixed
      → IsIndexed c x.place
  pub versions : (id : ℕ) → 1 ≤ id → committed k.has (c.versions id) ≡ versions_of k.tables id
  -- what holds besides for each table's cell
  pub tables : (i : ℕ) (cell : TableCell) → c.table i ≡ some cell
      → StandsAs v c k seats cell (def_at (defs_of k.tables) cell.id)
