-- Locks cover: each lock is one seat's, each want of a script has its lock, and what isn't committed lies
-- under locks.
use Rattle.std.specs.Prelude.{ℕ, suc, ◌≡◌, ◌⊎◌, ◌≤◌, Bool, true, false, not, List, [], Option, Some, None}
use Rattle.sql_types.specs.declared.statement.Stmt.{Stmt}
use Rattle.sql_types.specs.declared.statement.Stmt.TheVariants as s
use Rattle.sql_types.specs.declared.statement.RowStmt.{RowStmt}
use Rattle.sql_types.specs.declared.statement.RowStmt.TheVariants.{Insert, Update, Delete}
use Rattle.sql_types.specs.declared.table.TableDef.{TableDef}
use Rattle.sql_types.specs.declared.version.Version.{Version}
use Rattle.spec_model.specs.Rows.{EventId}
use Rattle.spec_model.specs.Keys.{version_key}
use Rattle.spec_model.specs.Catalog.{Defs, NamedPart, Tables, defs_of, find_part}
use Rattle.spec_model.specs.Agreement.{columns_at}
use Rattle.sql_types.specs.declared.lock.Mode.TheVariants.{IX, S, X}
use Rattle.sql_types.specs.declared.lock.Item.TheVariants.{Whole}
use Rattle.spec_model.specs.ChangeSets.{change_set, as_before, in_place}
use Rattle.spec_model.specs.Reach.{lets_change}
use Rattle.spec_history.specs.Lists.{Text, Each, In}
use Rattle.spec_history.specs.Transactions.{unfixed}
use Rattle.spec_history.specs.Refusals.{EndsAt}
use Rattle.spec_protocol.specs.Server.{Server}
use Rattle.sql_types.specs.declared.lock.Hold.{Hold}
use Rattle.spec_protocol.specs.Cells.{catalog_at, cell_of}
use Rattle.spec_protocol.specs.Contents.{Contents, Known, HasAlone}
use Rattle.spec_protocol.specs.Seats.{OpenTransaction, Session, SeatState, StatementProgress, found, made, replied, answering, refused, SessionStatus, inside}
use Rattle.spec_protocol.specs.OpenOnes.{HasOpen, script_so_far}
use Rattle.spec_model.specs.ScriptRequests.{text_requests}
use Rattle.spec_protocol.specs.RequestsIn.{of_catalog, requests_in, Holds}

-- ---- each lock

-- a lock in cell i belongs to one seat whose transaction hasn't released that cell
pub record Belongs (seats : List SeatState) (i : ℕ) (h : Hold) : Type 0 where
  pub j : ℕ
  pub x : Session
  pub o : OpenTransaction
  pub has : HasOpen seats j x o
  pub mine : o.id ≡ h.tx
  pub only : (k : ℕ) (y : Session) (p : OpenTransaction) → HasOpen seats k y p → p.id ≡ h.tx → k ≡ j
  pub visited : In i o.visited
  pub unreleased : In i o.released → ⊥

-- the transaction has a lock in cell i
pub record HasLock (c : Contents) (i id : ℕ) : Type 0 where
  pub hold : Hold
  pub has : In hold (c.holds i)
  pub mine : hold.tx ≡ id

-- it has a lock in the catalog, and the one that this statement wants there
pub record HoldsCatalog (v : Server) (c : Contents) (defs : Defs) (id : ℕ) (explicit : Bool)
    (text : Text) : Type 0 where
  pub lock : HasLock c catalog_at id
  pub requests : Each (Holds (c.holds catalog_at) id)
      (of_catalog (text_requests defs explicit (v.reads text)).catalog)

-- it visited the catalog for its statement
abbrev pub LookedIn : Server → Contents → Defs → ℕ → Bool → Text → StatementProgress → Type 0
LookedIn v c defs id explicit text (found named fresh) = HoldsCatalog v c defs id explicit text
LookedIn v c defs id explicit text (made def indexed) = HoldsCatalog v c defs id explicit text
LookedIn v c defs id explicit text (refused reply) = HoldsCatalog v c defs id explicit text
LookedIn v c defs id explicit text _ = Unit {0}

abbrev pub LookedAt : Server → Contents → Defs → ℕ → Bool → SessionStatus → Type 0
LookedAt v c defs id explicit (inside text stage) = LookedIn v c defs id explicit text stage
LookedAt v c defs id explicit _ = Unit {0}

-- ---- the definition that a statement got

abbrev pub table_of : RowStmt → Text
table_of (Insert table columns rows) = table
table_of (Update table sets cond) = table
table_of (Delete table cond) = table

-- the name that a statement looks up
abbrev pub name_of : Stmt → Option Text
name_of (s.Index c) = Some c.table
name_of (s.Change stmt) = Some (table_of stmt)
name_of (s.Select q) = Some q.table
name_of _ = None

-- what the tables define under the statement's name
abbrev pub IsNamed : Tables → Option Stmt → Option NamedPart → Type 0
IsNamed T None named = ⊥
IsNamed T (Some stmt) named = (name : Text) × (name_of stmt ≡ Some name)
    × (named ≡ find_part (defs_of T) name)

-- the definition that the statement, a CREATE INDEX, puts in the place of its table's
abbrev pub IsAfter : Tables → Option Stmt → TableDef → Type 0
IsAfter T None def = ⊥
IsAfter T (Some stmt) def = (change_set T stmt).definition ≡ in_place def

-- a CREATE INDEX that makes its index isn't replied to before it is added
abbrev pub IsRepliedTo : Tables → Option Stmt → Type 0
IsRepliedTo T (Some (s.Index create)) = (change_set T (s.Index create)).definition ≡ as_before
IsRepliedTo T _ = Unit {0}

-- what a statement has got is that of the tables or, where the statement changes definitions and isn't in the
-- journal, that after itself; then it has the catalog alone
abbrev pub IsGot : Tables → Type 0 → Bool → Option Stmt → StatementProgress → Type 0
IsGot T Exclusive outside stmt (found named fresh) = IsNamed T stmt named
IsGot T Exclusive outside stmt (made def indexed) = (outside ≡ true) × IsAfter T stmt def × Exclusive
IsGot T Exclusive outside stmt (replied reply) = IsRepliedTo T stmt
IsGot T Exclusive outside stmt (answering reply (Some def)) = (outside ≡ true) × IsAfter T stmt def
    × Exclusive
IsGot T Exclusive outside stmt _ = Unit {0}

abbrev pub IsGotAt : Server → Tables → Type 0 → Bool → SessionStatus → Type 0
IsGotAt v T Exclusive outside (inside text stage) = IsGot T Exclusive outside (v.reads text) stage
IsGotAt v T Exclusive outside _ = Unit {0}

-- ---- locks of the statement under way

-- who locks rows for change has said so on the whole table
pub record HasIntent (holds : List Hold) (h : Hold) : Type 0 where
  pub hold : Hold
  pub has : In hold holds
  pub mine : hold.tx ≡ h.tx
  pub whole : hold.request.item ≡ Whole
  pub mode : (hold.request.mode ≡ IX) ⊎ (hold.request.mode ≡ X)

-- the statement was the first of its transaction that took a lock in the catalog
abbrev pub LookedFirst : SessionStatus → Type 0
LookedFirst (inside text (found named true)) = Unit {0}
LookedFirst (inside text (refused reply)) = Unit {0}
LookedFirst _ = ⊥

-- the statements before it want nothing in the catalog, its transaction's locks there are S, and it has none
-- in a table's cell
pub record RequestsNone (v : Server) (c : Contents) (T : Tables) (o : OpenTransaction) : Type 0 where
  pub before : Each (λ l. requests_in v (defs_of T) o.explicit catalog_at l.0 ≡ []) o.script
  pub shares : (h : Hold) → In h (c.holds catalog_at) → h.tx ≡ o.id → h.request.mode ≡ S
  pub elsewhere : (i : ℕ) → HasLock c (suc i) o.id → ⊥

-- the index of a refused CREATE INDEX may still have to be dropped, in the cell of its table
abbrev pub IsDropping : SessionStatus → OpenTransaction → Type 0
IsDropping (inside text (answering reply (Some def))) o =
    In (cell_of def.id) o.visited × (In (cell_of def.id) o.released → ⊥)
IsDropping _ o = ⊥

-- ---- what isn't committed

-- one of the transaction's locks in the table's cell is an X on these rows
pub record LiesUnder (c : Contents) (T : Tables) (id : ℕ) (w : Version) (event : EventId) : Type 0 where
  pub hold : Hold
  pub has : In hold (c.holds (cell_of id))
  pub mine : hold.tx ≡ event.0
  pub reaches : lets_change (version_key (columns_at (defs_of T) id) w) hold.request ≡ true

abbrev pub EndLiesUnder : Contents → Known → ℕ → Version → Option EventId → Type 0
EndLiesUnder c k id w None = Unit {0}
EndLiesUnder c k id w (Some event) = k.has event.0 ≡ false → LiesUnder c k.tables id w event

-- any start or end whose id isn't in the journal lies under its seat's X locks
pub record IsUnderLocks (c : Contents) (k : Known) (id : ℕ) (w : Version) : Type 0 where
  pub start : k.has w.start.0 ≡ false → LiesUnder c k.tables id w w.start
  pub end : EndLiesUnder c k id w w.end

-- ---- all

-- it has released neither this cell nor the catalog, which comes last
abbrev pub KeepsLocks : OpenTransaction → ℕ → Type 0
KeepsLocks o i = (In i o.released → ⊥) × (In catalog_at o.released → ⊥)

pub record LocksCover (v : Server) (c : Contents) (k : Known) (seats : List SeatState) : Type 0 where
  -- each lock in a cell belongs to one seat
  pub belong : (i : ℕ) (h : Hold) → In h (c.holds i) → Belongs seats i h
  -- until it has released the catalog, in the cells that it hasn't released a transaction's locks cover all
  -- wants of its script
  pub cover : (j : ℕ) (x : Session) (o : OpenTransaction) → HasOpen seats j x o → (i : ℕ) → KeepsLocks o i
      → Each (λ l. Each (Holds (c.holds i) o.id) (requests_in v (defs_of k.tables) o.explicit i l.0))
      (script_so_far x o)
  -- it has released none before its end is fixed
  pub unreleased : (j : ℕ) (x : Session) (o : OpenTransaction) → HasOpen seats j x o → o.end ≡ unfixed
      → o.released ≡ []
  -- while its end isn't fixed, and its statement has been in the catalog, it has the lock there that the
  -- statement wants
  pub looked : (j : ℕ) (x : Session) (o : OpenTransaction) → HasOpen seats j x o → o.end ≡ unfixed
      → LookedAt v c (defs_of k.tables) o.id o.explicit x.place
  -- where it was the first of its transaction there, none before it wants anything there
  pub looked_first : (j : ℕ) (x : Session) (o : OpenTransaction) → HasOpen seats j x o → o.end ≡ unfixed
      → LookedFirst x.place → RequestsNone v c k.tables o
  -- each X has its intent on the whole table
  pub intents : (i : ℕ) (h : Hold) → In h (c.holds i) → h.request.mode ≡ X → HasIntent (c.holds i) h
  -- a lock in the catalog is on all of it
  pub on_whole : (h : Hold) → In h (c.holds catalog_at) → h.request.item ≡ Whole
  -- a transaction that has a lock in a table's cell has one in the catalog
  pub catalog : (i id : ℕ) → HasLock c (suc i) id → HasLock c catalog_at id
  -- while a transaction whose end number n is fixed has a lock in the catalog, the journal has the
  -- definitions of its first n transactions
  pub definitions : (j : ℕ) (x : Session) (o : OpenTransaction) (n : ℕ) → HasOpen seats j x o → EndsAt o.end n
      → HasLock c catalog_at o.id
      → defs_of k.tables ≡ defs_of (k.after n)
  -- while a seat inside a statement has a lock in the catalog, the definition that it got there for this
  -- statement is that
  pub got : (j : ℕ) (x : Session) (o : OpenTransaction) → HasOpen seats j x o → HasLock c catalog_at o.id
      → IsGotAt v k.tables (HasAlone c o.id) (not (k.has o.id)) x.place
  -- until it has dropped its index, a refused CREATE INDEX has the catalog alone
  pub dropping : (j : ℕ) (x : Session) (o : OpenTransaction) → HasOpen seats j x o → IsDropping x.place o
      → HasAlone c o.id
  -- any start or end whose id isn't in the journal lies under its seat's X locks
  pub under : (id : ℕ) → 1 ≤ id → Each (IsUnderLocks c k id) (c.versions id)
