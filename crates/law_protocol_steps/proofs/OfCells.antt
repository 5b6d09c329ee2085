-- What the definitions say of a list of cells and of the ledger's cell.
use Rattle.std.proofs.Common.{◌≡◌, ℕ, Bool, List, Option, Some, refl, subst, ap}
use Rattle.sql_types.specs.declared.journal.JournalItem.{JournalItem}
use Rattle.sql_types.specs.declared.event.Event.{Event}
use Rattle.sql_types.specs.declared.statement.Stmt.{Stmt}
use Rattle.sql_types.specs.declared.table.TableDef.{TableDef}
use Rattle.sql_types.specs.declared.version.Version.{Version}
use Rattle.spec_model.specs.Rows.{EventId}
use Rattle.spec_model.specs.Keys.{Key}
use Rattle.spec_model.specs.Catalog.{Defs, Tables, defs_of}
use Rattle.spec_protocol.specs.Server.{Server}
use Rattle.sql_types.specs.declared.lock.Hold.{Hold}
use Rattle.spec_protocol.specs.Cells.{Creator, LedgerCell, TableCell, Cell, catalog_at, holds_at, Catalog, Ledger, Rows}
use Rattle.spec_protocol.specs.Contents.{contents, known, has_id, HasAlone, table_found}
use Rattle.spec_protocol.specs.Seats.{OpenTransaction, SessionStatus, Session, SeatState, StatementProgress, answering, begun, between, found, going_back, inside, leaving, made, refused, replied}
use Rattle.spec_protocol.specs.CommittedTxs as committed_rows
use Rattle.spec_protocol.specs.OpenScripts as scripts
use Rattle.spec_protocol.specs.RowsAgree as rows
use Rattle.spec_protocol.specs.TablesAreSerial as tables
use Rattle.spec_protocol.specs.LocksCover as cover
use Rattle.spec_protocol.specs.LocksAgree as agree
use Rattle.spec_protocol.specs.TreesAreOfEvents as trees
use Rattle.spec_history.specs.Lists.{Each, Text}
use Rattle.spec_protocol.specs.RequestsIn.{Holds, of_catalog}
use Rattle.spec_protocol.specs.OpenOnes.{text_at}
use Rattle.spec_model.specs.ScriptRequests.{text_requests}

-- the event's transaction is in the journal
abbrev pub in_journal : List JournalItem → EventId → Bool
in_journal J event = has_id J event.0

abbrev pub end_committed : List JournalItem → Option EventId → Option EventId
end_committed J event = committed_rows.end_committed (has_id J) event

abbrev pub with_committed_end : List JournalItem → Version → Version
with_committed_end J w = committed_rows.with_committed_end (has_id J) w

abbrev pub committed : List JournalItem → List Version → List Version
committed J versions = committed_rows.committed (has_id J) versions

-- ---- scripts and rows

abbrev pub events_counted : List Cell → Session → OpenTransaction → ℕ → List Event
events_counted cells x o id = scripts.events_counted (contents cells) x o id

abbrev pub IsOfItsScript : Server → List Cell → Tables → Session → OpenTransaction → Type 0
IsOfItsScript v cells T x o = scripts.IsOfItsScript v (contents cells) T x o

abbrev pub OpenScripts : Server → List Cell → LedgerCell → List SeatState → Type 0
OpenScripts v cells ledger seats = scripts.OpenScripts v (contents cells) (known v.reads ledger.items) seats

abbrev pub IsFree : List Hold → LedgerCell → Key → Type 0
IsFree holds ledger key = rows.IsFree holds (has_id ledger.items) key

abbrev pub RowsAgree : Server → List Cell → LedgerCell → List SeatState → Type 0
RowsAgree v cells ledger seats = rows.RowsAgree v (contents cells) (known v.reads ledger.items) seats

-- ---- tables

abbrev pub Creates : Server → List Cell → List SeatState → LedgerCell → Session → Stmt → Type 0
Creates v cells seats ledger x stmt = tables.Creates v (contents cells) (known v.reads ledger.items) seats x stmt

abbrev pub IsUnderWay : Server → List Cell → List SeatState → LedgerCell → Defs → Option Creator → Type 0
IsUnderWay v cells seats ledger defs creator = tables.IsUnderWay v (contents cells) (known v.reads ledger.items) seats defs creator

abbrev pub AreDefinitions : Server → List Cell → List SeatState → LedgerCell → Defs → Option Creator → Type 0
AreDefinitions v cells seats ledger defs creator = tables.AreDefinitions v (contents cells) (known v.reads ledger.items) seats defs creator

abbrev pub GoesBack : Server → List Cell → LedgerCell → Creator → Type 0
GoesBack v cells ledger k = tables.GoesBack (contents cells) (known v.reads ledger.items) k

abbrev pub AreIndexes : Server → List Cell → List SeatState → LedgerCell → TableDef → List (List ℕ) → Type 0
AreIndexes v cells seats ledger def indexes = tables.AreIndexes v (contents cells) (known v.reads ledger.items) seats def indexes

abbrev pub StandsAs : Server → List Cell → List SeatState → LedgerCell → TableCell → Option TableDef → Type 0
StandsAs v cells seats ledger cell def = tables.StandsAs v (contents cells) (known v.reads ledger.items) seats cell def

abbrev pub TableStands : Server → List Cell → List SeatState → LedgerCell → TableCell → TableDef → Type 0
TableStands v cells seats ledger cell def = tables.TableStands v (contents cells) (known v.reads ledger.items) seats cell def

abbrev pub IsIndexed : List Cell → SessionStatus → Type 0
IsIndexed cells place = tables.IsIndexed (contents cells) place

abbrev pub TablesAreSerial : Server → List Cell → Defs → Option Creator → LedgerCell → List SeatState → Type 0
TablesAreSerial v cells defs creator ledger seats = tables.TablesAreSerial v (contents cells) (known v.reads ledger.items) defs creator seats

-- ---- locks

abbrev pub HasLock : List Cell → ℕ → ℕ → Type 0
HasLock cells i id = cover.HasLock (contents cells) i id

abbrev pub RequestsNone : Server → List Cell → Tables → OpenTransaction → Type 0
RequestsNone v cells T o = cover.RequestsNone v (contents cells) T o

abbrev pub LiesUnder : List Cell → Tables → ℕ → Version → EventId → Type 0
LiesUnder cells T id w event = cover.LiesUnder (contents cells) T id w event

abbrev pub EndLiesUnder : Server → List Cell → LedgerCell → ℕ → Version → Option EventId → Type 0
EndLiesUnder v cells ledger id w event = cover.EndLiesUnder (contents cells) (known v.reads ledger.items) id w event

abbrev pub IsUnderLocks : Server → List Cell → LedgerCell → ℕ → Version → Type 0
IsUnderLocks v cells ledger id w = cover.IsUnderLocks (contents cells) (known v.reads ledger.items) id w

abbrev pub LocksCover : Server → List Cell → LedgerCell → List SeatState → Type 0
LocksCover v cells ledger seats = cover.LocksCover v (contents cells) (known v.reads ledger.items) seats

abbrev pub SeatHas : List Cell → List SeatState → ℕ → ℕ → Hold → Type 0
SeatHas cells seats i j h = agree.SeatHas (contents cells) seats i j h

abbrev pub LocksAgree : List Cell → List SeatState → Type 0
LocksAgree cells seats = agree.LocksAgree (contents cells) seats

-- ---- trees

abbrev pub HasItsTrees : Server → List Cell → LedgerCell → Session → OpenTransaction → Type 0
HasItsTrees v cells ledger x o = trees.HasItsTrees v (contents cells) (known v.reads ledger.items) x o

abbrev pub TreesAreOfEvents : Server → List Cell → LedgerCell → List SeatState → Type 0
TreesAreOfEvents v cells ledger seats = trees.TreesAreOfEvents v (contents cells) (known v.reads ledger.items) seats

-- ---- the statement's lock in the catalog

-- from the catalog on, the statement has its lock there
abbrev pub HasLooked : SessionStatus → Type 0
HasLooked (inside text (found named fresh)) = Unit {0}
HasLooked (inside text (made def indexed)) = Unit {0}
HasLooked (inside text (refused reply)) = Unit {0}
HasLooked _ = ⊥

-- it has the catalog's lock, and all that its statement wants there
pub record HoldsInCatalog (v : Server) (cells : List Cell) (T : Tables) (place : SessionStatus) (o : OpenTransaction) : Type 0 where
  pub lock : HasLock cells catalog_at o.id
  pub requests : (text : Text) → text_at place ≡ Some text → Each (Holds (holds_at cells catalog_at) o.id) (of_catalog (text_requests (defs_of T) o.explicit (v.reads text)).catalog)

abbrev pub LookedAt : Server → List Cell → Tables → SessionStatus → OpenTransaction → Type 0
LookedAt v cells T place o = cover.LookedAt v (contents cells) (defs_of T) o.id o.explicit place

module _ (v : Server) (cells : List Cell) (T : Tables) (o : OpenTransaction) where
  catalog_of : (text : Text) (stage : StatementProgress) → cover.HoldsCatalog v (contents cells) (defs_of T) o.id o.explicit text → HoldsInCatalog v cells T (inside text stage) o
  catalog_of text stage h = record { lock = h.lock; requests = λ t e. let same : text ≡ t = cc in subst (λ (a : Text). Each (Holds (holds_at cells catalog_at) o.id) (of_catalog (text_requests (defs_of T) o.explicit (v.reads a)).catalog)) same h.requests }

  pub looked_now : (place : SessionStatus) → LookedAt v cells T place o → HasLooked place → HoldsInCatalog v cells T place o
  looked_now (inside text (found named fresh)) l h = catalog_of text (found named fresh) l
  looked_now (inside text (made def indexed)) l h = catalog_of text (made def indexed) l
  looked_now (inside text (refused reply)) l h = catalog_of text (refused reply) l
  looked_now between l h = absurd h
  looked_now leaving l h = absurd h
  looked_now (inside text begun) l h = absurd h
  looked_now (inside text (going_back seq cs)) l h = absurd h
  looked_now (inside text (replied reply)) l h = absurd h
  looked_now (inside text (answering reply def)) l h = absurd h

  to_catalog : (text : Text) (stage : StatementProgress) → HoldsInCatalog v cells T (inside text stage) o → cover.HoldsCatalog v (contents cells) (defs_of T) o.id o.explicit text
  to_catalog text stage h = record { lock = h.lock; requests = h.requests text refl }

  pub looked_so : (place : SessionStatus) → (HasLooked place → HoldsInCatalog v cells T place o) → LookedAt v cells T place o
  looked_so (inside text (found named fresh)) h = to_catalog text (found named fresh) (h tt)
  looked_so (inside text (made def indexed)) h = to_catalog text (made def indexed) (h tt)
  looked_so (inside text (refused reply)) h = to_catalog text (refused reply) (h tt)
  looked_so between h = tt
  looked_so leaving h = tt
  looked_so (inside text begun) h = tt
  looked_so (inside text (going_back seq cs)) h = tt
  looked_so (inside text (replied reply)) h = tt
  looked_so (inside text (answering reply def)) h = tt

-- what the statement got, where `id` may have the catalog alone
abbrev pub IsGotAt : Server → List Cell → Tables → ℕ → Bool → SessionStatus → Type 0
IsGotAt v cells T id outside place = cover.IsGotAt v T (HasAlone (contents cells) id) outside place

-- ---- a table's cell

pub table_there : (o : mathlib.Core.Option.Option Cell) (cell : TableCell) → table_found o ≡ mathlib.Core.Option.some cell → o ≡ mathlib.Core.Option.some (Rows cell)
table_there mathlib.Core.Option.none cell e = cc
table_there (mathlib.Core.Option.some (Rows t)) cell e = let same : t ≡ cell = cc in ap (λ (c : TableCell). mathlib.Core.Option.some (Rows c)) same
table_there (mathlib.Core.Option.some (Catalog t)) cell e = cc
table_there (mathlib.Core.Option.some (Ledger t)) cell e = cc
