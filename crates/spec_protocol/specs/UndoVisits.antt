-- Visits that undo: to a number, and with the release of a cell after the end is fixed.
use Rattle.std.specs.Prelude.{ℕ, ◌≡◌, ◌≢◌, ◌⊎◌, ◌==◌, not, if◌then◌else◌, List, [], ◌∷◌, length, nat_lt, Option, Some, None}
use Rattle.sql_types.specs.declared.table.TableDef.{TableDef}
use Rattle.spec_model.specs.Catalog.{Defs}
use Rattle.spec_model.specs.Undo.{versions_undone}
use Rattle.spec_history.specs.Lists.{Each, In}
use Rattle.spec_history.specs.Transactions.{End, unfixed, committed}
use Rattle.spec_model.specs.Holds.{released}
use Rattle.spec_protocol.specs.Server.{Server}
use Rattle.spec_protocol.specs.Cells.{Creator, CatalogCell, Index, TableCell, catalog_at, cell_of}
use Rattle.spec_protocol.specs.Seats.{OpenTransaction, going_back, answering, SessionStatus, inside, Session, session, SeatState}
use Rattle.spec_protocol.specs.TableVisits.{with_versions}
use Rattle.spec_protocol.specs.Moves.{releasing, at_place, sits, InOpenTransaction, then_at}

-- key order and indexes follow the versions, by the key that the cell has
abbrev pub undone_to : ℕ → ℕ → TableCell → TableCell
undone_to tx seq c = with_versions c.key (versions_undone tx seq c.versions) c

-- on the way back to a savepoint: the transaction's starts and ends with its number or above are dropped in
-- the next cell
pub record UndoesTo (v : Server) (c : TableCell) (s : SeatState) (d : TableCell)
    (t : SeatState) : Type 0 where
  pub o : OpenTransaction
  pub at : InOpenTransaction v s o
  pub seq : ℕ
  pub rest : List ℕ
  pub goes : at.stands.stage ≡ going_back seq (cell_of c.id ∷ rest)
  pub cell : d ≡ undone_to o.id seq c
  pub seat : t ≡ then_at s at.stands (Some o) (going_back seq rest)

-- ---- releasing

-- the seat has an unreleased transaction whose end is fixed, and a lock to release in this cell
pub record Unreleased (s : SeatState) (i : ℕ) (x : Session) (o : OpenTransaction) : Type 0 where
  pub role : s.role ≡ session x
  pub open_one : x.open_one ≡ Some o
  pub fixed : o.end ≢ unfixed
  pub visited : In i o.visited
  pub not_yet : In i o.released → ⊥

-- a committed transaction's versions stay, those of any other are undone
abbrev pub undone_unless : End → ℕ → TableCell → TableCell
undone_unless (committed n) tx c = c
undone_unless _ tx c = undone_to tx 0 c

-- a refused CREATE INDEX drops its index
abbrev pub without_last : List Index → List Index
without_last [] = []
without_last (x ∷ []) = []
without_last (x ∷ y ∷ ys) = x ∷ without_last (y ∷ ys)

-- the definition of a refused CREATE INDEX
abbrev pub refused_def : SessionStatus → Option TableDef
refused_def (inside text (answering reply (Some def))) = Some def
refused_def _ = None

abbrev pub index_dropped : Option TableDef → TableCell → TableCell
index_dropped None c = c
index_dropped (Some def) c =
    if not (def.id == c.id) then c
    else (if nat_lt (length c.indexes) (length def.indexes) then c
    else record {
      id = c.id;
      key = c.key;
      versions = c.versions;
      order = c.order;
      indexes = without_last c.indexes;
      holds = c.holds;
    })

abbrev pub unlocked : ℕ → TableCell → TableCell
unlocked tx c = record {
  id = c.id;
  key = c.key;
  versions = c.versions;
  order = c.order;
  indexes = c.indexes;
  holds = released c.holds tx;
}

pub record ReleasesTable (c : TableCell) (s : SeatState) (d : TableCell) (t : SeatState) : Type 0 where
  pub x : Session
  pub o : OpenTransaction
  pub at : Unreleased s (cell_of c.id) x o
  pub cell : d ≡ unlocked o.id (index_dropped (refused_def x.place) (undone_unless o.end o.id c))
  pub seat : t ≡ sits s (at_place (Some (releasing (cell_of c.id) o)) x.place x)

-- ---- the catalog

-- who changed the definitions takes the change along
abbrev pub defs_before : ℕ → Option Creator → Defs → Defs
defs_before tx None defs = defs
defs_before tx (Some k) defs = if k.tx == tx then k.before else defs

abbrev pub creator_left : ℕ → Option Creator → Option Creator
creator_left tx None = None
creator_left tx (Some k) = if k.tx == tx then None else Some k

-- a committed transaction's definitions and versions stay, those of any other are undone
abbrev pub catalog_left : End → ℕ → CatalogCell → CatalogCell
catalog_left (committed n) tx c =
    record {
      defs = c.defs;
      creator = creator_left tx c.creator;
      tables = c.tables;
      columns = c.columns;
      holds = released c.holds tx;
    }
catalog_left _ tx c =
    record {
      defs = defs_before tx c.creator c.defs;
      creator = creator_left tx c.creator;
      tables = versions_undone tx 0 c.tables;
      columns = versions_undone tx 0 c.columns;
      holds = released c.holds tx;
    }

-- the catalog's cell comes only after all others
pub record ReleasesCatalog (c : CatalogCell) (s : SeatState) (d : CatalogCell) (t : SeatState) : Type 0 where
  pub x : Session
  pub o : OpenTransaction
  pub at : Unreleased s catalog_at x o
  pub others : Each (λ i. (i ≡ catalog_at) ⊎ In i o.released) o.visited
  pub cell : d ≡ catalog_left o.end o.id c
  pub seat : t ≡ sits s (at_place (Some (releasing catalog_at o)) x.place x)
