-- The visits that a seat may make, with every choice written in.
use Rattle.std.specs.Prelude.{ℕ, ◌≡◌, Bool, List}
use Rattle.spec_protocol.specs.Server.{Server}
use Rattle.spec_protocol.specs.Cells.{Cell, Catalog, Ledger, Rows}
use Rattle.spec_protocol.specs.Seats.{SeatState}
use Rattle.spec_protocol.specs.LedgerVisits.{AssignsId, CommitsNow, ReadsPoint, Closes, Issues, LacksBlock}
use Rattle.spec_protocol.specs.CatalogVisits.{Looks, ReadsSystem, CreatesTable, CreatesIndex, AltersTable, RefusesCreate, StopsInCatalog, ReleasesCatalogLock}
use Rattle.spec_protocol.specs.TableVisits.{ChangesRows, RefusesRows, ReadsRows, StopsInTable, AddsIndex}
use Rattle.spec_protocol.specs.UndoVisits.{UndoesTo, ReleasesTable, ReleasesCatalog}
use Rattle.spec_protocol.specs.ImageVisits.{KeepsImage}

pub data Visit : Type 0 where
  -- draw an id, for BEGIN or for a transaction of its own
  assign_id : (explicit : Bool) → Visit
  -- look up, create or alter in the catalog
  look : Visit
  read_system : Visit
  create_table : Visit
  create_index : Visit
  alter_table : Visit
  refuse_create : Visit
  stop_in_catalog : Visit
  -- change, read or index a table
  change : Visit
  refuse_change : Visit
  read : Visit
  stop_in_table : Visit
  add_index : Visit
  -- undo to a number
  undo_to : Visit
  -- fix an end, which is a commit at this moment or the reading of the point
  commit : (time : ℕ) → Visit
  read_point : Visit
  -- undo and release a cell: a table's, or the catalog's
  release : Visit
  release_catalog : Visit
  -- give back the catalog's lock of a refused statement
  give_back : Visit
  -- close a block
  close : (k : ℕ) → Visit
  -- issue a digest at this moment
  issue : (moment : ℕ) → Visit
  lack_block : Visit
  -- keep an image, with all cells out
  keep : Visit
  nothing : Visit

-- What a visit makes of the cell that is given back and of the seat. `out` are all cells that the seat has
-- out.
abbrev pub Happens : Server → List (ℕ × Cell) → Visit → Cell → SeatState → Cell → SeatState → Type 0
Happens v out (assign_id explicit) (Ledger c) s (Ledger d) t = AssignsId v explicit c s d t
Happens v out look (Catalog c) s (Catalog d) t = Looks v c s d t
Happens v out read_system (Catalog c) s (Catalog d) t = ReadsSystem v c s d t
Happens v out create_table (Catalog c) s (Catalog d) t = CreatesTable v c s d t
Happens v out create_index (Catalog c) s (Catalog d) t = CreatesIndex v c s d t
Happens v out alter_table (Catalog c) s (Catalog d) t = AltersTable v c s d t
Happens v out refuse_create (Catalog c) s (Catalog d) t = RefusesCreate v c s d t
Happens v out stop_in_catalog (Catalog c) s (Catalog d) t = StopsInCatalog v c s t × (d ≡ c)
Happens v out change (Rows c) s (Rows d) t = ChangesRows v c s d t
Happens v out refuse_change (Rows c) s (Rows d) t = RefusesRows v c s d t
Happens v out read (Rows c) s (Rows d) t = ReadsRows v c s d t
Happens v out stop_in_table (Rows c) s (Rows d) t = StopsInTable v c s t × (d ≡ c)
Happens v out add_index (Rows c) s (Rows d) t = AddsIndex v c s d t
Happens v out undo_to (Rows c) s (Rows d) t = UndoesTo v c s d t
Happens v out (commit time) (Ledger c) s (Ledger d) t = CommitsNow v time c s d t
Happens v out read_point (Ledger c) s (Ledger d) t = ReadsPoint v c s t × (d ≡ c)
Happens v out release (Rows c) s (Rows d) t = ReleasesTable c s d t
Happens v out release_catalog (Catalog c) s (Catalog d) t = ReleasesCatalog c s d t
Happens v out give_back (Catalog c) s (Catalog d) t = ReleasesCatalogLock v c s d t
Happens v out (close k) (Ledger c) s (Ledger d) t = Closes v k c d × (t ≡ s)
Happens v out (issue moment) (Ledger c) s (Ledger d) t = Issues v moment c s d t
Happens v out lack_block (Ledger c) s (Ledger d) t = LacksBlock v c s t × (d ≡ c)
Happens v out keep c s d t = KeepsImage v out s t × (d ≡ c)
Happens v out nothing c s d t = (d ≡ c) × (t ≡ s)
Happens v out _ c s d t = ⊥
