-- The image of all cells.
use Rattle.std.specs.Prelude.{ℕ, ◌≡◌, List, length, map}
use Rattle.server_session.specs.Lists.{Text}
use Rattle.format_image.specs.ImageBytes.{image_bytes}
use Rattle.store_image.specs.Room.{FitsImageFormat}
use Rattle.spec_syntax.specs.Text.{statement_of}
use Rattle.store_image.specs.CellsImage.{cells_image}
use Rattle.server_session.specs.Serves.{Serves}
use Rattle.server_session.specs.Cells.{CatalogCell, LedgerCell, AreCells}
use Rattle.server_session.specs.Seats.{SeatState}
use Rattle.server_session.specs.Server.{Server}
use Rattle.server_session.specs.StandTogether.{StandTogether}
use Rattle.server_session.specs.KeptCell.{KeptCell}

-- the cells stand together with some seats, in a server whose hashes have 32 bytes
pub record CellsStand (all : List KeptCell) : Type 0 where
  pub hash : List ℕ → List ℕ
  pub sized : (bytes : List ℕ) → length (hash bytes) ≡ 32
  pub v : Server
  pub serves : Serves hash statement_of v
  pub seats : List SeatState
  pub together : StandTogether v (map (λ c. c.cell) all) seats

-- the bytes are those of the image of the cells
abbrev pub AreImageBytes : List KeptCell → Text → Type 0
AreImageBytes all bytes = (catalog : CatalogCell) (ledger : LedgerCell)
    → AreCells (map (λ c. c.cell) all) catalog ledger
    → bytes ≡ image_bytes (cells_image (map (λ c. c.cell) all) catalog ledger)

-- and the journal in the ledger's cell has room in the format
abbrev pub JournalFitsFormat : (List ℕ → List ℕ) → List KeptCell → Type 0
JournalFitsFormat h all = (catalog : CatalogCell) (ledger : LedgerCell)
    → AreCells (map (λ c. c.cell) all) catalog ledger → FitsImageFormat h statement_of ledger.database ledger.items

-- all cells, and the catalog's among them
pub record AllShown : Type 0 where
  pub catalog : CatalogCell
  pub all : List KeptCell
