-- Cells with what the journal in the ledger's cell leads to.
use Rattle.std.specs.Prelude.{ℕ, ◌≡◌, ◌++◌, not, Bool, false, List, length, map, Option, Some, None}
use Rattle.sql_types.specs.declared.image.Image.{Image}
use Rattle.spec_model.specs.Catalog.{Tables}
use Rattle.spec_model.specs.Journals.{serial, IsLegal}
use Rattle.spec_syntax.specs.Text.{statement_of}
use Rattle.spec_ledger.specs.Ledger.{ledger_of}
use Rattle.format_image.specs.Image.{user_defs}
use Rattle.format_image.specs.Rows.{table_rows}
use Rattle.spec_protocol.specs.Cells.{Cell, CatalogCell, LedgerCell}
use Rattle.law_server.specs.CellsImage.{tables_in_cells}

-- there is a transaction that isn't committed; `has` tells of those that are
abbrev pub is_uncommitted : (ℕ → Bool) → Option ℕ → Bool
is_uncommitted has None = false
is_uncommitted has (Some tx) = not (has tx)

-- the journal is legal; blocks, entries and committed tables are those to which it leads; and hashes have 32
-- bytes
pub record LeadsThere (h : List ℕ → List ℕ) (cells : List Cell) (catalog : CatalogCell)
    (ledger : LedgerCell) : Type 0 where
  pub legal : IsLegal statement_of ledger.items
  pub chain : ledger.chain ≡ ledger_of h statement_of ledger.items
  pub tables : tables_in_cells cells catalog ledger ≡ serial statement_of ledger.items
  pub sized : (bytes : List ℕ) → length (h bytes) ≡ 32

-- the image of this ledger's cell with these tables
abbrev pub image_with : LedgerCell → Tables → Image
image_with ledger tables = record {
  database = ledger.database;
  blocks = ledger.chain.blocks;
  entries = ledger.chain.closed ++ ledger.chain.pending;
  defs = user_defs tables;
  tables = map table_rows tables;
}
