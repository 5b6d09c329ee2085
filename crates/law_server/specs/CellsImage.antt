-- The image of what lies in cells.
use Rattle.std.specs.Prelude.{ℕ, Bool, ◌++◌, if◌then◌else◌, List, map, Option, Some, None}
use Rattle.sql_types.specs.declared.image.Image.{Image}
use Rattle.spec_model.specs.Catalog.{Defs, Tables}
use Rattle.format_image.specs.Image.{user_defs}
use Rattle.format_image.specs.Rows.{table_rows}
use Rattle.spec_protocol.specs.Cells.{Creator, CatalogCell, LedgerCell, Cell, versions_at}
use Rattle.spec_protocol.specs.CommittedTxs.{committed}
use Rattle.spec_protocol.specs.Contents.{has_id}

-- the definitions of committed transactions, of which `has` tells: where another one changed them, those
-- before it
abbrev pub defs_before : (ℕ → Bool) → Defs → Option Creator → Defs
defs_before has defs None = defs
defs_before has defs (Some creator) = if has creator.tx then defs else creator.before

-- these tables, with the starts and ends of committed transactions alone
abbrev pub committed_tables : (ℕ → Bool) → List Cell → Defs → Tables
committed_tables has cells defs =
    map (λ def. record { def = def; versions = committed has (versions_at cells def.id) }) defs

-- what was committed, by the journal in the ledger's cell
abbrev pub tables_in_cells : List Cell → CatalogCell → LedgerCell → Tables
tables_in_cells cells catalog ledger =
    let has = has_id ledger.items in
    committed_tables has cells (defs_before has catalog.defs catalog.creator)

-- The database, blocks and entries that lie in the ledger's cell, those in no block last, and the definitions
-- and rows of these tables. Rows of indexes are made anew from the versions, by sorting.
unfoldable pub cells_image : List Cell → CatalogCell → LedgerCell → Image
cells_image cells catalog ledger =
    let tables = tables_in_cells cells catalog ledger in
    record {
      database = ledger.database;
      blocks = ledger.chain.blocks;
      entries = ledger.chain.closed ++ ledger.chain.pending;
      defs = user_defs tables;
      tables = map table_rows tables;
    }
