-- The cells with which a database goes on: those to which its journal leads, without a lock.
use Rattle.std.specs.Prelude.{ℕ, zero, suc, List, [], ◌∷◌, map, Option, Some, None}
use Rattle.sql_types.specs.declared.journal.JournalItem.{JournalItem}
use Rattle.sql_types.specs.declared.table.IndexDef.{IndexDef}
use Rattle.sql_types.specs.declared.table.TableDef.{TableDef}
use Rattle.sql_types.specs.declared.version.Version.{Version}
use Rattle.spec_model.specs.Catalog.{Defs, Tables, defs_of, versions_of}
use Rattle.spec_model.specs.Journals.{serial}
use Rattle.spec_model.specs.Keys.{key_places, live_by_key}
use Rattle.spec_model.specs.Rows.{EventId}
use Rattle.spec_model.specs.SystemTables.{tables_id, columns_id}
use Rattle.spec_protocol.specs.Lists.{Text}
use Rattle.spec_protocol.specs.Ledger.{Ledger, ledger_of}
use Rattle.spec_protocol.specs.Cells.{CatalogCell, LedgerCell, TableCell, Index, Cell}
use Rattle.spec_protocol.specs.Cells as cells
use Rattle.spec_protocol.specs.Server.{Server}
use Rattle.spec_protocol.specs.TablesAreSerial.{def_at, index_order}

-- definitions and system rows, and nobody who changed them
abbrev pub catalog_with : Defs → List Version → List Version → CatalogCell
catalog_with defs tables columns = record {
  defs = defs;
  creator = None;
  tables = tables;
  columns = columns;
  holds = [];
}

abbrev pub catalog_of : Tables → CatalogCell
catalog_of T = catalog_with (defs_of T) (versions_of T tables_id) (versions_of T columns_id)

-- the journal with what is made of it, the next id, and no digest
abbrev pub ledger_from : Text → ℕ → List JournalItem → ℕ → Ledger → LedgerCell
ledger_from database size items next chain = record {
  database = database;
  block_size = size;
  items = items;
  next = next;
  chain = chain;
  issued = [];
}

-- the journal, of which ids up to `count` were drawn
abbrev pub ledger_with : Server → Text → ℕ → List JournalItem → ℕ → LedgerCell
ledger_with v database size J count = ledger_from database size J (suc count) (ledger_of v.hash v.reads J)

-- the key's places, the starts by key, and the indexes, where the table is defined
abbrev pub key_in : Option TableDef → List ℕ
key_in None = []
key_in (Some def) = key_places def.columns

abbrev pub order_in : List Version → Option TableDef → List EventId
order_in versions None = []
order_in versions (Some def) = map (λ w. w.start) (live_by_key def.columns None versions)

abbrev pub index_with : List ℕ → List Version → IndexDef → Index
index_with key versions index = record {
  ordinals = index.ordinals;
  order = index_order key index.ordinals versions;
}

abbrev pub indexes_in : List Version → Option TableDef → List Index
indexes_in versions None = []
indexes_in versions (Some def) = map (index_with (key_places def.columns) versions) def.indexes

-- the cell of the table with this id
abbrev pub cell_with : ℕ → List Version → Option TableDef → TableCell
cell_with id versions def = record {
  id = id;
  key = key_in def;
  versions = versions;
  order = order_in versions def;
  indexes = indexes_in versions def;
  holds = [];
}

abbrev pub table_cell : Tables → ℕ → TableCell
table_cell T id = cell_with id (versions_of T id) (def_at (defs_of T) id)

-- so many cells of tables, from this id on
abbrev pub table_cells : Tables → ℕ → ℕ → List Cell
table_cells T zero id = []
table_cells T (suc n) id = cells.Rows (table_cell T id) ∷ table_cells T n (suc id)

-- the catalog, the ledger, and one for each table that there may be
abbrev pub continued_cells : Server → Text → ℕ → List JournalItem → ℕ → List Cell
continued_cells v database size J count =
    cells.Catalog (catalog_of (serial v.reads J)) ∷ cells.Ledger (ledger_with v database size J count)
    ∷ table_cells (serial v.reads J) 32 3
