-- The cells of a server: the catalog, the ledger, and one for each table of a user.
use Rattle.std.specs.Prelude.{ℕ, ◌≡◌, zero, suc, ◌-◌, ◌==◌, if◌then◌else◌, List, [], ◌∷◌, length}
use Rattle.std.specs.Prelude as prelude
use mathlib.Core.Option.{Option, some, none}
use lib.ListN.{get_elem?}
use Rattle.sql_types.specs.declared.journal.JournalItem.{JournalItem}
use Rattle.sql_types.specs.declared.version.Version.{Version}
use Rattle.spec_model.specs.Rows.{EventId}
use Rattle.spec_model.specs.Catalog.{Defs}
use Rattle.spec_model.specs.SystemTables.{tables_id, columns_id, tables_def, columns_def}
use Rattle.spec_history.specs.Lists.{Text}
use Rattle.spec_history.specs.Digests.{Digest}
use Rattle.sql_types.specs.declared.lock.Hold.{Hold}
use Rattle.law_blocks.specs.Ledger as of_journal

-- who changed the definitions and hasn't released the catalog, and what they were before
pub record Creator : Type 0 where
  pub tx : ℕ
  pub before : Defs

-- the definitions, who changed them, the versions of the two system tables, and the locks
pub record CatalogCell : Type 0 where
  pub defs : Defs
  pub creator : prelude.Option Creator
  pub tables : List Version
  pub columns : List Version
  pub holds : List Hold

-- the journal with what was made of it
pub record LedgerCell : Type 0 where
  pub database : Text
  pub block_size : ℕ
  pub items : List JournalItem
  -- the id that is drawn next
  pub next : ℕ
  -- the blocks, the entries in them, and those in no block yet
  pub chain : of_journal.Ledger
  -- the digests in the order of issue
  pub issued : List Digest

-- so many entries are in no block yet, and so many blocks there are
abbrev pub pending_in : LedgerCell → ℕ
pending_in c = length c.chain.pending

abbrev pub blocks_in : LedgerCell → ℕ
blocks_in c = length c.chain.blocks

-- an index: the ordinals of its columns, and the starts of the versions that stand, in its order
pub record Index : Type 0 where
  pub ordinals : List ℕ
  pub order : List EventId

-- a table's versions, its locks and its indexes
pub record TableCell : Type 0 where
  pub id : ℕ
  -- the places of the key's columns, by key position, where it has versions
  pub key : List ℕ
  pub versions : List Version
  -- the starts of the versions that stand, in key order
  pub order : List EventId
  -- in the order of their definitions
  pub indexes : List Index
  pub holds : List Hold

pub data Cell : Type 0 where
  Catalog : CatalogCell → Cell
  Ledger : LedgerCell → Cell
  Rows : TableCell → Cell

-- ---- numbers of cells

abbrev pub catalog_at : ℕ
catalog_at = 0

abbrev pub ledger_at : ℕ
ledger_at = 1

-- the catalog, the ledger, and one for each of the 32 tables that there may be
abbrev pub cell_count : ℕ
cell_count = 34

-- the system tables lie in the catalog, user table t in cell t - 1
abbrev pub cell_of : ℕ → ℕ
cell_of id = if id == tables_id then catalog_at else (if id == columns_id then catalog_at else id - 1)

-- ---- what lies in cells

abbrev pub holds_in : Cell → List Hold
holds_in (Catalog c) = c.holds
holds_in (Ledger c) = []
holds_in (Rows c) = c.holds

abbrev pub holds_found : Option Cell → List Hold
holds_found none = []
holds_found (some c) = holds_in c

-- the locks in the cell with this number
abbrev pub holds_at : List Cell → ℕ → List Hold
holds_at cells i = holds_found (get_elem? cells i)

-- the versions of the table with this id, in a cell
abbrev pub versions_in : ℕ → Cell → List Version
versions_in id (Catalog c) = if id == tables_id then c.tables else c.columns
versions_in id (Ledger c) = []
versions_in id (Rows c) = c.versions

abbrev pub versions_found : ℕ → Option Cell → List Version
versions_found id none = []
versions_found id (some c) = versions_in id c

-- the versions of the table with this id
abbrev pub versions_at : List Cell → ℕ → List Version
versions_at cells id = versions_found id (get_elem? cells (cell_of id))

-- ---- the cells at the beginning

abbrev pub first_catalog : CatalogCell
first_catalog = record {
  defs = tables_def ∷ columns_def ∷ [];
  creator = prelude.None;
  tables = [];
  columns = [];
  holds = [];
}

abbrev pub first_ledger : Text → ℕ → LedgerCell
first_ledger database size = record {
  database = database;
  block_size = size;
  items = [];
  next = 1;
  chain = of_journal.empty_ledger;
  issued = [];
}

-- so many cells of tables, from this id on
abbrev pub empty_cells : ℕ → ℕ → List Cell
empty_cells zero id = []
empty_cells (suc n) id = Rows (record {
  id = id;
  key = [];
  versions = [];
  order = [];
  indexes = [];
  holds = [];
}) ∷ empty_cells n (suc id)

-- the catalog, the ledger, and one for each of the 32 tables that there may be
abbrev pub first_cells : Text → ℕ → List Cell
first_cells database size = Catalog first_catalog ∷ Ledger (first_ledger database size) ∷ empty_cells 32 3

-- these cells are the catalog, the ledger, and one for each table that there may be
pub record AreCells (cells : List Cell) (catalog : CatalogCell) (ledger : LedgerCell) : Type 0 where
  pub count : length cells ≡ cell_count
  pub has_catalog : get_elem? cells catalog_at ≡ some (Catalog catalog)
  pub has_ledger : get_elem? cells ledger_at ≡ some (Ledger ledger)
  pub has_tables : (i : ℕ) (c : Cell) → get_elem? cells (suc (suc i)) ≡ some c → (t : TableCell)
      × (c ≡ Rows t) × (t.id ≡ suc (suc (suc i)))
