-- The cells with which a database goes on from a journal, with the hashes that they keep.
use Rattle.std.specs.Prelude.{ℕ, zero, suc, List, [], ◌∷◌, Some}
use Rattle.sql_types.specs.declared.journal.JournalItem.{JournalItem}
use Rattle.sql_types.specs.declared.version.Table.{Table}
use Rattle.spec_model.specs.Catalog.{Tables}
use Rattle.spec_model.specs.Journals.{serial}
use Rattle.spec_history.specs.Lists.{Text}
use Rattle.spec_ledger.specs.Blocks.{no_hash, last_hash}
use Rattle.spec_ledger.specs.Ledger.{ledger_of}
use Rattle.spec_syntax.specs.Text.{statement_of}
use Rattle.spec_continued.specs.Continued.{catalog_of, cell_with, ledger_from, table_cell}
use Rattle.law_behind.specs.Past.{Past}
use Rattle.audit_replay.specs.declared.past.Past.{Past as ReplayedPast}
use Rattle.server_session.specs.KeptCell.{KeptCell, catalog_seen, rows_seen}
use Rattle.server_engine.specs.LedgerSeen.{ledger_seen}

-- the cell of this table
abbrev pub rows_kept : Table → KeptCell
rows_kept t = rows_seen (cell_with t.def.id t.versions (Some t.def))

-- so many cells of tables, from this id on
abbrev pub all_rows_kept : Tables → ℕ → ℕ → List KeptCell
all_rows_kept T zero id = []
all_rows_kept T (suc n) id = rows_seen (table_cell T id) ∷ all_rows_kept T n (suc id)

-- the catalog, the ledger, and one for each table that there may be
abbrev pub cells_kept : (List ℕ → List ℕ) → Text → ℕ → List JournalItem → ℕ → List KeptCell
cells_kept h database size items next =
    let chain = ledger_of h statement_of items in
    catalog_seen (catalog_of (serial statement_of items))
    ∷ ledger_seen (record {
      cell = ledger_from database size items next chain;
      hash = last_hash h no_hash chain.blocks;
    }) ∷ all_rows_kept (serial statement_of items) 32 3

-- the past, as histories have it
abbrev pub past_seen : ReplayedPast → Past
past_seen p = record { items = p.items.items; next = p.next }
