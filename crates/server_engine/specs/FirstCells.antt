-- The cells of a database at its beginning, with the hashes that they keep.
use Rattle.std.specs.Prelude.{ℕ, zero, suc, List, [], ◌∷◌}
use Rattle.spec_history.specs.Lists.{Text}
use Rattle.spec_ledger.specs.Blocks.{no_hash}
use Rattle.spec_protocol.specs.Cells.{first_catalog, first_ledger}
use Rattle.server_session.specs.KeptCell.{KeptCell, catalog_seen, rows_seen}
use Rattle.server_visits.specs.LedgerSeen.{ledger_seen}

-- a table's cell
abbrev pub empty_kept : ℕ → KeptCell
empty_kept id = rows_seen (record {
  id = id;
  key = [];
  versions = [];
  order = [];
  indexes = [];
  holds = [];
})

-- so many cells of tables, from this id on
abbrev pub all_empty : ℕ → ℕ → List KeptCell
all_empty zero id = []
all_empty (suc n) id = empty_kept id ∷ all_empty n (suc id)

-- the catalog, the ledger, and one for each table that there may be
abbrev pub first_kept : Text → ℕ → List KeptCell
first_kept database size = catalog_seen first_catalog
    ∷ ledger_seen (record { cell = first_ledger database size; hash = no_hash }) ∷ all_empty 32 3
