use Rattle.std.proofs.Common.{◌≡◌, ◌-◌, ◌∷◌}
use Rattle.spec_ledger.specs.Blocks.{no_hash}
use Rattle.spec_protocol.specs.Cells.{first_catalog, first_ledger}
use Rattle.server_session.specs.KeptCell.{catalog_seen}
use Rattle.server_visits.specs.LedgerSeen.{ledger_seen}
use Rattle.server_engine.specs.FirstCells.{all_empty}
use Rattle.server_engine.proofs.cells.first_cells.Given as goal

abbrev pub invariant-loop-id : goal.invariant-loop-id
invariant-loop-id l = l.cells.items ≡ catalog_seen first_catalog
    ∷ ledger_seen (record { cell = first_ledger l.fn.database l.fn.block_size; hash = no_hash }) ∷ all_empty (l.id - 3) 3
