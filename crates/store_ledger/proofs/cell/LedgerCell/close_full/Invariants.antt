use Rattle.std.proofs.Common.{◌≡◌, ◌≤◌, ℕ}
use Rattle.spec_model.specs.Journals.{tx_count}
use Rattle.spec_protocol.specs.Cells.{pending_in}
use Rattle.spec_protocol.specs.LedgerVisits.{all_closed}
use Rattle.store_ledger.specs.HashedCell.{KeepsHash}
use Rattle.store_ledger.proofs.cell.LedgerCell.close_full.Given as goal

abbrev pub invariant-loop-alloc : goal.invariant-loop-alloc
invariant-loop-alloc g l =
    let digest = g.H.Hash32.digest l.fn.h in
    KeepsHash digest l.self
    × (all_closed digest (pending_in l.self.cell) l.self.cell
    ≡ all_closed digest (pending_in l.fn.self.cell) l.fn.self.cell)
    × (tx_count l.self.cell.items ≡ tx_count l.fn.self.cell.items)
    × ((n : ℕ) × (l.self.cell ≡ all_closed digest n l.fn.self.cell))
    × (1 ≤ pending_in l.fn.self.cell → 1 ≤ pending_in l.self.cell)
    × (pending_in l.fn.self.cell ≤ l.fn.self.cell.block_size → l.self ≡ l.fn.self)

abbrev pub decreases-loop-alloc : goal.decreases-loop-alloc
decreases-loop-alloc g l = pending_in l.self.cell
