use Rattle.std.proofs.Common.{◌≡◌, ◌≤◌, ◌+◌, length}
use Rattle.store_blocks.specs.Closings.{AreFull, all_placed, closed_by}
use Rattle.store_blocks.specs.LedgerChain.{KeepsHash}
use Rattle.store_blocks.proofs.ledger_chain.LedgerChain.close_full.Given as goal

abbrev pub invariant-closings : goal.invariant-closings
invariant-closings g l = record {
  ledger : all_placed l.chain.ledger ≡ closed_by (g.H.Hash32.digest l.fn.h) l.count l.size l.fn.self.ledger;
  full : AreFull (g.H.Hash32.digest l.fn.h) l.count l.size l.fn.self.ledger;
  few : l.count + length l.chain.ledger.pending ≤ length l.fn.self.ledger.pending;
  hash : KeepsHash (g.H.Hash32.digest l.fn.h) l.chain;
}

abbrev pub decreases-closings : goal.decreases-closings
decreases-closings g l = length l.chain.ledger.pending
