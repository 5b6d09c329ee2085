use Rattle.std.proofs.Common.{ap, ◌∙◌}
use Rattle.spec_ledger.specs.Ledger.{Ledger}
use Rattle.store_blocks.specs.Closings.{all_placed}
use Rattle.store_blocks.proofs.Closing.{places_all, taken_placed}
use Rattle.store_blocks.proofs.ledger_chain.LedgerChain.close.Goals as goal

pub returns-clause-ledger : goal.returns-clause-ledger
returns-clause-ledger g c =
    c.place_first.ensures.ledger
    ∙ places_all c.pending.result c.take_block.new.self.ledger c.pending.ensures
    ∙ ap (λ (l : Ledger). all_placed l) c.in_ok-take_block.ensures.ledger
    ∙ taken_placed (g.H.Hash32.digest c.args.h) c.args.count c.args.self.now.ledger
