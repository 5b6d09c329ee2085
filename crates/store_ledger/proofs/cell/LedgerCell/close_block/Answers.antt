use Rattle.std.proofs.Common.{rules}
use Rattle.store_ledger.proofs.Counted.{closed}
use Rattle.store_ledger.proofs.cell.LedgerCell.close_block.Goals as goal

pub invariant_of-self-2 : goal.invariant_of-self-2
invariant_of-self-2 g c =
    closed c.self.inside.block_size c.self.inside.items.items c.push_reserved.new.self.items
    c.self.inside.next c.self.inside.ledger_chain.ledger c.close.new.self.ledger c.self.invariant (g.H.Hash32.digest c.args.h)
    c.args.count
    (search rules) c.in_ok-close.ensures.ledger
