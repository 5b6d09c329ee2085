use Rattle.std.proofs.Common.{◌≤◌, rules, sym, subst, length, ap, ◌∙◌}
use Rattle.store_blocks.specs.Closings.{placed_first, with_pending}
use Rattle.store_blocks.specs.LedgerChain.{HashedLedger}
use Rattle.store_blocks.proofs.Closing.{is_placed, still_kept}
use Rattle.store_blocks.proofs.ledger_chain.LedgerChain.place_first.Goals as goal

pub invariant_of-self : goal.invariant_of-self
invariant_of-self c =
    still_kept c.self.inside.blocks c.self.inside.entries.items c.place_between.new.entries.items c.self.inside.closed c.args.count c.len-block.result c.self.invariant
    (subst (λ (b : HashedLedger). c.args.count ≤ length b.ledger.pending) (sym c.self.view_is) c.requires)
    c.place_between.ensures (search rules)

pub returns-clause-ledger : goal.returns-clause-ledger
returns-clause-ledger c =
    is_placed c.self.inside.blocks c.self.inside.entries.items c.place_between.new.entries.items c.self.inside.closed c.args.count c.len-block.result c.self.invariant
    (subst (λ (b : HashedLedger). c.args.count ≤ length b.ledger.pending) (sym c.self.view_is) c.requires)
    c.place_between.ensures c.len-block.ensures
    ∙ ap (λ (b : HashedLedger). with_pending (placed_first (length b.ledger.blocks) c.args.count b.ledger.pending) b.ledger) c.self.view_is
