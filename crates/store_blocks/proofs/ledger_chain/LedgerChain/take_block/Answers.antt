use Rattle.std.proofs.Common.{arith, ◌≤◌, sym, subst, length, ap, ◌∙◌}
use Rattle.store_blocks.specs.Closings.{takes}
use Rattle.store_blocks.specs.LedgerChain.{HashedLedger, KeepsHash}
use Rattle.store_blocks.proofs.Closing.{still_ledger_chain, is_taking, keeps_hash}
use Rattle.store_blocks.proofs.ledger_chain.LedgerChain.take_block.Goals as goal

pub invariant_of-self-2 : goal.invariant_of-self-2
invariant_of-self-2 g c =
    still_ledger_chain c.self.inside.blocks c.push.new.self c.self.inside.entries.items c.self.inside.closed c.args.count c.self.invariant
    (subst (λ (b : HashedLedger). c.args.count ≤ length b.ledger.pending) (sym c.self.view_is) c.requires.count)

pub returns-clause-ledger : goal.returns-clause-ledger
returns-clause-ledger g c =
    is_taking c.self.inside.blocks c.push.new.self c.self.inside.entries.items c.self.inside.closed c.args.count c.self.invariant
    (subst (λ (b : HashedLedger). c.args.count ≤ length b.ledger.pending) (sym c.self.view_is) c.requires.count)
    (g.H.Hash32.digest c.args.h) _ c.self.inside.hash _ (omega arith)
    (rw c.deref.ensures.value at c.in_ok-entries_root.ensures)
    (subst (KeepsHash (g.H.Hash32.digest c.args.h)) (sym c.self.view_is) c.requires.hash)
    (rw c.len.ensures at c.in_ok-push.ensures.ok)
    ∙ ap (λ (b : HashedLedger). takes (g.H.Hash32.digest c.args.h) c.args.count b.ledger) c.self.view_is

pub returns-clause-hash : goal.returns-clause-hash
returns-clause-hash g c =
    keeps_hash c.self.inside.blocks c.push.new.self c.self.inside.entries.items c.self.inside.closed c.args.count c.self.invariant
    (subst (λ (b : HashedLedger). c.args.count ≤ length b.ledger.pending) (sym c.self.view_is) c.requires.count)
    (g.H.Hash32.digest c.args.h) _ c.self.inside.hash _ (omega arith)
    (rw c.deref.ensures.value at c.in_ok-entries_root.ensures)
    (subst (KeepsHash (g.H.Hash32.digest c.args.h)) (sym c.self.view_is) c.requires.hash)
    (rw c.len.ensures at c.in_ok-push.ensures.ok) c.block_hash-self-inside.result
    (rw c.len.ensures at c.block_hash-self-inside.ensures)
