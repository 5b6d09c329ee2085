use Rattle.std.proofs.Common.{rules, ◌≤◌, List, ap, refl, sym, subst}
use Rattle.store_blocks.specs.LedgerChain.{HashedLedger}
use Rattle.sql_types.specs.declared.digest.Digest.{Digest}
use Rattle.spec_model.specs.Journals.{tx_count}
use Rattle.spec_protocol.specs.Cells.{LedgerCell, pending_in}
use Rattle.store_ledger.specs.HashedCell.{HashedCell}
use Rattle.store_ledger.specs.Issues.{IsIssued, IsOfNewest}
use Rattle.store_ledger.proofs.Issuing.{count_is_kept, issued_then, now_with, rest_is_counted, with_issued}
use Rattle.store_ledger.proofs.cell.LedgerCell.issue.Goals as goal

pub invariant_of-self-2 : goal.invariant_of-self-2
invariant_of-self-2 g c =
    let inside = c.self.inside in
    let before : LedgerCell = record {
      database = inside.database;
      block_size = inside.block_size;
      items = inside.items.items;
      next = inside.next;
      chain = inside.ledger_chain.ledger;
      issued = inside.issued.items;
    } in
    rest_is_counted (g.H.Hash32.digest c.args.h) before c.close_rest.new.items.items
    c.close_rest.new.ledger_chain.ledger c.self.invariant
    (subst (λ (v : HashedCell). pending_in v.cell ≤ v.cell.block_size) (sym c.self.view_is) c.requires.fits)
    (λ none. (c.in_ok-close_rest.ensures.none none).0)
    (λ none. ap (λ (b : HashedLedger). b.ledger) (c.in_ok-close_rest.ensures.none none).1)
    c.in_ok-close_rest.ensures.item c.in_ok-close_rest.ensures.ledger

pub newest_digest-digest-requires-clause-some : goal.newest_digest-digest-requires-clause-some
newest_digest-digest-requires-clause-some g c =
    let inside = c.self.inside in
    let before : LedgerCell = record {
      database = inside.database;
      block_size = inside.block_size;
      items = inside.items.items;
      next = inside.next;
      chain = inside.ledger_chain.ledger;
      issued = inside.issued.items;
    } in
    let back = sym c.self.view_is in
    subst (λ n. 1 ≤ n)
    (sym (count_is_kept (g.H.Hash32.digest c.args.h) before c.close_rest.new.items.items
    c.close_rest.new.ledger_chain.ledger c.self.invariant
    (subst (λ (v : HashedCell). pending_in v.cell ≤ v.cell.block_size) back c.requires.fits)
    (λ none. (c.in_ok-close_rest.ensures.none none).0)
    (λ none. ap (λ (b : HashedLedger). b.ledger) (c.in_ok-close_rest.ensures.none none).1)
    c.in_ok-close_rest.ensures.item c.in_ok-close_rest.ensures.ledger))
    (subst (λ (v : HashedCell). 1 ≤ tx_count v.cell.items) back c.requires.some)

pub invariant_of-self-3 : goal.invariant_of-self-3
invariant_of-self-3 g c =
    let inside = c.self.inside in
    let before : LedgerCell = record {
      database = inside.database;
      block_size = inside.block_size;
      items = inside.items.items;
      next = inside.next;
      chain = inside.ledger_chain.ledger;
      issued = inside.issued.items;
    } in
    rest_is_counted (g.H.Hash32.digest c.args.h) before c.close_rest.new.items.items
    c.close_rest.new.ledger_chain.ledger c.self.invariant
    (subst (λ (v : HashedCell). pending_in v.cell ≤ v.cell.block_size) (sym c.self.view_is) c.requires.fits)
    (λ none. (c.in_ok-close_rest.ensures.none none).0)
    (λ none. ap (λ (b : HashedLedger). b.ledger) (c.in_ok-close_rest.ensures.none none).1)
    c.in_ok-close_rest.ensures.item c.in_ok-close_rest.ensures.ledger

pub returns-clause-ok : goal.returns-clause-ok
returns-clause-ok g c =
    let inside = c.self.inside in
    let h = g.H.Hash32.digest c.args.h in
    let before : LedgerCell = record {
      database = inside.database;
      block_size = inside.block_size;
      items = inside.items.items;
      next = inside.next;
      chain = inside.ledger_chain.ledger;
      issued = inside.issued.items;
    } in
    subst (λ (v : HashedCell). IsIssued h c.args.made v.cell (record {
      block = c.newest_digest-digest.result.block;
      hash = c.newest_digest-digest.result.hash;
    }) (record {
      database = inside.database;
      block_size = inside.block_size;
      items = c.close_rest.new.items.items;
      next = inside.next;
      chain = c.close_rest.new.ledger_chain.ledger;
      issued = c.push_reserved.new.self.items;
    })) c.self.view_is
    (issued_then h before c.close_rest.new.items.items c.close_rest.new.ledger_chain.ledger c.self.invariant
    (subst (λ (v : HashedCell). pending_in v.cell ≤ v.cell.block_size) (sym c.self.view_is) c.requires.fits)
    (λ none. (c.in_ok-close_rest.ensures.none none).0)
    (λ none. ap (λ (b : HashedLedger). b.ledger) (c.in_ok-close_rest.ensures.none none).1)
    c.in_ok-close_rest.ensures.item c.in_ok-close_rest.ensures.ledger c.args.made
    c.newest_digest-digest.result
    (record { block = c.newest_digest-digest.result.block; hash = c.newest_digest-digest.result.hash })
    c.push_reserved.new.self.items
    (subst (λ (digests : List Digest). IsOfNewest h (with_issued digests (now_with c.close_rest.new.items.items
    c.close_rest.new.ledger_chain.ledger before)) c.newest_digest-digest.result) c.in_ok-reserve.ensures.items
    (c.newest_digest-digest.ensures.newest h c.in_ok-close_rest.ensures.hash))
    c.newest_digest-digest.ensures.made refl refl (search rules))
