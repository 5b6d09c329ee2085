use Rattle.std.proofs.Common.{◌≤◌, ◌≡◌, length, sym, subst, ◌-◌, ◌∙◌}
use Rattle.spec_model.specs.Journals.{tx_count}
use Rattle.spec_protocol.specs.Cells.{LedgerCell, pending_in}
use Rattle.store_ledger.specs.HashedCell.{HashedCell, KeepsHash}
use Rattle.store_ledger.specs.Issues.{IsOfNewest}
use Rattle.store_ledger.proofs.Newest.{newest}
use Rattle.store_ledger.proofs.cell.LedgerCell.newest_digest.Goals as goal

pub returns-clause-newest : goal.returns-clause-newest
returns-clause-newest c = λ h keeps.
    let back = sym c.self.view_is in
    let inside = c.self.inside in
    let cell : LedgerCell = record {
      database = inside.database;
      block_size = inside.block_size;
      items = inside.items.items;
      next = inside.next;
      chain = inside.ledger_chain.ledger;
      issued = inside.issued.items;
    } in
    subst (λ (v : HashedCell). IsOfNewest h v.cell (record {
      database = c.args.database;
      block = length c.blocks-2.result.now - 1;
      hash = c.hash.result;
      last_commit = c.index-entries-entries.result.time;
      made = c.args.made;
    })) c.self.view_is
    (newest h cell c.entries-entries.result.now c.index-entries-entries.result c.blocks-2.result.now
    c.hash.result c.args.database c.args.made c.self.invariant
    (subst (λ (v : HashedCell). pending_in v.cell ≡ 0) back c.requires.none_pending)
    (subst (λ (v : HashedCell). 1 ≤ tx_count v.cell.items) back c.requires.some) c.entries-entries.ensures
    c.index-entries-entries.is c.blocks-2.ensures (c.hash.ensures ∙ subst (KeepsHash h) back keeps)
    (subst (λ (v : HashedCell). c.args.database ≡ v.cell.database) back c.requires.database))
