-- What is saved of a run, and with the digest that is issued behind it.
use Rattle.std.proofs.Common.{◌≡◌, ◌≤◌, ◌^◌, ◌++◌, ◌∙◌, ℕ, List, append-nil, refl, sym, ap, subst, ⊎_elim}
use Rattle.sql_types.specs.declared.journal.TheConstants.{JOURNAL_VERSION}
use Rattle.sql_types.specs.declared.digest.Digest.{Digest}
use Rattle.spec_protocol.specs.Cells.{LedgerCell, ledger_at, pending_in}
use Rattle.spec_protocol.specs.LedgerVisits.{with_digest}
use Rattle.store_ledger.specs.HashedCell.{HashedCell}
use Rattle.store_ledger.proofs.Closings.{none_closed}
use Rattle.server_session.specs.KeptCell.{KeptCell}
use Rattle.server_engine.specs.LedgerSeen.{ledger_seen}
use Rattle.server_engine.specs.Standing.{pending_found}
use Rattle.server_engine.proofs.Pairs.{seen_at}
use Rattle.server_ending.specs.Closing.{IssuesLast, pending_there}
use Rattle.server_ending.specs.Saved.{HasIssued, HasSaved, IsLeaving, run_outcome_of}
use Rattle.server_ending.specs.declared.leaving.OutcomeParts.{OutcomeParts}
use Rattle.server_ending.specs.declared.finished.FinishedRun.{FinishedRun}

-- with some digests behind its own
abbrev and_issued : LedgerCell → List Digest → LedgerCell
and_issued c more = record { database = c.database; block_size = c.block_size; items = c.items; next = c.next; chain = c.chain; issued = c.issued ++ more }

-- where nothing is pending, nothing else changes
module _ (h : List ℕ → List ℕ) (made : ℕ) (c : LedgerCell) (none : pending_in c ≡ 0) where
  after_is : (more : List Digest) (d : LedgerCell) → IssuesLast h made c more d → d ≡ and_issued c more
  after_is more d issued = ⊎_elim
      (λ n. n.2
      ∙ ap (λ (gs : List Digest). record { database = c.database; block_size = c.block_size; items = c.items; next = c.next; chain = c.chain; issued = gs }) (sym (append-nil c.issued))
      ∙ ap (and_issued c) (sym n.1))
      (λ p. p.1.cell ∙ ap (with_digest p.1.digest) (none_closed h (pending_in c) c none) ∙ ap (and_issued c) (sym p.2))
      issued

module _ (f : FinishedRun) (l : OutcomeParts) (is : IsLeaving f l) where
  pub saved_of : l.ledger.cell.next ≤ 2 ^ 63 → HasSaved f (run_outcome_of l)
  saved_of next = record {
    transcript = is.transcript;
    images = is.images;
    bytes = is.bytes;
    room = is.room;
    ledger = l.ledger.cell;
    there = seen_at (λ (k : KeptCell). k.cell) f.cells.items ledger_at (ledger_seen l.ledger) is.there;
    ids = next;
    version = refl;
    database = refl;
    items = refl;
    digests = refl;
  }

  module _ (h : List ℕ → List ℕ) (made : ℕ) (none : pending_there f.cells.items ≡ 0) (more : List Digest) (after : HashedCell) (issued : IssuesLast h made l.ledger.cell more after.cell) where
    none_there : pending_in l.ledger.cell ≡ 0
    none_there = sym (ap pending_found (seen_at (λ (k : KeptCell). k.cell) f.cells.items ledger_at (ledger_seen l.ledger) is.there)) ∙ none

    next_there : after.cell.next ≤ 2 ^ 63 → l.ledger.cell.next ≤ 2 ^ 63
    next_there next = subst (λ (n : ℕ). n ≤ 2 ^ 63) (ap (λ (c : LedgerCell). c.next) (after_is h made l.ledger.cell none_there more after.cell issued)) next

    pub issued_of : after.cell.next ≤ 2 ^ 63 → HasIssued h made f (run_outcome_of (record { transcript = l.transcript; images = l.images; image = l.image; ledger = after }))
    unfolding saved_of
    issued_of next = record {
      before = run_outcome_of l;
      saved = saved_of (next_there next);
      more = more;
      after = after.cell;
      issued = issued;
      is = ap (λ (c : LedgerCell). record { transcript = l.transcript; images = l.images; image = l.image; journal = record { version = JOURNAL_VERSION; database = c.database; items = c.items }; digests = c.issued })
          (after_is h made l.ledger.cell none_there more after.cell issued);
    }
