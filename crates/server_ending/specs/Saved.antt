-- What the code saves of cells and sessions when all threads have ended.
use Rattle.std.specs.Prelude.{ℕ, ◌≡◌, ◌≤◌, ◌^◌, ◌++◌, List, ◌∷◌, map}
use mathlib.Core.Option.{some}
use lib.ListN.{get_elem?}
use Rattle.sql_types.specs.declared.journal.TheConstants.{JOURNAL_VERSION}
use Rattle.sql_types.specs.declared.digest.Digest.{Digest}
use Rattle.server_engine.specs.Images.{AreImageBytes, CellsStand, JournalFitsFormat}
use Rattle.server_engine.specs.LedgerSeen.{ledger_seen}
use Rattle.spec_protocol.specs.Cells.{Ledger, LedgerCell, ledger_at}
use Rattle.server_result.specs.Images.{with_each}
use Rattle.server_result.specs.Joined.{joined_each}
use Rattle.server_result.specs.declared.ran.RunOutcome.{RunOutcome}
use Rattle.server_ending.specs.Closing.{IssuesLast}
use Rattle.server_ending.specs.declared.leaving.OutcomeParts.{OutcomeParts}
use Rattle.server_ending.specs.declared.finished.FinishedRun.{FinishedRun}

-- this is saved of it: all entries, all images that were kept, and what the ledger's cell has, whose next id has
-- room in 8 bytes
pub record HasSaved (f : FinishedRun) (r : RunOutcome) : Type 0 where
  pub transcript : r.transcript ≡ joined_each (f.setup.entries ∷ map (λ e. e.entries) f.ends.items)
  pub images : r.images ≡ with_each (f.setup.images ∷ map (λ e. e.images) f.ends.items)
  pub bytes : AreImageBytes f.cells.items r.image
  pub room : (stand : CellsStand f.cells.items) → JournalFitsFormat stand.hash f.cells.items
  pub ledger : LedgerCell
  pub there : get_elem? (map (λ c. c.cell) f.cells.items) ledger_at ≡ some (Ledger ledger)
  pub ids : ledger.next ≤ 2 ^ 63
  pub version : r.journal.version ≡ JOURNAL_VERSION
  pub database : r.journal.database ≡ ledger.database
  pub items : r.journal.items ≡ ledger.items
  pub digests : r.digests ≡ ledger.issued

-- ---- the ledger's cell by itself

abbrev pub run_outcome_of : OutcomeParts → RunOutcome
run_outcome_of l = record {
  transcript = l.transcript;
  images = l.images;
  image = l.image;
  journal = record {
    version = JOURNAL_VERSION;
    database = l.ledger.cell.database;
    items = l.ledger.cell.items;
  };
  digests = l.ledger.cell.issued;
}

-- this is left of it, with the ledger's cell as it stood among the cells
pub record IsLeaving (f : FinishedRun) (l : OutcomeParts) : Type 0 where
  pub transcript : l.transcript ≡ joined_each (f.setup.entries ∷ map (λ e. e.entries) f.ends.items)
  pub images : l.images ≡ with_each (f.setup.images ∷ map (λ e. e.images) f.ends.items)
  pub bytes : AreImageBytes f.cells.items l.image
  pub room : (stand : CellsStand f.cells.items) → JournalFitsFormat stand.hash f.cells.items
  pub there : get_elem? f.cells.items ledger_at ≡ some (ledger_seen l.ledger)

-- with these digests in the place of its own
abbrev pub with_digests : RunOutcome → List Digest → RunOutcome
with_digests r digests = record {
  transcript = r.transcript;
  images = r.images;
  image = r.image;
  journal = r.journal;
  digests = digests;
}

-- this is saved of it, and behind its digests that of the newest block, or none where there is no transaction
pub record HasIssued (h : List ℕ → List ℕ) (made : ℕ) (f : FinishedRun) (r : RunOutcome) : Type 0 where
  pub before : RunOutcome
  pub saved : HasSaved f before
  pub more : List Digest
  pub after : LedgerCell
  pub issued : IssuesLast h made saved.ledger more after
  pub is : r ≡ with_digests before (before.digests ++ more)
