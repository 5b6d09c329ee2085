-- How the ledger's cell is closed behind a run, and what is issued then.
use Rattle.std.specs.Prelude.{ℕ, ◌≡◌, ◌<◌, ◌≤◌, ◌⊎◌, Bool, MatchBool, List, [], ◌∷◌, length, slice_set}
use mathlib.Core.Option.{some}
use lib.ListN.{get_elem?}
use Rattle.sql_types.specs.declared.digest.Digest.{Digest}
use Rattle.spec_model.specs.Journals.{tx_count}
use Rattle.spec_syntax.specs.Text.{statement_of}
use Rattle.spec_protocol.specs.Cells.{LedgerCell, ledger_at}
use Rattle.spec_protocol.specs.Seats.{SeatState}
use Rattle.store_ledger.specs.Issues.{IsIssued}
use Rattle.store_ledger.specs.declared.cell.IssuedDigest.{IssuedDigest}
use Rattle.spec_protocol.specs.Serves.{Serves}
use Rattle.server_engine.specs.Full.{ClosesPending, IsLedger}
use Rattle.server_session.specs.KeptCell.{KeptCell, Keeps}
use Rattle.server_session.specs.SessionOutput.{pending_of, size_of}
use Rattle.server_engine.specs.ServedDatabase.{ServedDatabase, StandsOn}
use Rattle.server_engine.specs.Standing.{cells_seen, pending_at}

-- so many entries of the ledger's cell are in no block yet
abbrev pub pending_there : List KeptCell → ℕ
pending_there cells = pending_at (cells_seen cells)

-- ---- one closing

-- the ledger's cell is at its place, its blocks take some entries, and it keeps what was worked out with this
-- hash
pub record HasLedger (h : List ℕ → List ℕ) (cells : List KeptCell) : Type 0 where
  pub within : ledger_at < length cells
  pub is : (x : KeptCell) → get_elem? cells ledger_at ≡ some x
      → IsLedger x.cell × (1 ≤ size_of x.cell) × Keeps h x

-- it closed the next block of what was pending; whether there was any is told
pub record ClosesThere (h : List ℕ → List ℕ) (more : Bool) (cells after : List KeptCell) : Type 0 where
  pub x : KeptCell
  pub y : KeptCell
  pub there : get_elem? cells ledger_at ≡ some x
  pub closes : ClosesPending h x.cell y.cell
  pub keeps : Keeps h y
  pub told : MatchBool more (pending_of y.cell < pending_of x.cell) (pending_of y.cell ≡ 0)
  pub is : after ≡ slice_set cells ledger_at y

-- ---- all closings

-- the cells stand together with these seats, of which this is one, on a server that hashes so
pub record StandBeside (h : List ℕ → List ℕ) (cells : List KeptCell) (d : ServedDatabase) (seats : List SeatState)
    (j : ℕ) (s : SeatState) : Type 0 where
  pub serves : Serves h statement_of d.server
  pub stands : StandsOn (λ (c : KeptCell). c.cell) Keeps d cells seats
  pub there : get_elem? seats j ≡ some s

pub record AreServed (h : List ℕ → List ℕ) (cells : List KeptCell) : Type 0 where
  pub d : ServedDatabase
  pub seats : List SeatState
  pub j : ℕ
  pub s : SeatState
  pub stand : StandBeside h cells d seats j s

-- the cells still stand together with all seats with which they did
abbrev pub StillStand : (List ℕ → List ℕ) → List KeptCell → List KeptCell → Type 0
StillStand h cells after = (d : ServedDatabase) (seats : List SeatState) (j : ℕ) (s : SeatState)
    → StandBeside h cells d seats j s → StandBeside h after d seats j s

-- ---- the digest

-- the digest of the newest block was issued, or none where the journal has no transaction
abbrev pub IssuesLast : (List ℕ → List ℕ) → ℕ → LedgerCell → List Digest → LedgerCell → Type 0
IssuesLast h made c more d =
    ((tx_count c.items ≡ 0) × (more ≡ []) × (d ≡ c))
    ⊎ ((issued : IssuedDigest) × (i : IsIssued h made c issued d) × (more ≡ i.digest ∷ []))
