-- The closing of a block: of a full one, or of what is pending.
use Rattle.std.specs.Prelude.{ℕ, ◌≡◌, ◌≤◌, ◌<◌, ◌⊎◌, List}
use Rattle.server_session.specs.Cells.{Cell, Ledger, LedgerCell, pending_in}
use Rattle.server_session.specs.LedgerVisits.{closed_by, next_block}

-- this is the ledger's cell
abbrev pub IsLedger : Cell → Type 0
IsLedger (Ledger c) = Unit {0}
IsLedger _ = ⊥

-- it had so many pending and closed a block of them, or had fewer and is as it was
abbrev pub ClosesOne : (List ℕ → List ℕ) → LedgerCell → Cell → Type 0
ClosesOne h c d = ((c.block_size ≤ pending_in c) × (d ≡ Ledger (closed_by h c.block_size c)))
    ⊎ ((pending_in c < c.block_size) × (d ≡ Ledger c))

-- other cells are as they were
abbrev pub ClosesFull : (List ℕ → List ℕ) → Cell → Cell → Type 0
ClosesFull h (Ledger c) d = ClosesOne h c d
ClosesFull h c d = d ≡ c

-- it had some pending and closed the next block of them, or had none and is as it was
abbrev pub ClosesNext : (List ℕ → List ℕ) → LedgerCell → Cell → Type 0
ClosesNext h c d = ((1 ≤ pending_in c) × (d ≡ Ledger (closed_by h (next_block c) c)))
    ⊎ ((pending_in c ≡ 0) × (d ≡ Ledger c))

abbrev pub ClosesPending : (List ℕ → List ℕ) → Cell → Cell → Type 0
ClosesPending h (Ledger c) d = ClosesNext h c d
ClosesPending h c d = d ≡ c
