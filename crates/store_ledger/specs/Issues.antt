-- What issuing a digest does to the ledger's cell.
use Rattle.std.specs.Prelude.{ℕ, ◌≡◌, ◌+◌, ◌-◌, List, Some, length, map, slice_get}
use Rattle.spec_ledger.specs.Blocks.{no_hash, last_hash}
use Rattle.spec_protocol.specs.Cells.{LedgerCell, pending_in, blocks_in}
use Rattle.spec_protocol.specs.LedgerVisits.{all_closed, with_digest}
use Rattle.sql_types.specs.declared.digest.Digest.{Digest}
use Rattle.store_ledger.specs.declared.cell.IssuedDigest.{IssuedDigest}

-- the digest of the newest block: its number, its hash, and the time of its last entry
pub record IsOfNewest (h : List ℕ → List ℕ) (c : LedgerCell) (d : Digest) : Type 0 where
  pub database : d.database ≡ c.database
  pub newest : blocks_in c ≡ d.block + 1
  pub hash : d.hash ≡ last_hash h no_hash c.chain.blocks
  pub last : slice_get (map (λ e. e.time) c.chain.closed) (length c.chain.closed - 1) ≡ Some d.last_commit

-- all that is pending is closed, and then the digest of the newest block is issued, as made at this moment
pub record IsIssued (h : List ℕ → List ℕ) (moment : ℕ) (c : LedgerCell) (issued : IssuedDigest)
    (d : LedgerCell) : Type 0 where
  pub digest : Digest
  pub of_newest : IsOfNewest h (all_closed h (pending_in c) c) digest
  pub made : digest.made ≡ moment
  pub block : issued.block ≡ digest.block
  pub hash : issued.hash ≡ digest.hash
  pub none_pending : pending_in d ≡ 0
  pub cell : d ≡ with_digest digest (all_closed h (pending_in c) c)
