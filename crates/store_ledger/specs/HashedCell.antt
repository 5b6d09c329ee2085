-- The ledger's cell, with the hash of its last block.
use Rattle.std.specs.Prelude.{ℕ, ◌≡◌, ◌+◌, ◌≤◌, ◌^◌, List, length}
use Rattle.sql_types.specs.declared.journal.JournalItem.{JournalItem}
use Rattle.spec_model.specs.Limits.{max_block}
use Rattle.spec_model.specs.Journals.{tx_count}
use Rattle.spec_ledger.specs.Blocks.{no_hash, last_hash}
use Rattle.spec_ledger.specs.Ledger.{Ledger}
use Rattle.spec_protocol.specs.Cells.{LedgerCell}

pub record HashedCell : Type 0 where
  pub cell : LedgerCell
  pub hash : List ℕ

-- the hash that is kept is that of the last block
abbrev pub KeepsHash : (List ℕ → List ℕ) → HashedCell → Type 0
KeepsHash h c = c.hash ≡ last_hash h no_hash c.cell.chain.blocks

-- blocks have a size that there may be, the next id is in order, each transaction of the journal has an
-- entry, and entries aren't in blocks before there is one
pub record IsCounted (size : ℕ) (items : List JournalItem) (next : ℕ) (chain : Ledger) : Type 0 where
  pub some_size : 1 ≤ size
  pub most_size : size ≤ max_block
  pub most_next : next ≤ 2 ^ 63
  pub entries : length chain.closed + length chain.pending ≡ tx_count items
  pub in_blocks : length chain.blocks ≡ 0 → length chain.closed ≡ 0
