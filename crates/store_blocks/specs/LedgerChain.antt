-- The books of a database: its ledger, and the hash of its last block.
use Rattle.std.specs.Prelude.{ℕ, ◌≡◌, ◌≤◌, ◌<◌, ◌^◌, List, length, take, drop}
use Rattle.std.specs.List.{AllByRecursion}
use Rattle.format_entry.specs.Entry.{IsEntry}
use Rattle.sql_types.specs.declared.entry.BlockRecord.{BlockRecord}
use Rattle.sql_types.specs.declared.entry.TxEntry.{TxEntry}
use Rattle.spec_ledger.specs.Blocks.{no_hash, last_hash}
use Rattle.spec_ledger.specs.Ledger.{Ledger}

pub record HashedLedger : Type 0 where
  pub ledger : Ledger
  pub hash : List ℕ

-- so many of the entries are in blocks, the others are pending
abbrev pub ledger_chain_of : List BlockRecord → List TxEntry → ℕ → List ℕ → HashedLedger
ledger_chain_of blocks entries closed hash =
    record {
      ledger = record { blocks = blocks; closed = take closed entries; pending = drop closed entries };
      hash = hash;
    }

-- each entry has a spelling, and each that is pending a place that 4 bytes can tell
pub record IsLedgerChain (blocks : List BlockRecord) (entries : List TxEntry) (closed : ℕ) : Type 0 where
  pub within : closed ≤ length entries
  pub few : length (drop closed entries) < 2 ^ 32
  pub spelled : AllByRecursion IsEntry entries

-- the hash that is kept is that of the last block
abbrev pub KeepsHash : (List ℕ → List ℕ) → HashedLedger → Type 0
KeepsHash h b = b.hash ≡ last_hash h no_hash b.ledger.blocks
