-- The records of blocks, and their hashes.
use Rattle.std.specs.Prelude.{ℕ, List, [], ◌∷◌, map, length, drop, replicate}
use Rattle.format_entry.specs.Entry.{entry_bytes}
use Rattle.format_entry.specs.Record.{record_bytes}
use Rattle.format_entry.specs.TreeHash.{tree_hash}
use Rattle.sql_types.specs.declared.entry.BlockRecord.{BlockRecord}
use Rattle.sql_types.specs.declared.entry.TxEntry.{TxEntry}

-- what stands for the hash of a block that isn't there: 32 zero bytes
abbrev pub no_hash : List ℕ
no_hash = replicate 32 0

module _ (h : List ℕ → List ℕ) where
  -- the record of a block: the tree hash of its entries' bytes, how many they are, the hash of the one before
  unfoldable pub block_of : ℕ → List TxEntry → List ℕ → BlockRecord
  block_of block entries previous =
      record {
        id = block;
        root = tree_hash h (map entry_bytes entries);
        size = length entries;
        previous = previous;
      }

  -- the hash of a block is that of its record
  abbrev pub record_hash : BlockRecord → List ℕ
  record_hash r = h (record_bytes r)

  -- the hash of the last of these blocks, behind a block with this hash
  abbrev pub last_hash : List ℕ → List BlockRecord → List ℕ
  last_hash previous [] = previous
  last_hash previous (r ∷ rs) = last_hash (record_hash r) rs

  -- the hash of the first of these blocks, and 32 zero bytes where there is none
  abbrev pub first_or_no_hash : List BlockRecord → List ℕ
  first_or_no_hash [] = no_hash
  first_or_no_hash (r ∷ rs) = record_hash r

  -- the hash of block b, and 32 zero bytes where there is no such block
  abbrev pub hash_at : List BlockRecord → ℕ → List ℕ
  hash_at blocks b = first_or_no_hash (drop b blocks)
