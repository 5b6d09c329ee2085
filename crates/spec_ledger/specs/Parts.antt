-- How entries fall into blocks.
use Rattle.std.specs.Prelude.{ℕ, ◌+◌, ◌≡◌, List, [], ◌∷◌, ◌++◌, take, drop}
use Rattle.sql_types.specs.declared.entry.BlockRecord.{BlockRecord}
use Rattle.sql_types.specs.declared.entry.TxEntry.{TxEntry}
use Rattle.spec_ledger.specs.Entries.{placed}
use Rattle.spec_ledger.specs.Blocks.{block_of, record_hash}

-- entries in ledger order, at the places that the sizes of the blocks give them, from this block on: first
-- those of the blocks, and what is behind them as the next block
abbrev pub by_sizes : ℕ → List ℕ → List TxEntry → List TxEntry
by_sizes block [] entries = placed block 0 entries
by_sizes block (k ∷ ks) entries =
    placed block 0 (take k entries) ++ by_sizes (block + 1) ks (drop k entries)

module _ (h : List ℕ → List ℕ) where
  -- the record is that of these entries, at their places in this block, behind a block with this hash
  pub record IsBlockOf (block : ℕ) (previous : List ℕ) (r : BlockRecord)
      (entries : List TxEntry) : Type 0 where
    pub places : entries ≡ placed block 0 entries
    pub is : r ≡ block_of h block entries previous

  -- the entries fall into parts, one for each of the records in order, and each record is that of its part
  abbrev pub AreBlocksOf : ℕ → List ℕ → List BlockRecord → List TxEntry → Type 0
  AreBlocksOf block previous [] entries = entries ≡ []
  AreBlocksOf block previous (r ∷ rs) entries =
      (part : List TxEntry) × (rest : List TxEntry) × (entries ≡ part ++ rest)
      × IsBlockOf block previous r part × AreBlocksOf (block + 1) (record_hash h r) rs rest
