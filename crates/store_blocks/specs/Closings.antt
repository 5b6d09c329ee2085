-- Blocks that are closed one after another, each as soon as it is full.
use Rattle.std.specs.Prelude.{ℕ, zero, suc, ◌≤◌, List, [], ◌∷◌, ◌++◌, length, take, drop}
use Rattle.sql_types.specs.declared.entry.TxEntry.{TxEntry}
use Rattle.spec_ledger.specs.Blocks.{no_hash, block_of, last_hash}
use Rattle.spec_ledger.specs.Entries.{placed}
use Rattle.spec_ledger.specs.Ledger.{Ledger, closes}

-- the first k of these entries have their places in this block, and the others are as they were
abbrev pub placed_first : ℕ → ℕ → List TxEntry → List TxEntry
placed_first block k es = placed block 0 (take k es) ++ drop k es

-- a ledger with these entries in no block
abbrev pub with_pending : List TxEntry → Ledger → Ledger
with_pending pending l = record { blocks = l.blocks; closed = l.closed; pending = pending }

-- the entries that are in no block have their places in the next one
abbrev pub all_placed : Ledger → Ledger
all_placed l = with_pending (placed (length l.blocks) 0 l.pending) l

module _ (h : List ℕ → List ℕ) where
  -- a block is made of the first k entries that are pending, and the others keep the places that they have
  abbrev pub takes : ℕ → Ledger → Ledger
  takes k l =
      record {
        blocks = l.blocks ++ block_of h (length l.blocks) (take k l.pending) (last_hash h no_hash l.blocks) ∷ [];
        closed = l.closed ++ take k l.pending;
        pending = drop k l.pending;
      }

  -- so many closings of blocks of this size
  abbrev pub closed_by : ℕ → ℕ → Ledger → Ledger
  closed_by zero size l = l
  closed_by (suc n) size l = closes h size (closed_by n size l)

  -- before each of them as many entries are pending as a block takes
  abbrev pub AreFull : ℕ → ℕ → Ledger → Type 0
  AreFull zero size l = Unit {0}
  AreFull (suc n) size l = AreFull n size l × (size ≤ length (closed_by n size l).pending)
