-- The entries and blocks to which a journal leads, one item after another.
use Rattle.std.specs.Prelude.{ℕ, ◌+◌, List, [], ◌∷◌, ◌++◌, length, take, drop}
use Rattle.sql_types.specs.declared.entry.BlockRecord.{BlockRecord}
use Rattle.sql_types.specs.declared.entry.TxEntry.{TxEntry}
use Rattle.sql_types.specs.declared.journal.JournalItem.{JournalItem}
use Rattle.sql_types.specs.declared.journal.JournalItem.TheVariants.{Tx, Close}
use Rattle.spec_model.specs.Catalog.{Tables}
use Rattle.spec_model.specs.Journals.{after_item}
use Rattle.spec_model.specs.Script.{Reading}
use Rattle.spec_model.specs.SystemTables.{first_tables}
use Rattle.spec_ledger.specs.Entries.{entry_of, at_place, placed}
use Rattle.spec_ledger.specs.Blocks.{no_hash, block_of, hash_at, last_hash}

pub record Ledger : Type 0 where
  -- the blocks, by number
  pub blocks : List BlockRecord
  -- the entries that are in them, in ledger order
  pub closed : List TxEntry
  -- those that are in none yet, by commit; each has the number of blocks as its block, which is that of the
  -- next one, and its place among them as its ordinal
  pub pending : List TxEntry

-- before all items
abbrev pub empty_ledger : Ledger
empty_ledger = record { blocks = []; closed = []; pending = [] }

-- a commit adds its entry to those that are pending: they are numbered as the next block
abbrev pub commits : TxEntry → Ledger → Ledger
commits e l =
    record {
      blocks = l.blocks;
      closed = l.closed;
      pending = l.pending ++ at_place (length l.blocks) (length l.pending) e ∷ [];
    }

module _ (h : List ℕ → List ℕ) where
  -- a closing makes a block of the first k entries that are pending, and the others are numbered as the next
  abbrev pub closes : ℕ → Ledger → Ledger
  closes k l =
      record {
        blocks =
            l.blocks ++ block_of h (length l.blocks) (take k l.pending) (last_hash h no_hash l.blocks) ∷ [];
        closed = l.closed ++ take k l.pending;
        pending = placed (length l.blocks + 1) 0 (drop k l.pending);
      }

  -- what an item does that led to these tables
  abbrev pub recorded : Tables → JournalItem → Ledger → Ledger
  recorded after (Tx id session time explicit lines) l = commits (entry_of h after id session time) l
  recorded after (Close k) l = closes k l

  module _ (reads : Reading) where
    -- each item over the tables that it leads to
    unfoldable pub ledger_from : Tables → Ledger → List JournalItem → Ledger
    ledger_from tables l [] = l
    ledger_from tables l (i ∷ is) =
        let after = after_item reads tables i in ledger_from after (recorded after i l) is

    abbrev pub ledger_of : List JournalItem → Ledger
    ledger_of items = ledger_from first_tables empty_ledger items

    -- the blocks of a journal, by number
    abbrev pub blocks_of : List JournalItem → List BlockRecord
    blocks_of items = (ledger_of items).blocks

    -- its entries in ledger order: one block after another, and behind them those that are pending
    abbrev pub entries_of : List JournalItem → List TxEntry
    entries_of items = let l = ledger_of items in l.closed ++ l.pending

    -- the hash of block b, and 32 zero bytes where the journal has no such block
    abbrev pub block_hash : List JournalItem → ℕ → List ℕ
    block_hash items b = hash_at h (blocks_of items) b
