-- Digests of the blocks of a journal.
use Rattle.std.specs.Prelude.{ℕ, List, Option, Some, None}
use Rattle.sql_types.specs.declared.journal.JournalItem.{JournalItem}
use Rattle.spec_model.specs.Script.{Reading}
use Rattle.spec_history.specs.Digests.{Digest, last_time}
use Rattle.spec_ledger.specs.Ledger.{block_hash}

abbrev pub or_zero : Option ℕ → ℕ
or_zero (Some n) = n
or_zero None = 0

-- The digest of block b of a database's journal: the block's hash, the time of its last entry, and when it
-- was made. It stands for no digest where there is no such block: its hash is then 32 zero bytes, and its
-- time that of some transaction, or 0 where there is none.
abbrev pub digest_of : (List ℕ → List ℕ) → Reading → List ℕ → List JournalItem → ℕ → ℕ → Digest
digest_of h reads database items b made =
    record {
      database = database;
      block = b;
      hash = block_hash h reads items b;
      last_commit = or_zero (last_time items b);
      made = made;
    }
