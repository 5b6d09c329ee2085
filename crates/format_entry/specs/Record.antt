-- The record of a block: its 80 bytes.
use Rattle.std.specs.Prelude.{◌≡◌, ◌<◌, ◌^◌, ℕ, List, ◌++◌, length}
use Rattle.base_fields.specs.Fields.{u64_field, hash_field}
use Rattle.base_fields.specs.Readers.{Reader, u64_at, hash_at, both, mapped}
use Rattle.sql_types.specs.declared.entry.BlockRecord.{BlockRecord}

-- the number of the block, the root of its entries, how many they are, and the hash of the record before
unfoldable pub record_bytes : BlockRecord → List ℕ
record_bytes b = u64_field b.id ++ (hash_field b.root ++ (u64_field b.size ++ hash_field b.previous))

-- the numbers and hashes are as large as a record has them
pub record IsRecord (b : BlockRecord) : Type 0 where
  pub id : b.id < 2 ^ 64
  pub root : length b.root ≡ 32
  pub size : b.size < 2 ^ 64
  pub previous : length b.previous ≡ 32

-- ---- reading from left to right

-- the record of these parts
abbrev pub record_from : ℕ × (List ℕ × (ℕ × List ℕ)) → BlockRecord
record_from x = record { id = x.0; root = x.1.0; size = x.1.1.0; previous = x.1.1.1 }

-- the four of them
unfoldable pub record_at : Reader BlockRecord
record_at = mapped record_from (both u64_at (both hash_at (both u64_at hash_at)))
