-- Reading an entry from left to right.
use Rattle.std.specs.Prelude.{ℕ, List}
use Rattle.base_fields.specs.Fields.{u8_field}
use Rattle.base_fields.specs.Forms.{tx_id_at, moment_at, session_at}
use Rattle.base_fields.specs.Readers.{Reader, u8_at, u32_at, u64_at, hash_at, after, both, mapped, where_, listed}
use Rattle.sql_types.specs.declared.entry.TxEntry.{TxEntry}
use Rattle.format_entry.specs.Entry.{TableRoot, tables_rise}

-- a table and its root
unfoldable pub root_at : Reader TableRoot
root_at = both u32_at hash_at

-- the count of the roots, and each of them, if their tables rise
unfoldable pub roots_at : Reader (List TableRoot)
roots_at = where_ tables_rise (listed u8_at root_at)

-- transaction, block, place in it, time of the commit and session
abbrev pub Head : Type 0
Head = ℕ × (ℕ × (ℕ × (ℕ × List ℕ)))

-- the number of the format, and the head
unfoldable pub head_at : Reader Head
head_at = after (u8_field 1) (both tx_id_at (both u64_at (both u32_at (both moment_at session_at))))

-- the entry of a head and its roots
abbrev pub from_parts : Head × List TableRoot → TxEntry
from_parts x = record {
  id = x.0.0;
  block = x.0.1.0;
  ordinal = x.0.1.1.0;
  time = x.0.1.1.1.0;
  principal = x.0.1.1.1.1;
  roots = x.1;
}

-- the head, the number of the roots' format, and the roots
unfoldable pub entry_at : Reader TxEntry
entry_at = mapped from_parts (both head_at (after (u8_field 1) roots_at))
