-- Reading a receipt from left to right.
use Rattle.std.specs.Prelude.{ℕ, nat_le, Bool, List, length, codes}
use Rattle.base_fields.specs.Fields.{u8_field}
use Rattle.base_fields.specs.Forms.{database_at}
use Rattle.base_fields.specs.Readers.{Reader, u8_at, u64_at, hash_at, long_at, after, both, mapped, decoded, where_, listed, whole}
use Rattle.sql_types.specs.declared.entry.BlockRecord.{BlockRecord}
use Rattle.sql_types.specs.declared.entry.TxEntry.{TxEntry}
use Rattle.format_entry.specs.EntryReading.{entry_at}
use Rattle.format_entry.specs.Record.{record_at}
use Rattle.format_receipt.specs.declared.receipt.Receipt.{Receipt}
use Rattle.format_receipt.specs.Receipts.{max_path}

abbrev pub is_short : List (List ℕ) → Bool
is_short path = nat_le (length path) max_path

abbrev pub are_some : List BlockRecord → Bool
are_some records = nat_le 1 (length records)

-- the entry that some bytes are, all of them
unfoldable pub entry_behind : Reader TxEntry
entry_behind = decoded (whole entry_at) long_at

unfoldable pub path_at : Reader (List (List ℕ))
path_at = where_ is_short (listed u8_at hash_at)

unfoldable pub records_at : Reader (List BlockRecord)
records_at = where_ are_some (listed u64_at record_at)

-- the receipt of these parts
abbrev pub receipt_from : List ℕ × (TxEntry × (List (List ℕ) × List BlockRecord)) → Receipt
receipt_from x = record { database = x.0; entry = x.1.0; path = x.1.1.0; records = x.1.1.1 }

unfoldable pub receipt_at : Reader Receipt
receipt_at =
    mapped receipt_from
    (after (codes "LGRC") (after (u8_field 1) (both database_at (both entry_behind (both path_at records_at)))))
