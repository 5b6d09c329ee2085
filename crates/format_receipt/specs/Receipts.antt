-- A receipt: its one spelling in bytes.
use Rattle.std.specs.Prelude.{ℕ, ◌≡◌, ◌≤◌, ◌<◌, ◌^◌, true, List, ◌++◌, length, flat_map, codes}
use Rattle.std.specs.List.{AllByRecursion}
use Rattle.base_types.specs.DatabaseName.{is_database_name}
use Rattle.base_fields.specs.Fields.{u8_field, u64_field, hash_field, short_field, long_field}
use Rattle.sql_types.specs.declared.entry.BlockRecord.{BlockRecord}
use Rattle.format_entry.specs.Entry.{entry_bytes, IsEntry}
use Rattle.format_entry.specs.Record.{record_bytes, IsRecord}
use Rattle.format_receipt.specs.declared.receipt.Receipt.{Receipt}

-- the count of the hashes in a byte, and each of them
abbrev pub path_bytes : List (List ℕ) → List ℕ
path_bytes path = u8_field (length path) ++ flat_map hash_field path

-- the count of the records in 8 bytes, and each of them
abbrev pub records_bytes : List BlockRecord → List ℕ
records_bytes records = u64_field (length records) ++ flat_map record_bytes records

-- `LGRC`, the number of the format, the database, the entry, its path and the records
unfoldable pub receipt_bytes : Receipt → List ℕ
receipt_bytes r =
    codes "LGRC"
    ++ (u8_field 1
    ++ (short_field r.database ++ (long_field (entry_bytes r.entry) ++ (path_bytes r.path ++ records_bytes r.records))))

-- ---- which receipts have a spelling

-- a path in a tree of at most 100,000 leaves has at most so many hashes
abbrev pub max_path : ℕ
max_path = 17

-- a receipt that has a spelling
pub record IsReceipt (r : Receipt) : Type 0 where
  pub database : is_database_name r.database ≡ true
  pub entry : IsEntry r.entry
  pub few : length r.path ≤ max_path
  pub path : AllByRecursion (λ (p : List ℕ). length p ≡ 32) r.path
  pub some : 1 ≤ length r.records
  pub count : length r.records < 2 ^ 64
  pub records : AllByRecursion IsRecord r.records
