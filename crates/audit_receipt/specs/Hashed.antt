-- The strings of bytes that are hashed where a receipt is checked.
use Rattle.std.specs.Prelude.{ℕ, ◌⊎◌, List, [], ◌∷◌}
use Rattle.format_entry.specs.Entry.{entry_bytes}
use Rattle.sql_types.specs.declared.entry.BlockRecord.{BlockRecord}
use Rattle.sql_types.specs.declared.entry.TxEntry.{TxEntry}
use Rattle.audit_extract.specs.Collisions.{IsRecordAmong}
use Rattle.audit_paths.specs.Hashed.{IsHashedUnder}
use Rattle.format_receipt.specs.declared.receipt.Receipt.{Receipt}

module _ (h : List ℕ → List ℕ) where
  -- it is hashed where the path leads from the entry's bytes to the root of the first of these records
  abbrev pub IsHashedTo : TxEntry → List (List ℕ) → List BlockRecord → List ℕ → Type 0
  IsHashedTo e path [] x = ⊥
  IsHashedTo e path (r ∷ rs) x = IsHashedUnder h path e.ordinal r.size (entry_bytes e) x

  -- it is one of the receipt's records, or hashed where the path leads from its entry to the root
  abbrev pub IsHashedOf : Receipt → List ℕ → Type 0
  IsHashedOf r x = IsRecordAmong r.records x ⊎ IsHashedTo r.entry r.path r.records x
