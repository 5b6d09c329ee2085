-- The tests by which a receipt is accepted.
use Rattle.std.specs.Prelude.{ℕ, ◌+◌, ◌==◌, nat_lt, nat_le, bytes_eq, Bool, true, false, ◌&&◌, List, [], ◌∷◌, length, Option, Some, None}
use Rattle.format_entry.specs.Entry.{entry_bytes}
use Rattle.sql_types.specs.declared.digest.HeldDigest.{HeldDigest}
use Rattle.sql_types.specs.declared.entry.BlockRecord.{BlockRecord}
use Rattle.sql_types.specs.declared.entry.TxEntry.{TxEntry}
use Rattle.spec_model.specs.Limits.{max_block}
use Rattle.spec_ledger.specs.Blocks.{no_hash, record_hash, last_hash}
use Rattle.audit_paths.specs.Path.{root_under}
use Rattle.format_receipt.specs.declared.receipt.Receipt.{Receipt}

-- the record keeps this hash, if there is one
abbrev pub keeps_hash : Option (List ℕ) → BlockRecord → Bool
keeps_hash None r = true
keeps_hash (Some hash) r = bytes_eq r.previous hash

abbrev pub is_root : List ℕ → Option (List ℕ) → Bool
is_root root None = false
is_root root (Some hash) = bytes_eq hash root

module _ (h : List ℕ → List ℕ) where
  abbrev pub are_linked : Option (List ℕ) → ℕ → List BlockRecord → Bool
  are_linked before n [] = true
  are_linked before n (r ∷ rs) = (r.id == n && keeps_hash before r) && are_linked (Some (record_hash h r)) (n + 1) rs

  abbrev pub lead_to : ℕ → List BlockRecord → HeldDigest → Bool
  lead_to from records d =
      from + length records == d.block + 1 && (are_linked None from records && bytes_eq (last_hash h no_hash records) d.hash)

  abbrev pub stands_in : TxEntry → List (List ℕ) → List BlockRecord → Bool
  stands_in e path [] = false
  stands_in e path (r ∷ rs) =
      nat_le r.size max_block && (nat_lt e.ordinal r.size && is_root r.root (root_under h path e.ordinal r.size (entry_bytes e)))

  abbrev pub is_accepted : Receipt → HeldDigest → Bool
  is_accepted r d =
      bytes_eq r.database d.database && (lead_to r.entry.block r.records d && stands_in r.entry r.path r.records)
