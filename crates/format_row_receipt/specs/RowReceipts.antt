-- Receipts of rows: their one spelling in bytes.
use Rattle.std.specs.Prelude.{ℕ, ◌≤◌, ◌<◌, ◌^◌, List, ◌++◌, length, flat_map, codes}
use Rattle.std.specs.List.{AllByRecursion}
use Rattle.base_fields.specs.Fields.{u8_field, u64_field, hash_field, short_field, long_field}
use Rattle.format_entry.specs.Entry.{entry_bytes}
use Rattle.format_receipt.specs.declared.receipt.Receipt.{Receipt}
use Rattle.format_receipt.specs.Receipts.{path_bytes, records_bytes, IsReceipt}
use Rattle.audit_paths.specs.declared.side.Side.{Side}
use Rattle.audit_paths.specs.declared.side.Side.TheVariants as other
use Rattle.audit_paths.specs.Path.{Step, AreSteps}
use Rattle.format_row_receipt.specs.declared.row_receipt.RowReceipt.{RowReceipt}
use Rattle.format_row_receipt.specs.declared.table_receipt.TableReceipt.{TableReceipt}

-- what a receipt has behind the number of its format
abbrev pub body_bytes : Receipt → List ℕ
body_bytes r =
    short_field r.database ++ (long_field (entry_bytes r.entry) ++ (path_bytes r.path ++ records_bytes r.records))

-- ---- leaves

-- the count of the leaves in 8 bytes, and each behind its length in 4 bytes
abbrev pub leaves_bytes : List (List ℕ) → List ℕ
leaves_bytes leaves = u64_field (length leaves) ++ flat_map long_field leaves

-- the leaf has a length
abbrev pub IsShown : List ℕ → Type 0
IsShown leaf = length leaf < 2 ^ 32

-- ---- steps

-- 0 where the other half stands behind the one from which one comes, 1 where it stands before it
abbrev pub side_number : Side → ℕ
side_number other.Right = 0
side_number other.Left = 1

abbrev pub step_bytes : Step → List ℕ
step_bytes s = u8_field (side_number s.0) ++ hash_field s.1

-- the count of the steps in a byte, and each of them
abbrev pub steps_bytes : List Step → List ℕ
steps_bytes steps = u8_field (length steps) ++ flat_map step_bytes steps

-- a tree has fewer than 2 ^ 63 leaves, so that no more steps are needed
abbrev pub max_steps : ℕ
max_steps = 63

-- ---- receipts

-- `LGRA`, the number of the format, the receipt of the transaction and the leaves
unfoldable pub table_receipt_bytes : TableReceipt → List ℕ
table_receipt_bytes r = codes "LGRA" ++ (u8_field 1 ++ (body_bytes r.receipt ++ leaves_bytes r.leaves))

-- `LGRR`, the number of the format, the receipt of the transaction, the leaf and the steps
unfoldable pub row_receipt_bytes : RowReceipt → List ℕ
row_receipt_bytes r =
    codes "LGRR" ++ (u8_field 1 ++ (body_bytes r.receipt ++ (long_field r.leaf ++ steps_bytes r.steps)))

-- receipts that have a spelling
pub record IsTableReceipt (r : TableReceipt) : Type 0 where
  pub receipt : IsReceipt r.receipt
  pub some : 1 ≤ length r.leaves
  pub count : length r.leaves < 2 ^ 64
  pub leaves : AllByRecursion IsShown r.leaves

pub record IsRowReceipt (r : RowReceipt) : Type 0 where
  pub receipt : IsReceipt r.receipt
  pub leaf : IsShown r.leaf
  pub few : length r.steps ≤ max_steps
  pub steps : AreSteps r.steps
