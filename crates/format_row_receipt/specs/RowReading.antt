-- Reading receipts of rows from left to right.
use Rattle.std.specs.Prelude.{ℕ, zero, suc, nat_le, Bool, List, length, codes, Option, Some, None}
use Rattle.base_fields.specs.Fields.{u8_field}
use Rattle.base_fields.specs.Forms.{database_at}
use Rattle.base_fields.specs.Readers.{Reader, u8_at, u64_at, hash_at, long_at, after, both, mapped, decoded, where_, listed}
use Rattle.format_receipt.specs.declared.receipt.Receipt.{Receipt}
use Rattle.format_receipt.specs.ReceiptReading.{entry_behind, path_at, records_at, receipt_from}
use Rattle.audit_paths.specs.declared.side.Side.{Side}
use Rattle.audit_paths.specs.declared.side.Side.TheVariants as other
use Rattle.audit_paths.specs.Path.{Step}
use Rattle.format_row_receipt.specs.declared.row_receipt.RowReceipt.{RowReceipt}
use Rattle.format_row_receipt.specs.declared.table_receipt.TableReceipt.{TableReceipt}
use Rattle.format_row_receipt.specs.RowReceipts.{max_steps}

unfoldable pub body_at : Reader Receipt
body_at = mapped receipt_from (both database_at (both entry_behind (both path_at records_at)))

abbrev pub are_some : List (List ℕ) → Bool
are_some leaves = nat_le 1 (length leaves)

unfoldable pub leaves_at : Reader (List (List ℕ))
leaves_at = where_ are_some (listed u64_at long_at)

abbrev pub side_of : ℕ → Option Side
side_of zero = Some other.Right
side_of (suc zero) = Some other.Left
side_of (suc (suc n)) = None

unfoldable pub side_at : Reader Side
side_at = decoded side_of u8_at

unfoldable pub step_at : Reader Step
step_at = both side_at hash_at

abbrev pub are_few : List Step → Bool
are_few steps = nat_le (length steps) max_steps

unfoldable pub steps_at : Reader (List Step)
steps_at = where_ are_few (listed u8_at step_at)

-- the receipts of these parts
abbrev pub table_receipt_from : Receipt × List (List ℕ) → TableReceipt
table_receipt_from x = record { receipt = x.0; leaves = x.1 }

abbrev pub row_receipt_from : Receipt × (List ℕ × List Step) → RowReceipt
row_receipt_from x = record { receipt = x.0; leaf = x.1.0; steps = x.1.1 }

unfoldable pub table_receipt_at : Reader TableReceipt
table_receipt_at = mapped table_receipt_from (after (codes "LGRA") (after (u8_field 1) (both body_at leaves_at)))

unfoldable pub row_receipt_at : Reader RowReceipt
row_receipt_at =
    mapped row_receipt_from (after (codes "LGRR") (after (u8_field 1) (both body_at (both long_at steps_at))))
