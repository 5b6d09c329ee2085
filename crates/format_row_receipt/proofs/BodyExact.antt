-- What all receipts have, and leaves, are read exactly as they are written.
use Rattle.std.proofs.Common.{◌≡◌, ◌<◌, ◌^◌, ℕ, true, List, length, refl}
use Rattle.std.specs.List.{AllByRecursion}
use Rattle.base_fields.specs.Fields.{u64_field, long_field}
use Rattle.base_fields.specs.Forms.{database_at}
use Rattle.base_fields.specs.Readers.{u64_at, long_at, both, listed}
use Rattle.base_fields.specs.Exact.{Exact}
use Rattle.base_fields.proofs.Written.{Shorter, u64_exact, long_exact}
use Rattle.base_fields.proofs.Parts.{mapped_exact, where_exact, listed_exact}
use Rattle.format_receipt.specs.Receipts.{IsReceipt}
use Rattle.format_receipt.specs.ReceiptReading.{entry_behind, path_at, records_at, receipt_from}
use Rattle.format_receipt.proofs.ReceiptExact.{FitParts, encode_parts, parts_of, parts_fit, receipt_fits, parts_exact}
use Rattle.format_row_receipt.specs.RowReceipts.{body_bytes, leaves_bytes}
use Rattle.format_row_receipt.specs.RowReading.{body_at, are_some, leaves_at}

-- ---- the receipt of the transaction

pub body_exact : Exact IsReceipt body_bytes body_at
unfolding body_at
body_exact = mapped_exact FitParts IsReceipt encode_parts body_bytes receipt_from parts_of (both database_at (both entry_behind (both path_at records_at)))
    (record { there = λ r. refl; encoded = λ x. refl; fit = parts_fit; fit_back = receipt_fits }) parts_exact

-- ---- leaves

abbrev pub FitLeaves : List (List ℕ) → Type 0
FitLeaves leaves = ((length leaves < 2 ^ 64) × AllByRecursion (Shorter (2 ^ 32)) leaves) × (are_some leaves ≡ true)

pub leaves_exact : Exact FitLeaves leaves_bytes leaves_at
unfolding leaves_at
leaves_exact = where_exact (λ (leaves : List (List ℕ)). (length leaves < 2 ^ 64) × AllByRecursion (Shorter (2 ^ 32)) leaves) leaves_bytes are_some (listed u64_at long_at)
    (listed_exact (Shorter (2 ^ 32)) long_field long_at long_exact (2 ^ 64) u64_field u64_at u64_exact)
