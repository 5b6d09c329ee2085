-- Receipts of any kind, and their bytes.
use Rattle.std.specs.Prelude.{ℕ, ◌≡◌, ◌<◌, List, Option, Some, None}
use Rattle.sql_types.specs.declared.entry.BlockRecord.{BlockRecord}
use Rattle.format_receipt.specs.Receipts.{receipt_bytes, IsReceipt}
use Rattle.format_chain.specs.Chains.{chain_bytes, IsChain}
use Rattle.format_row_receipt.specs.RowReceipts.{row_receipt_bytes, table_receipt_bytes, IsRowReceipt, IsTableReceipt}
use Rattle.audit_any_receipt.specs.declared.any.AnyReceipt.{AnyReceipt}
use Rattle.audit_any_receipt.specs.declared.any.AnyReceipt.TheVariants as kinds

-- it has a spelling
abbrev pub IsAny : AnyReceipt → Type 0
IsAny (kinds.Entry r) = IsReceipt r
IsAny (kinds.Table r) = IsTableReceipt r
IsAny (kinds.Event r) = IsRowReceipt r
IsAny (kinds.Chain c) = IsChain c

abbrev pub any_bytes : AnyReceipt → List ℕ
any_bytes (kinds.Entry r) = receipt_bytes r
any_bytes (kinds.Table r) = table_receipt_bytes r
any_bytes (kinds.Event r) = row_receipt_bytes r
any_bytes (kinds.Chain c) = chain_bytes c

-- the bytes are those of this receipt
abbrev pub Spells : List ℕ → AnyReceipt → Type 0
Spells bytes r = IsAny r × (bytes ≡ any_bytes r)

-- the bytes are those of no receipt
abbrev pub SpellsNone : List ℕ → Type 0
SpellsNone bytes = (r : AnyReceipt) → Spells bytes r → ⊥

-- the receipt whose bytes these are, or none where they are those of none
abbrev pub ReadsAny : List ℕ → Option AnyReceipt → Type 0
ReadsAny bytes None = SpellsNone bytes
ReadsAny bytes (Some r) = Spells bytes r

-- the kinds in the order in which they are tried
abbrev pub kind_number : AnyReceipt → ℕ
kind_number (kinds.Entry r) = 0
kind_number (kinds.Table r) = 1
kind_number (kinds.Event r) = 2
kind_number (kinds.Chain c) = 3

-- the same from kind k on
abbrev pub ReadsFrom : ℕ → List ℕ → Option AnyReceipt → Type 0
ReadsFrom k bytes None = (r : AnyReceipt) → Spells bytes r → kind_number r < k
ReadsFrom k bytes (Some r) = Spells bytes r

-- the records of blocks up to that of the digest
abbrev pub records_of : AnyReceipt → List BlockRecord
records_of (kinds.Entry r) = r.records
records_of (kinds.Table r) = r.receipt.records
records_of (kinds.Event r) = r.receipt.records
records_of (kinds.Chain c) = c.records
