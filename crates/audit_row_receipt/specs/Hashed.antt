-- The strings of bytes that are hashed where a receipt of rows is checked.
use Rattle.std.specs.Prelude.{ℕ, ◌⊎◌, List}
use Rattle.audit_extract.specs.Collisions.{IsAtNode}
use Rattle.audit_paths.specs.Hashed.{IsHashedOver}
use Rattle.format_row_receipt.specs.declared.row_receipt.RowReceipt.{RowReceipt}
use Rattle.format_row_receipt.specs.declared.table_receipt.TableReceipt.{TableReceipt}
use Rattle.audit_receipt.specs.Hashed.{IsHashedOf}

module _ (h : List ℕ → List ℕ) where
  -- in the receipt of the transaction, or at a node of the tree of the leaves
  abbrev pub IsHashedOfTable : TableReceipt → List ℕ → Type 0
  IsHashedOfTable r x = IsHashedOf h r.receipt x ⊎ IsAtNode h r.leaves x

  -- in the receipt of the transaction, or where the steps lead from the leaf to the root
  abbrev pub IsHashedOfRow : RowReceipt → List ℕ → Type 0
  IsHashedOfRow r x = IsHashedOf h r.receipt x ⊎ IsHashedOver h r.leaf r.steps x
