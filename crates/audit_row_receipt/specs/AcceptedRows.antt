-- When a receipt of rows is accepted with a digest.
use Rattle.std.specs.Prelude.{ℕ, ◌≡◌, List, Option, Some, None}
use Rattle.std.specs.List.{AllByRecursion}
use Rattle.sql_types.specs.declared.digest.HeldDigest.{HeldDigest}
use Rattle.sql_types.specs.declared.event.Event.{Event}
use Rattle.format_event.specs.Leaf.{event_bytes, IsEvent}
use Rattle.base_merkle.specs.TreeHash.{tree_hash}
use Rattle.spec_verify.specs.Entries.{root_at}
use Rattle.audit_paths.specs.Path.{root_over}
use Rattle.format_row_receipt.specs.declared.row_receipt.RowReceipt.{RowReceipt}
use Rattle.format_row_receipt.specs.declared.table_receipt.TableReceipt.{TableReceipt}
use Rattle.audit_receipt.specs.Accepted.{Accepted}

-- ---- leaves

-- the leaf is that of an event of this transaction in this table
pub record IsLeafIn (tx table : ℕ) (leaf : List ℕ) : Type 0 where
  pub event : Event
  pub fits : IsEvent event
  pub is : leaf ≡ event_bytes event
  pub tx_is : event.tx ≡ tx
  pub table_is : event.table ≡ table

-- the table in which the leaf is one of this transaction, or none where it is of no table
abbrev pub Tells : ℕ → List ℕ → Option ℕ → Type 0
Tells tx leaf None = (table : ℕ) → IsLeafIn tx table leaf → ⊥
Tells tx leaf (Some table) = IsLeafIn tx table leaf × ((other : ℕ) → IsLeafIn tx other leaf → other ≡ table)

-- ---- receipts

-- the receipt of the transaction is accepted, the leaves are of its events in one table, and the entry has their
-- tree hash as the root in this table
pub record AcceptedTable (h : List ℕ → List ℕ) (r : TableReceipt) (d : HeldDigest) : Type 0 where
  pub receipt : Accepted h r.receipt d
  pub table : ℕ
  pub leaves : AllByRecursion (IsLeafIn r.receipt.entry.id table) r.leaves
  pub root : root_at r.receipt.entry.roots table ≡ Some (tree_hash h r.leaves)

-- the receipt of the transaction is accepted, the leaf is of an event of it in a table, and the steps lead from the
-- leaf to the root that the entry has in this table
pub record AcceptedRow (h : List ℕ → List ℕ) (r : RowReceipt) (d : HeldDigest) : Type 0 where
  pub receipt : Accepted h r.receipt d
  pub table : ℕ
  pub leaf : IsLeafIn r.receipt.entry.id table r.leaf
  pub root : root_at r.receipt.entry.roots table ≡ Some (root_over h r.leaf r.steps)
