-- The receipts of rows that an image gives.
use Rattle.std.specs.Prelude.{ℕ, ◌≡◌, ◌<◌, ◌⊎◌, List, [], length, Option, Some, None}
use Rattle.std.specs.List.{slice_get}
use Rattle.sql_types.specs.declared.event.Event.{Event}
use Rattle.sql_types.specs.declared.image.Image.{Image}
use Rattle.format_event.specs.Leaf.{event_bytes, IsEvent}
use Rattle.format_image.specs.Tables.{tables_in}
use Rattle.audit_extract.specs.Leaves.{leaves_in}
use Rattle.audit_paths.specs.Path.{audit_steps}
use Rattle.format_row_receipt.specs.declared.row_receipt.RowReceipt.{RowReceipt}
use Rattle.format_row_receipt.specs.declared.table_receipt.TableReceipt.{TableReceipt}
use Rattle.format_row_receipt.specs.RowReceipts.{IsRowReceipt, IsTableReceipt}
use Rattle.audit_receipt.specs.Made.{HasNone, IsMade}

-- ---- all events of a transaction in a table

-- the receipt that the image gives of the transaction, and all of its leaves in the table; it has a spelling
pub record IsMadeTable (h : List ℕ → List ℕ) (i : Image) (tx table b : ℕ) (r : TableReceipt) : Type 0 where
  pub receipt : IsMade h i tx b r.receipt
  pub leaves : r.leaves ≡ leaves_in (tables_in i) tx table
  pub spelled : IsTableReceipt r

-- no entry up to block b is of the transaction, or it has no event in the table
abbrev pub HasNoTable : Image → ℕ → ℕ → ℕ → Type 0
HasNoTable i tx table b = HasNone i tx b ⊎ (leaves_in (tables_in i) tx table ≡ [])

-- ---- one of them

-- the leaf is that of an event with this number
pub record IsLeafOf (seq : ℕ) (leaf : List ℕ) : Type 0 where
  pub event : Event
  pub fits : IsEvent event
  pub is : leaf ≡ event_bytes event
  pub seq_is : event.seq ≡ seq

-- the number of the event of which the leaf is, or none where it is of no event
abbrev pub Numbers : List ℕ → Option ℕ → Type 0
Numbers leaf None = (seq : ℕ) → IsLeafOf seq leaf → ⊥
Numbers leaf (Some seq) = IsLeafOf seq leaf × ((other : ℕ) → IsLeafOf other leaf → other ≡ seq)

-- none of the leaves is of an event with this number
abbrev pub HasNoLeaf : ℕ → List (List ℕ) → Type 0
HasNoLeaf seq leaves = (k : ℕ) (leaf : List ℕ) → slice_get leaves k ≡ Some leaf → IsLeafOf seq leaf → ⊥

-- at this place, from 0, is one, or there is none
abbrev pub IsPlaceOf : ℕ → List (List ℕ) → Option ℕ → Type 0
IsPlaceOf seq leaves None = HasNoLeaf seq leaves
IsPlaceOf seq leaves (Some place) =
    (leaf : List ℕ) × (place < length leaves) × (slice_get leaves place ≡ Some leaf) × IsLeafOf seq leaf

-- the receipt that the image gives of the transaction; the leaf with this number, which is one of its leaves in the
-- table; and the steps from the leaf's place among these to their root; it has a spelling
pub record IsMadeRow (h : List ℕ → List ℕ) (i : Image) (tx table seq b : ℕ) (r : RowReceipt) : Type 0 where
  pub receipt : IsMade h i tx b r.receipt
  pub place : ℕ
  pub there : slice_get (leaves_in (tables_in i) tx table) place ≡ Some r.leaf
  pub of : IsLeafOf seq r.leaf
  pub steps : r.steps ≡ audit_steps h place (leaves_in (tables_in i) tx table)
  pub spelled : IsRowReceipt r

-- no entry up to block b is of the transaction, or it has no event with this number in the table
abbrev pub HasNoRow : Image → ℕ → ℕ → ℕ → ℕ → Type 0
HasNoRow i tx table seq b = HasNone i tx b ⊎ HasNoLeaf seq (leaves_in (tables_in i) tx table)
