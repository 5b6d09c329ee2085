-- The receipts that an image gives which is accepted with digests.
use Rattle.std.specs.Prelude.{ℕ, ◌≡◌, nat_lt, if◌then◌else◌, List, [], ◌∷◌, Some}
use Rattle.sql_types.specs.declared.digest.HeldDigest.{HeldDigest}
use Rattle.sql_types.specs.declared.image.Image.{Image}
use Rattle.audit_extract.specs.Each.{last_of}
use Rattle.format_chain.specs.declared.chain.Chain.{Chain}
use Rattle.format_chain.specs.Chains.{IsChain}
use Rattle.audit_receipt.specs.Made.{HasNone, IsMade}
use Rattle.audit_chain.specs.Joins.{chain_of}
use Rattle.audit_row_receipt.specs.RowsMade.{HasNoRow, HasNoTable, IsMadeRow, IsMadeTable}
use Rattle.audit_any_receipt.specs.declared.any.AnyReceipt.{AnyReceipt}
use Rattle.audit_any_receipt.specs.declared.any.AnyReceipt.TheVariants as kinds
use Rattle.audit_any_receipt.specs.declared.make.Wanted.{Wanted}
use Rattle.audit_any_receipt.specs.declared.make.Wanted.TheVariants as wanted
use Rattle.audit_any_receipt.specs.Among.{IsAcceptedBy}
use Rattle.audit_any_receipt.specs.Kinds.{IsAny}

-- the least of a block and of those of digests
abbrev pub least_to : ℕ → List HeldDigest → ℕ
least_to block [] = block
least_to block (d ∷ ds) = least_to (if nat_lt d.block block then d.block else block) ds

-- the records of the image from one block to another; it has a spelling
pub record IsMadeChain (i : Image) (from b : ℕ) (c : Chain) : Type 0 where
  pub is : c ≡ chain_of i from b
  pub spelled : IsChain c

-- what the image gives under the digest of block b of what is wanted; a chain begins with another block
abbrev pub IsMadeFor : (List ℕ → List ℕ) → Image → Wanted → ℕ → ℕ → AnyReceipt → Type 0
IsMadeFor h i (wanted.Entry tx) from b (kinds.Entry r) = IsMade h i tx b r
IsMadeFor h i (wanted.Table tx table) from b (kinds.Table r) = IsMadeTable h i tx table b r
IsMadeFor h i (wanted.Event tx table seq) from b (kinds.Event r) = IsMadeRow h i tx table seq b r
IsMadeFor h i wanted.Chain from b (kinds.Chain c) = IsMadeChain i from b c
IsMadeFor h i w from b r = ⊥

-- there is nothing in the blocks up to b of which a receipt is wanted
abbrev pub HasNoneFor : Image → Wanted → ℕ → Type 0
HasNoneFor i (wanted.Entry tx) b = HasNone i tx b
HasNoneFor i (wanted.Table tx table) b = HasNoTable i tx table b
HasNoneFor i (wanted.Event tx table seq) b = HasNoRow i tx table seq b
HasNoneFor i wanted.Chain b = ⊥

-- it is the receipt that the image gives under the digest of the greatest block, the first of these, it has a spelling
-- and it is accepted with that digest
pub record IsReceiptUnder (h : List ℕ → List ℕ) (i : Image) (held : List HeldDigest) (w : Wanted) (r : AnyReceipt) : Type 0 where
  pub d : HeldDigest
  pub last : last_of held ≡ Some d
  pub made : IsMadeFor h i w (least_to d.block held) d.block r
  pub spelled : IsAny r
  pub accepted : IsAcceptedBy h r d held

-- there is no digest, or nothing in the blocks up to the greatest of one of which a receipt is wanted
abbrev pub HasNoneUnder : Image → List HeldDigest → Wanted → Type 0
HasNoneUnder i held w = (d : HeldDigest) → last_of held ≡ Some d → HasNoneFor i w d.block
