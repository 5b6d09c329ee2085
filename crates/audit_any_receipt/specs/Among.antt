-- What is answered of a receipt or a chain, with the digests that somebody holds.
use Rattle.std.specs.Prelude.{ℕ, ◌≡◌, ◌==◌, Bool, true, false, List, [], ◌∷◌, Option, Some, None}
use Rattle.std.specs.List.{find}
use Rattle.sql_types.specs.declared.digest.HeldDigest.{HeldDigest}
use Rattle.sql_types.specs.declared.entry.BlockRecord.{BlockRecord}
use Rattle.audit_receipt.specs.Accepted.{Accepted}
use Rattle.audit_row_receipt.specs.AcceptedRows.{AcceptedRow, AcceptedTable}
use Rattle.audit_chain.specs.Continues.{Continues, LeadsOn, LeavesOut, first_block}
use Rattle.format_chain.specs.declared.chain.Chain.{Chain}
use Rattle.audit_any_receipt.specs.declared.among.Answer.{Answer}
use Rattle.audit_any_receipt.specs.declared.among.Answer.TheVariants as answers
use Rattle.audit_any_receipt.specs.declared.any.AnyReceipt.{AnyReceipt}
use Rattle.audit_any_receipt.specs.declared.any.AnyReceipt.TheVariants as kinds
use Rattle.audit_any_receipt.specs.Kinds.{records_of}

-- the block of the last of these records, or this one where there is none
abbrev pub last_block_from : ℕ → List BlockRecord → ℕ
last_block_from block [] = block
last_block_from block (r ∷ rs) = last_block_from r.id rs

-- the block of the last of some records; a receipt has one at least
abbrev pub last_block : List BlockRecord → ℕ
last_block records = last_block_from 0 records

-- the first digest of this block
abbrev pub first_of_block : ℕ → List HeldDigest → Option HeldDigest
first_of_block block digests = find (λ (d : HeldDigest). d.block == block) digests

-- it is accepted with this digest; a chain leads to this one and joins all that are held
abbrev pub IsAcceptedBy : (List ℕ → List ℕ) → AnyReceipt → HeldDigest → List HeldDigest → Type 0
IsAcceptedBy h (kinds.Entry r) d held = Accepted h r d
IsAcceptedBy h (kinds.Table r) d held = AcceptedTable h r d
IsAcceptedBy h (kinds.Event r) d held = AcceptedRow h r d
IsAcceptedBy h (kinds.Chain c) d held = Continues h c d held

-- it is accepted with the first digest of its last record's block
pub record IsAcceptedAmong (h : List ℕ → List ℕ) (r : AnyReceipt) (held : List HeldDigest) : Type 0 where
  pub d : HeldDigest
  pub first : first_of_block (last_block (records_of r)) held ≡ Some d
  pub accepted : IsAcceptedBy h r d held

-- the records of the chain are in order, and it joins the first digest of its last block, but it doesn't join some
-- other: this is the least block of those
pub record LeavesOutAmong (h : List ℕ → List ℕ) (c : Chain) (held : List HeldDigest) (block : ℕ) : Type 0 where
  pub d : HeldDigest
  pub first : first_of_block (last_block c.records) held ≡ Some d
  pub leads : LeadsOn h c d
  pub out : LeavesOut h c held block

-- so it is of this receipt, which is a chain
abbrev pub IsLeftOut : (List ℕ → List ℕ) → AnyReceipt → List HeldDigest → ℕ → Type 0
IsLeftOut h (kinds.Chain c) held block = LeavesOutAmong h c held block
IsLeftOut h r held block = ⊥

-- there is no digest of the last record's block
abbrev pub HasNoDigest : AnyReceipt → List HeldDigest → Type 0
HasNoDigest r held = first_of_block (last_block (records_of r)) held ≡ None

-- it is no chain
abbrev pub IsNoChain : AnyReceipt → Type 0
IsNoChain (kinds.Chain c) = ⊥
IsNoChain r = Unit {0}

-- it is a chain, and these are the blocks of its first and its last record
abbrev pub AreItsBlocks : AnyReceipt → ℕ → ℕ → Type 0
AreItsBlocks (kinds.Chain c) from to = (from ≡ first_block c.records) × (to ≡ last_block c.records)
AreItsBlocks r from to = ⊥

-- none of the other answers holds
pub record IsRefused (h : List ℕ → List ℕ) (r : AnyReceipt) (held : List HeldDigest) : Type 0 where
  pub unaccepted : IsAcceptedAmong h r held → ⊥
  pub joined : (block : ℕ) → IsLeftOut h r held block → ⊥
  pub some : HasNoDigest r held → ⊥

-- what is answered; no two of these hold of one receipt
abbrev pub IsAnswer : (List ℕ → List ℕ) → AnyReceipt → List HeldDigest → Answer → Type 0
IsAnswer h r held answers.Yes = IsNoChain r × IsAcceptedAmong h r held
IsAnswer h r held (answers.Joined from to) = AreItsBlocks r from to × IsAcceptedAmong h r held
IsAnswer h r held (answers.NoJoin block) = IsLeftOut h r held block
IsAnswer h r held (answers.NoDigest block) = HasNoDigest r held × (block ≡ last_block (records_of r))
IsAnswer h r held answers.NoReceipt = IsRefused h r held

-- whether it says that the receipt or chain is accepted
abbrev pub is_yes : Answer → Bool
is_yes answers.Yes = true
is_yes (answers.Joined from to) = true
is_yes answer = false

-- what is answered of a receipt that is no chain
abbrev pub answer_of : Bool → Answer
answer_of true = answers.Yes
answer_of false = answers.NoReceipt
