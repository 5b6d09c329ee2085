-- When a receipt is accepted with a digest.
use Rattle.std.specs.Prelude.{ℕ, ◌≡◌, ◌≤◌, ◌<◌, ◌+◌, List, [], ◌∷◌, length, Some}
use Rattle.format_entry.specs.Entry.{entry_bytes}
use Rattle.sql_types.specs.declared.digest.HeldDigest.{HeldDigest}
use Rattle.sql_types.specs.declared.entry.BlockRecord.{BlockRecord}
use Rattle.sql_types.specs.declared.entry.TxEntry.{TxEntry}
use Rattle.spec_model.specs.Limits.{max_block}
use Rattle.spec_ledger.specs.Blocks.{no_hash, record_hash, last_hash}
use Rattle.audit_paths.specs.Path.{root_under}
use Rattle.format_receipt.specs.declared.receipt.Receipt.{Receipt}

module _ (h : List ℕ → List ℕ) where
  -- ---- the chain

  -- the first of these records, if there is one, keeps the hash of this one
  abbrev pub KeepsHashOf : BlockRecord → List BlockRecord → Type 0
  KeepsHashOf r [] = Unit {0}
  KeepsHashOf r (s ∷ ss) = s.previous ≡ record_hash h r

  -- the records are of the blocks from this one on, and each keeps the hash of the one before
  abbrev pub AreLinked : ℕ → List BlockRecord → Type 0
  AreLinked n [] = Unit {0}
  AreLinked n (r ∷ rs) = (r.id ≡ n) × KeepsHashOf r rs × AreLinked (n + 1) rs

  -- they are those from a block to that of the digest, in order, and the last one has the digest's hash
  pub record LeadTo (from : ℕ) (records : List BlockRecord) (d : HeldDigest) : Type 0 where
    pub linked : AreLinked from records
    pub reach : from + length records ≡ d.block + 1
    pub hash : last_hash h no_hash records ≡ d.hash

  -- ---- the entry

  -- the entry stands in the block of the first of these records: the block isn't larger than one may be, it is
  -- larger than the entry's ordinal, and the path leads from the entry's bytes to its root
  abbrev pub StandsIn : TxEntry → List (List ℕ) → List BlockRecord → Type 0
  StandsIn e path [] = ⊥
  StandsIn e path (r ∷ rs) =
      (r.size ≤ max_block) × (e.ordinal < r.size) × (root_under h path e.ordinal r.size (entry_bytes e) ≡ Some r.root)

  -- it is of the digest's database, its records lead from the entry's block to the digest, and the entry stands in
  -- the first of these
  pub record Accepted (r : Receipt) (d : HeldDigest) : Type 0 where
    pub database : r.database ≡ d.database
    pub chain : LeadTo r.entry.block r.records d
    pub entry : StandsIn r.entry r.path r.records
