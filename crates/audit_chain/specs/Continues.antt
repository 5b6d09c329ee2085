-- When a chain joins digests, and shows that one of them continues the histories of the others.
use Rattle.std.specs.Prelude.{ℕ, ◌≡◌, ◌≤◌, ◌-◌, nat_lt, bytes_eq, ◌&&◌, Bool, true, false, if◌then◌else◌, List, [], ◌∷◌, drop, Contains, Option, Some, None}
use Rattle.std.specs.List.{AllByRecursion}
use Rattle.sql_types.specs.declared.digest.HeldDigest.{HeldDigest}
use Rattle.sql_types.specs.declared.entry.BlockRecord.{BlockRecord}
use Rattle.spec_ledger.specs.Blocks.{record_hash}
use Rattle.format_chain.specs.declared.chain.Chain.{Chain}
use Rattle.audit_receipt.specs.Accepted.{LeadTo}

-- the block of the first of some records; a chain has one at least
abbrev pub first_block : List BlockRecord → ℕ
first_block [] = 0
first_block (r ∷ rs) = r.id

-- the lesser of two blocks, of which the first may be absent
abbrev pub lesser : Option ℕ → ℕ → ℕ
lesser None block = block
lesser (Some least) block = if nat_lt block least then block else least

module _ (h : List ℕ → List ℕ) where
  -- the digest is of this database and has the hash of the first of these records
  abbrev pub IsOfFirst : List ℕ → HeldDigest → List BlockRecord → Type 0
  IsOfFirst database d [] = ⊥
  IsOfFirst database d (r ∷ rs) = (d.database ≡ database) × (record_hash h r ≡ d.hash)

  -- the chain joins the digest: its block is one of the chain's, its database is the chain's, and its hash is that of
  -- the chain's record of this block
  abbrev pub IsJoined : Chain → HeldDigest → Type 0
  IsJoined c d =
      (first_block c.records ≤ d.block) × IsOfFirst c.database d (drop (d.block - first_block c.records) c.records)

  -- the records are in order, the last one is of the digest's block, and the chain joins this digest
  pub record LeadsOn (c : Chain) (newest : HeldDigest) : Type 0 where
    pub database : c.database ≡ newest.database
    pub chain : LeadTo h (first_block c.records) c.records newest

  -- the chain leads to the newest digest and joins each of the digests
  pub record Continues (c : Chain) (newest : HeldDigest) (digests : List HeldDigest) : Type 0 where
    pub leads : LeadsOn c newest
    pub joined : AllByRecursion (IsJoined c) digests

  -- a digest isn't joined: this is the least block of those that aren't
  pub record LeavesOut (c : Chain) (digests : List HeldDigest) (block : ℕ) : Type 0 where
    pub d : HeldDigest
    pub among : Contains digests d
    pub unjoined : IsJoined c d → ⊥
    pub of : d.block ≡ block
    pub least : AllByRecursion (λ (e : HeldDigest). (IsJoined c e → ⊥) → block ≤ e.block) digests

  -- the least block of the digests that the chain doesn't join, or none where it joins each
  abbrev pub IsLeastUnjoined : Chain → List HeldDigest → Option ℕ → Type 0
  IsLeastUnjoined c digests None = AllByRecursion (IsJoined c) digests
  IsLeastUnjoined c digests (Some block) = LeavesOut c digests block

  -- ---- the tests of these

  abbrev pub is_of_first : List ℕ → HeldDigest → List BlockRecord → Bool
  is_of_first database d [] = false
  is_of_first database d (r ∷ rs) = bytes_eq d.database database && bytes_eq (record_hash h r) d.hash

  abbrev pub is_joined : List ℕ → ℕ → List BlockRecord → HeldDigest → Bool
  is_joined database from records d =
      if nat_lt d.block from then false else is_of_first database d (drop (d.block - from) records)

  -- the least of this block and those of the digests that aren't joined
  abbrev pub least_unjoined : List ℕ → ℕ → List BlockRecord → Option ℕ → List HeldDigest → Option ℕ
  least_unjoined database from records least [] = least
  least_unjoined database from records least (d ∷ ds) =
      least_unjoined database from records
      (if is_joined database from records d then least else Some (lesser least d.block)) ds
