-- When a chain joins two digests, and the one that an image gives.
use Rattle.std.specs.Prelude.{ℕ, ◌≡◌, ◌≤◌, List, drop}
use Rattle.sql_types.specs.declared.digest.HeldDigest.{HeldDigest}
use Rattle.sql_types.specs.declared.image.Image.{Image}
use Rattle.spec_ledger.specs.Blocks.{first_or_no_hash}
use Rattle.audit_extract.specs.Parts.{blocks_to}
use Rattle.format_chain.specs.declared.chain.Chain.{Chain}
use Rattle.audit_receipt.specs.Accepted.{LeadTo}

-- all are of one database, and the records lead from the block of the older digest, whose hash is the first
-- one's, to that of the newer digest
pub record Joins (h : List ℕ → List ℕ) (c : Chain) (older newer : HeldDigest) : Type 0 where
  pub older_database : c.database ≡ older.database
  pub newer_database : c.database ≡ newer.database
  pub chain : LeadTo h older.block c.records newer
  pub hash : first_or_no_hash h c.records ≡ older.hash

-- the records of an image from one block to another
abbrev pub chain_of : Image → ℕ → ℕ → Chain
chain_of i from b = record { database = i.database; records = drop from (blocks_to i b) }

-- the digest is of a block from one to another
abbrev pub IsWithin : ℕ → ℕ → HeldDigest → Type 0
IsWithin from b d = (from ≤ d.block) × (d.block ≤ b)
