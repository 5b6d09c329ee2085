-- Chains that join two digests tell one history.
use Rattle.std.proofs.Common.{◌≡◌, ◌≤◌, ◌<◌, ◌+◌, ◌⊎◌, ℕ, List, length, drop, None, arith, sym, ◌∙◌, ap, inl, length-take, length-drop}
use Rattle.std.specs.List.{AllByRecursion}
use Rattle.format_entry.specs.Record.{IsRecord}
use Rattle.sql_types.specs.declared.digest.HeldDigest.{HeldDigest}
use Rattle.sql_types.specs.declared.image.Image.{Image}
use Rattle.spec_ledger.specs.Blocks.{no_hash, first_or_no_hash}
use Rattle.format_image.specs.ImageBytes.{IsImage}
use Rattle.spec_verify.specs.Blocks.{chain_fault, block_fault}
use Rattle.spec_verify.specs.Sentences.{DigestHolds}
use Rattle.audit_extract.specs.Collisions.{HasCollisionBetween, IsHashedIn, IsRecordAmong}
use Rattle.audit_extract.specs.Parts.{blocks_to}
use Rattle.audit_extract.proofs.Collisions.{or_wider}
use Rattle.audit_extract.proofs.Lists.{all_left, all_taken}
use Rattle.audit_extract.proofs.Unbroken.{so_far}
use Rattle.format_chain.specs.declared.chain.Chain.{Chain}
use Rattle.format_chain.specs.Chains.{IsChain}
use Rattle.audit_receipt.proofs.Chains.{same_chain}
use Rattle.audit_receipt.proofs.Found.{HasBlock, block_at, all_heads}
use Rattle.audit_receipt.proofs.Imaged.{records_hashed}
use Rattle.audit_receipt.proofs.Made.{first_taken, parts_lead}
use Rattle.audit_chain.specs.Joins.{Joins, chain_of}

-- ---- what an image gives

records_fit : (i : Image) → IsImage i → (b j : ℕ) → AllByRecursion IsRecord (drop j (blocks_to i b))
records_fit i is b j = all_left IsRecord j (blocks_to i b) (all_taken IsRecord (b + 1) i.blocks is.blocks)

pub chain_spelled : (i : Image) → IsImage i → (j b : ℕ) → j ≤ b → b < length i.blocks → IsChain (chain_of i j b)
chain_spelled i is j b le lt =
    let t = length-take (b + 1) i.blocks in
    let l = length-drop j (blocks_to i b) in
    let few = is.block_count in
    record {
      database = is.database;
      some = omega (arith, le, lt, t, l);
      count = omega (arith, le, lt, t, l, few);
      records = records_fit i is b j;
    }

module _ (h : List ℕ → List ℕ) (i : Image) (is : IsImage i) (chain : chain_fault h i ≡ None) (blocks : block_fault h i ≡ None) where
  -- the records up to a digest that holds begin, from a block on, with the one whose hash the image has there
  pub first_is : (j : ℕ) (d : HeldDigest) → DigestHolds h i d → j ≤ d.block → first_or_no_hash h (drop j (blocks_to i d.block)) ≡ first_or_no_hash h (drop j i.blocks)
  first_is j d holds le =
      let within = holds.block in
      let b : HasBlock h i.blocks i.entries j = block_at h 0 no_hash i.blocks i.entries (all_heads h i is chain blocks) j (omega (arith, le, within)) in
      ap (first_or_no_hash h) (first_taken j (d.block + 1) i.blocks b.first b.more (omega (arith, le)) b.at) ∙ sym (ap (first_or_no_hash h) b.at)

  pub made_joins : (older newer : HeldDigest) → DigestHolds h i older → DigestHolds h i newer → older.block ≤ newer.block → Joins h (chain_of i older.block newer.block) older newer
  made_joins older newer old new le =
      record {
        older_database = sym old.database;
        newer_database = sym new.database;
        chain = parts_lead h i is chain blocks newer older.block new le;
        hash = first_is older.block newer new le ∙ sym old.hash;
      }

  -- ---- one history

  pub older_holds : (c : Chain) (older newer : HeldDigest) → IsChain c → Joins h c older newer → DigestHolds h i newer
      → DigestHolds h i older ⊎ HasCollisionBetween h (IsRecordAmong c.records) (IsHashedIn h i)
  older_holds c older newer fc j holds =
      so_far found
      (or_wider h (IsRecordAmong c.records) (IsRecordAmong (drop older.block (blocks_to i newer.block))) (IsRecordAmong c.records) (IsHashedIn h i) (λ x among. among) (records_hashed h i older.block newer.block)
      (same_chain h older.block c.records (drop older.block (blocks_to i newer.block)) newer fc.records (records_fit i is newer.block older.block) j.chain (parts_lead h i is chain blocks newer older.block holds le)))
    where
      le : older.block ≤ newer.block
      le = let some = fc.some in let reach = j.chain.reach in omega (arith, some, reach)

      found : c.records ≡ drop older.block (blocks_to i newer.block) → DigestHolds h i older ⊎ HasCollisionBetween h (IsRecordAmong c.records) (IsHashedIn h i)
      found same =
          let within = holds.block in
          inl (record {
            database = sym j.older_database ∙ j.newer_database ∙ holds.database;
            block = omega (arith, le, within);
            hash = sym j.hash ∙ ap (first_or_no_hash h) same ∙ first_is older.block newer holds le;
          })
