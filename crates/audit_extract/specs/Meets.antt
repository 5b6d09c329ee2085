-- What an image meets that was verified with a digest.
use Rattle.std.specs.Prelude.{ℕ, ◌≡◌, List, [], ◌∷◌, None}
use Rattle.format_image.specs.ImageBytes.{IsImage}
use Rattle.sql_types.specs.declared.digest.HeldDigest.{HeldDigest}
use Rattle.sql_types.specs.declared.image.Image.{Image}
use Rattle.spec_verify.specs.Blocks.{digest_fault, chain_fault, block_fault}
use Rattle.spec_verify.specs.Entries.{id_fault, root_fault}

-- it has a spelling, the digest is of a block of it, and its blocks, ids and roots are those of its entries
-- and events:
-- the first five invariants, with this one digest
pub record Meets (h : List ℕ → List ℕ) (i : Image) (digest : HeldDigest) : Type 0 where
  pub image : IsImage i
  pub digest_holds : digest_fault h i (digest ∷ []) ≡ None
  pub chain : chain_fault h i ≡ None
  pub blocks : block_fault h i ≡ None
  pub ids : id_fault i ≡ None
  pub roots : root_fault h i ≡ None
