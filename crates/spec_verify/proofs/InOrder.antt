-- The first invariant that fails is the one that is named.
use Rattle.std.proofs.Common.{◌≡◌, ℕ, List, Some, None, refl}
use Rattle.sql_types.specs.declared.digest.HeldDigest.{HeldDigest}
use Rattle.sql_types.specs.declared.image.Image.{Image}
use Rattle.spec_verify.specs.declared.place.Invariant.TheVariants.{V1, V2, V3, V4, V5, V6, V7, V8}
use Rattle.spec_verify.specs.declared.place.Place.{Place}
use Rattle.spec_verify.specs.declared.place.Verdict.TheVariants.{No}
use Rattle.spec_verify.specs.Blocks.{digest_fault, chain_fault, block_fault}
use Rattle.spec_verify.specs.Entries.{id_fault, root_fault}
use Rattle.spec_verify.specs.Indexes.{index_fault}
use Rattle.spec_verify.specs.Rules.{row_fault, catalog_fault}
use Rattle.spec_verify.specs.Verdict.{image_verdict}

module _ (h : List ℕ → List ℕ) (i : Image) (digests : List HeldDigest) (p : Place) where
  pub digests_first : digest_fault h i digests ≡ Some p → image_verdict h i digests ≡ No V1 p
  unfolding image_verdict
  digests_first a = rw a refl

  pub chain_first : digest_fault h i digests ≡ None → chain_fault h i ≡ Some p → image_verdict h i digests ≡ No V2 p
  unfolding image_verdict
  chain_first a b = rw (a, b) refl

  pub blocks_first : digest_fault h i digests ≡ None → chain_fault h i ≡ None → block_fault h i ≡ Some p → image_verdict h i digests ≡ No V3 p
  unfolding image_verdict
  blocks_first a b c = rw (a, b, c) refl

  pub ids_first : digest_fault h i digests ≡ None → chain_fault h i ≡ None → block_fault h i ≡ None → id_fault i ≡ Some p → image_verdict h i digests ≡ No V4 p
  unfolding image_verdict
  ids_first a b c d = rw (a, b, c, d) refl

  pub entries_first : digest_fault h i digests ≡ None → chain_fault h i ≡ None → block_fault h i ≡ None → id_fault i ≡ None → root_fault h i ≡ Some p → image_verdict h i digests ≡ No V5 p
  unfolding image_verdict
  entries_first a b c d e = rw (a, b, c, d, e) refl

  pub versions_first : digest_fault h i digests ≡ None → chain_fault h i ≡ None → block_fault h i ≡ None → id_fault i ≡ None → root_fault h i ≡ None → row_fault i ≡ Some p → image_verdict h i digests ≡ No V6 p
  unfolding image_verdict
  versions_first a b c d e f = rw (a, b, c, d, e, f) refl

  pub definitions_first : digest_fault h i digests ≡ None → chain_fault h i ≡ None → block_fault h i ≡ None → id_fault i ≡ None → root_fault h i ≡ None → row_fault i ≡ None → catalog_fault i ≡ Some p → image_verdict h i digests ≡ No V7 p
  unfolding image_verdict
  definitions_first a b c d e f g = rw (a, b, c, d, e, f, g) refl

  pub indexes_first : digest_fault h i digests ≡ None → chain_fault h i ≡ None → block_fault h i ≡ None → id_fault i ≡ None → root_fault h i ≡ None → row_fault i ≡ None → catalog_fault i ≡ None → index_fault i ≡ Some p → image_verdict h i digests ≡ No V8 p
  unfolding image_verdict
  indexes_first a b c d e f g k = rw (a, b, c, d, e, f, g, k) refl
