-- The verdict in two parts: where no invariant of the first fails, the second decides.
use Rattle.std.proofs.Common.{◌≡◌, ℕ, List, refl, sym, ap, ◌∙◌, Option, Some, None}
use Rattle.sql_types.specs.declared.digest.HeldDigest.{HeldDigest}
use Rattle.sql_types.specs.declared.image.Image.{Image}
use Rattle.spec_verify.specs.declared.place.Invariant.TheVariants.{V1, V2, V3, V4}
use Rattle.spec_verify.specs.declared.place.Place.{Place}
use Rattle.spec_verify.specs.declared.place.Verdict.{Verdict}
use Rattle.spec_verify.specs.declared.place.Verdict.TheVariants.{Yes}
use Rattle.spec_verify.specs.Blocks.{block_fault, chain_fault, digest_fault}
use Rattle.spec_verify.specs.Entries.{id_fault, root_fault}
use Rattle.spec_verify.specs.Verdict.{failed_or, image_verdict}
use Rattle.audit_verify.specs.Verdict.{blocks_tried, rows_tried, tables_tried}

abbrev then : Option Place → Option Place → Option Place → Verdict → Verdict
then a b c rest = failed_or V1 a (failed_or V2 b (failed_or V3 c rest))

passes : (a b c : Option Place) (rest : Verdict) → then a b c Yes ≡ Yes → rest ≡ then a b c rest
passes None None None rest e = refl
passes (Some p) b c rest e = cc
passes None (Some p) c rest e = cc
passes None None (Some p) rest e = cc

fails : (a b c : Option Place) (rest v : Verdict) → v ≡ then a b c Yes → (v ≡ Yes → ⊥) → v ≡ then a b c rest
fails None None None rest v e differs = absurd (differs e)
fails (Some p) b c rest v e differs = e
fails None (Some p) c rest v e differs = e
fails None None (Some p) rest v e differs = e

module _ (h : List ℕ → List ℕ) (i : Image) (digests : List HeldDigest) where
  pub second_decides : blocks_tried h i digests ≡ Yes → tables_tried h i ≡ image_verdict h i digests
  unfolding image_verdict
  second_decides e = passes (digest_fault h i digests) (chain_fault h i) (block_fault h i) (tables_tried h i) e

  pub first_decides : (v : Verdict) → v ≡ blocks_tried h i digests → (v ≡ Yes → ⊥) → v ≡ image_verdict h i digests
  unfolding image_verdict
  first_decides v e differs = fails (digest_fault h i digests) (chain_fault h i) (block_fault h i) (tables_tried h i) v e differs

-- where the ids hold, the rest decides
pub after_ids : (h : List ℕ → List ℕ) (i : Image) (root : Option Place) → id_fault i ≡ None → root ≡ root_fault h i → rows_tried root i ≡ tables_tried h i
after_ids h i root ids is =
    ap (λ (r : Option Place). rows_tried r i) is ∙ sym (ap (λ (o : Option Place). failed_or V4 o (rows_tried (root_fault h i) i)) ids)
