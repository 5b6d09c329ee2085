-- What digests cover of an image, and what is said of the bytes of one.
use Rattle.std.specs.Prelude.{◌≡◌, ℕ, List, [], ◌++◌, codes, length, Option, Some, None, option_map}
use Rattle.std.specs.Fmt.{decimal}
use Rattle.sql_types.specs.declared.digest.HeldDigest.{HeldDigest}
use Rattle.sql_types.specs.declared.entry.TxEntry.{TxEntry}
use Rattle.sql_types.specs.declared.image.Image.{Image}
use Rattle.format_image.specs.ImageBytes.{IsImage, IsSpellingOf}
use Rattle.spec_verify.specs.declared.place.Verdict.{Verdict}
use Rattle.spec_verify.specs.declared.place.Verdict.TheVariants.{Yes}
use Rattle.spec_verify.specs.Bytes.{verdict_of}
use Rattle.spec_verify.specs.Covered.{entries_upto}
use Rattle.spec_verify.specs.Verdict.{image_verdict}
use Rattle.audit_extract.specs.Each.{last_of}
use Rattle.audit_answers.specs.declared.coverage.Coverage.{Coverage}
use Rattle.audit_answers.specs.declared.coverage.Judgement.{Judgement}
use Rattle.audit_answers.specs.declared.coverage.Judgement.TheVariants.{Accepted, Refused}

-- the bytes are those of this image, which is accepted with these digests
abbrev pub IsAccepted : (List ℕ → List ℕ) → List HeldDigest → List ℕ → Image → Type 0
IsAccepted h held bytes i = IsImage i × IsSpellingOf bytes i × (image_verdict h i held ≡ Yes)

-- the greatest block of a digest, if there is a digest
abbrev pub newest_block : List HeldDigest → Option ℕ
newest_block digests = option_map (λ (d : HeldDigest). d.block) (last_of digests)

-- the entries of the blocks up to this one, or none where there is none
abbrev pub entries_covered : Image → Option ℕ → List TxEntry
entries_covered i None = []
entries_covered i (Some block) = entries_upto i block

-- the transactions of the blocks up to the greatest block of a digest, among all
abbrev pub coverage_of : Image → List HeldDigest → Coverage
coverage_of i digests =
    record {
      covered = length (entries_covered i (newest_block digests));
      transactions = length i.entries;
      newest = newest_block digests;
      blocks = length i.blocks;
    }

-- the blocks that are covered, in words
abbrev pub blocks_text : Option ℕ → ℕ → List ℕ
blocks_text None blocks = codes "no block of " ++ decimal blocks
blocks_text (Some newest) blocks = codes "blocks 0 to " ++ decimal newest ++ codes " of " ++ decimal blocks

-- what is covered, in words: `covers 16 of 22 transactions, blocks 0 to 3 of 5`
abbrev pub coverage_text : Coverage → List ℕ
coverage_text c =
    codes "covers " ++ decimal c.covered ++ codes " of " ++ decimal c.transactions ++ codes " transactions, "
    ++ blocks_text c.newest c.blocks

-- what the digests cover of an image that is accepted, or the verdict on it, which isn't Yes
abbrev pub IsImageJudged : (List ℕ → List ℕ) → List HeldDigest → Image → Judgement → Type 0
IsImageJudged h held i (Accepted coverage) = (image_verdict h i held ≡ Yes) × (coverage ≡ coverage_of i held)
IsImageJudged h held i (Refused verdict) = (verdict ≡ Yes → ⊥) × (verdict ≡ image_verdict h i held)

-- the bytes are those of an image that is accepted with the digests, which cover this of it
pub record IsCovered (h : List ℕ → List ℕ) (held : List HeldDigest) (bytes : List ℕ) (coverage : Coverage)
    : Type 0 where
  pub i : Image
  pub accepted : IsAccepted h held bytes i
  pub verdict : verdict_of h held bytes ≡ Yes
  pub is : coverage ≡ coverage_of i held

-- what the digests cover of the image that the bytes are, or the verdict on them, which isn't Yes
abbrev pub IsJudged : (List ℕ → List ℕ) → List HeldDigest → List ℕ → Judgement → Type 0
IsJudged h held bytes (Accepted coverage) = IsCovered h held bytes coverage
IsJudged h held bytes (Refused verdict) = (verdict ≡ Yes → ⊥) × (verdict ≡ verdict_of h held bytes)
