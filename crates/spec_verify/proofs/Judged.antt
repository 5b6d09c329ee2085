-- The verdict on bytes is that on their image.
use Rattle.std.proofs.Common.{◌≡◌, ◌∙◌, ℕ, List, Option, Some, None, refl, sym, ap, inl}
use Rattle.base_fields.specs.Exact.{IsBytes}
use Rattle.base_fields.specs.Readers.{whole}
use Rattle.sql_types.specs.declared.digest.HeldDigest.{HeldDigest}
use Rattle.sql_types.specs.declared.image.Image.{Image}
use Rattle.format_image.specs.ImageBytes.{image_bytes, IsImage, IsSpellingOf}
use Rattle.format_image.specs.ImageReading.{image_at}
use Rattle.format_image.proofs.ImageExact.{found_of, only_of}
use Rattle.spec_verify.specs.declared.place.Invariant.TheVariants.{V0}
use Rattle.spec_verify.specs.declared.place.Place.TheVariants.{Whole}
use Rattle.spec_verify.specs.declared.place.Verdict.TheVariants.{No}
use Rattle.spec_verify.specs.Verdict.{image_verdict}
use Rattle.spec_verify.specs.Bytes.{verdict_read, verdict_of}

pub of_spelling : (h : List ℕ → List ℕ) (digests : List HeldDigest) (bytes : List ℕ) (i : Image) → IsImage i → IsSpellingOf bytes i → verdict_of h digests bytes ≡ image_verdict h i digests
unfolding verdict_of
of_spelling h digests bytes i is spelling = ap (verdict_read h digests) (only_of bytes i is spelling)

pub of_image : (h : List ℕ → List ℕ) (digests : List HeldDigest) (i : Image) → IsImage i → verdict_of h digests (image_bytes i) ≡ image_verdict h i digests
of_image h digests i is = of_spelling h digests (image_bytes i) i is (inl refl)

none_by : (h : List ℕ → List ℕ) (digests : List HeldDigest) (bytes : List ℕ) (found : Option Image) → found ≡ whole image_at bytes → IsBytes bytes
    → ((i : Image) → IsImage i → IsSpellingOf bytes i → ⊥) → verdict_read h digests found ≡ No V0 Whole
none_by h digests bytes None e fits other = refl
none_by h digests bytes (Some i) e fits other = let f = found_of bytes (Some i) fits e in absurd (other i f.0 f.1)

pub of_none : (h : List ℕ → List ℕ) (digests : List HeldDigest) (bytes : List ℕ) → IsBytes bytes → ((i : Image) → IsImage i → IsSpellingOf bytes i → ⊥) → verdict_of h digests bytes ≡ No V0 Whole
unfolding verdict_of
of_none h digests bytes fits other = none_by h digests bytes (whole image_at bytes) refl fits other

-- one image is read from both
pub of_two : (h : List ℕ → List ℕ) (digests : List HeldDigest) (a b : List ℕ) → whole image_at a ≡ whole image_at b → verdict_of h digests a ≡ verdict_of h digests b
unfolding verdict_of
of_two h digests a b same = ap (verdict_read h digests) same

pub of_two_spellings : (h : List ℕ → List ℕ) (digests : List HeldDigest) (a b : List ℕ) (i : Image) → IsImage i → IsSpellingOf a i → IsSpellingOf b i → verdict_of h digests a ≡ verdict_of h digests b
of_two_spellings h digests a b i is first second = of_spelling h digests a i is first ∙ sym (of_spelling h digests b i is second)
