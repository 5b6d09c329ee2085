-- The verdict on bytes.
use Rattle.std.specs.Prelude.{ℕ, List, Option, Some, None}
use Rattle.base_fields.specs.Readers.{whole}
use Rattle.sql_types.specs.declared.digest.HeldDigest.{HeldDigest}
use Rattle.sql_types.specs.declared.image.Image.{Image}
use Rattle.format_image.specs.ImageReading.{image_at}
use Rattle.spec_verify.specs.declared.place.Invariant.TheVariants.{V0}
use Rattle.spec_verify.specs.declared.place.Place.TheVariants.{Whole}
use Rattle.spec_verify.specs.declared.place.Verdict.{Verdict}
use Rattle.spec_verify.specs.declared.place.Verdict.TheVariants.{No}
use Rattle.spec_verify.specs.Verdict.{image_verdict}

module _ (h : List ℕ → List ℕ) (digests : List HeldDigest) where
  -- of the image that the bytes are, if they are one
  abbrev pub verdict_read : Option Image → Verdict
  verdict_read None = No V0 Whole
  verdict_read (Some i) = image_verdict h i digests

  -- the first invariant that fails of these bytes and these digests, with its least place
  unfoldable pub verdict_of : List ℕ → Verdict
  verdict_of bytes = verdict_read (whole image_at bytes)
