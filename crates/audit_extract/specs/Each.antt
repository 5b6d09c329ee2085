-- What several digests cover of two images.
use Rattle.std.specs.Prelude.{ℕ, ◌≡◌, ◌⊎◌, nat_lt, if◌then◌else◌, List, [], ◌∷◌, Option, Some, None}
use Rattle.std.specs.List.{AllByRecursion}
use Rattle.sql_types.specs.declared.digest.HeldDigest.{HeldDigest}
use Rattle.sql_types.specs.declared.image.Image.{Image}
use Rattle.format_image.specs.ImageBytes.{IsImage, IsSpellingOf}
use Rattle.spec_verify.specs.Covered.{covered_of}
use Rattle.audit_extract.specs.Strings.{HasCollisionIn}

-- all that each of the digests covers is the same in both
abbrev pub AgreeOnEach : Image → Image → List HeldDigest → Type 0
AgreeOnEach i j digests = AllByRecursion (λ (d : HeldDigest). covered_of i d.block ≡ covered_of j d.block) digests

-- the digest of the greatest block among one and those behind it, and of several of that block the first
abbrev pub last_from : HeldDigest → List HeldDigest → HeldDigest
last_from last [] = last
last_from last (d ∷ ds) = last_from (if nat_lt last.block d.block then d else last) ds

-- the digest of the greatest block, the first of these
abbrev pub last_of : List HeldDigest → Option HeldDigest
last_of [] = None
last_of (d ∷ ds) = Some (last_from d ds)

-- two strings of bytes are those of images in which all that each of the digests covers is the same,
-- or two different strings of bytes, hashed at one place of the two images, have one hash
pub record OneHistory (h : List ℕ → List ℕ) (digests : List HeldDigest) (a b : List ℕ) : Type 0 where
  pub first : Image
  pub second : Image
  pub is_first : IsImage first × IsSpellingOf a first
  pub is_second : IsImage second × IsSpellingOf b second
  pub agree : AgreeOnEach first second digests ⊎ HasCollisionIn h first second
