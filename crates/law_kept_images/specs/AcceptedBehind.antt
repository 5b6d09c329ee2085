-- Images of a run behind a past that are accepted with digests of the past and of the run.
use Rattle.std.specs.Prelude.{ℕ, ◌≡◌, ◌⊎◌, ◌++◌, List}
use Rattle.sql_types.specs.declared.digest.Digest.{Digest}
use Rattle.sql_types.specs.declared.digest.HeldDigest.{HeldDigest}
use Rattle.sql_types.specs.declared.journal.JournalItem.{JournalItem}
use Rattle.spec_history.specs.Lists.{Text, Each}
use Rattle.spec_syntax.specs.Text.{statement_of}
use Rattle.format_image.specs.Image.{image_of_cut}
use Rattle.format_image.specs.ImageBytes.{IsImage}
use Rattle.spec_verify.specs.declared.place.Verdict.TheVariants.{Yes}
use Rattle.spec_verify.specs.Bytes.{verdict_of}
use Rattle.spec_protocol.specs.Seats.{KeptImage}
use Rattle.law_accepts.specs.Held.{held, IsHeld}
use Rattle.law_behind.specs.Past.{Past}
use Rattle.law_kept_images.specs.Accepted.{IsOfCut}

-- it is of a block that was closed in a journal with which the past begins: in the past itself, or in what it was
-- when the digest was issued
pub record IsHeldOfPast (h : List ℕ → List ℕ) (database : Text) (past : Past) (d : HeldDigest) : Type 0 where
  pub front : List JournalItem
  pub rest : List JournalItem
  pub begins : past.items ≡ front ++ rest
  pub is : IsHeld h statement_of database front d

-- it is one of these digests, of a block that is closed in the first so many items
abbrev pub IsHeldOfRun : List JournalItem → ℕ → List Digest → HeldDigest → Type 0
IsHeldOfRun J items G d = (issued : Digest) × IsOfCut J items G issued × (held issued ≡ d)

-- the verdict on the bytes is Yes with any digests of the past, and any of these, of blocks that are closed in the
-- image
abbrev pub IsAcceptedBehind : (List ℕ → List ℕ) → Text → Past → List JournalItem → List Digest → KeptImage
    → Type 0
IsAcceptedBehind h database past J G k = (digests : List HeldDigest)
    → Each (λ d. IsHeldOfPast h database past d ⊎ IsHeldOfRun J k.0 G d) digests
    → verdict_of h digests k.1 ≡ Yes

-- so it is if the image has a spelling
abbrev pub IsAcceptedBehindIfEncodable : (List ℕ → List ℕ) → Text → Past → List JournalItem → List Digest
    → KeptImage → Type 0
IsAcceptedBehindIfEncodable h database past J G k = IsImage (image_of_cut h statement_of database J k.0)
    → IsAcceptedBehind h database past J G k
