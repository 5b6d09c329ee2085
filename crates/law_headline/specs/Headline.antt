-- What is proved of every image that a run saved.
use Rattle.std.specs.Prelude.{ℕ, ◌≡◌, ◌<◌, ◌⊎◌, List, [], ◌∷◌, ◌++◌, map, Option}
use Rattle.base_fields.specs.Exact.{IsBytes}
use Rattle.sql_types.specs.declared.digest.Digest.{Digest}
use Rattle.sql_types.specs.declared.digest.HeldDigest.{HeldDigest}
use Rattle.sql_types.specs.declared.image.Image.{Image}
use Rattle.sql_types.specs.declared.journal.Journal.{Journal}
use Rattle.spec_model.specs.Journals.{cut}
use Rattle.spec_model.specs.LegalJournals.{IsLegalJournal}
use Rattle.spec_history.specs.Agree.{Agree}
use Rattle.spec_history.specs.Facts.{Fact}
use Rattle.spec_history.specs.Inputs.{InputSession}
use Rattle.spec_history.specs.Journals.{blocks}
use Rattle.spec_history.specs.Lists.{Each, In}
use Rattle.spec_history.specs.Meaning.{Meaning}
use Rattle.spec_history.specs.Transcripts.{Transcript}
use Rattle.spec_syntax.specs.Text.{statement_of}
use Rattle.format_image.specs.Image.{image_of, image_of_cut}
use Rattle.format_image.specs.ImageBytes.{image_bytes, IsImage, IsSpellingOf}
use Rattle.spec_protocol.specs.Seats.{KeptImage}
use Rattle.spec_verify.specs.declared.place.Verdict.TheVariants.{Yes}
use Rattle.spec_verify.specs.Bytes.{verdict_of}
use Rattle.audit_extract.specs.Each.{AgreeOnEach}
use Rattle.audit_extract.specs.Strings.{HasCollisionIn}
use Rattle.law_kept_images.specs.Accepted.{IsOfCut}
use Rattle.law_kept_images.specs.Held.{held}
use Rattle.law_kept_images.specs.LastImage.{last_image}
use Rattle.law_kept_images.specs.SessionOutput.{IsImageOf, IsMeaning}
use Rattle.law_headline.specs.Before.{ComesBefore, IsEarlier}
use Rattle.law_headline.specs.Shown.{AreShown}

-- The bytes are those of an image that has the same covered transactions and row versions as this one, under
-- each of the digests; or two different strings of bytes, hashed at one place of the two images, have one hash.
pub record IsSameUnder (h : List ℕ → List ℕ) (image : Image) (digests : List HeldDigest) (bytes : List ℕ)
    : Type 0 where
  pub other : Image
  pub is : IsImage other × IsSpellingOf bytes other
  pub same : AgreeOnEach image other digests ⊎ HasCollisionIn h image other

-- `verify` says Yes of the bytes of this image with these digests; and whatever it says Yes of with them has
-- the same covered transactions and row versions, or two different strings of bytes, hashed at one place of the two
-- images, have one hash.
pub record IsBoundBy (h : List ℕ → List ℕ) (image : Image) (digests : List HeldDigest) : Type 0 where
  pub yes : verdict_of h digests (image_bytes image) ≡ Yes
  pub alone : (bytes : List ℕ) → IsBytes bytes → verdict_of h digests bytes ≡ Yes
      → IsSameUnder h image digests bytes

module _ (h : List ℕ → List ℕ) (J : Journal) where
  -- the image to which the first so many items of the journal lead
  abbrev pub image_at : ℕ → Image
  image_at items = image_of_cut h statement_of J.database J.items items

  -- A saved image, where these digests were issued: it is that of its part of the journal, bound by any of the
  -- digests whose blocks are closed there.
  pub record IsSaved (G : List Digest) (k : KeptImage) : Type 0 where
    pub of_its_part : IsImageOf h statement_of J.database J.items k
    pub bound : (digests : List Digest) → Each (IsOfCut J.items k.0 G) digests
        → IsBoundBy h (image_at k.0) (map held digests)

-- what was answered in a run, and what was saved of it: the images that were kept, the journal, and the digests
-- that were issued
pub record Saved : Type 0 where
  pub X : List Transcript
  pub images : List KeptImage
  pub J : Journal
  pub G : List Digest

-- Every saved image is that of its committed transactions run by one thread in ledger order with the replies
-- given, and `verify` says Yes of it with every digest issued before; and whatever `verify` says Yes of with
-- those digests has the same covered transactions and row versions, or two different strings of bytes, hashed at one
-- place of the two images, have one hash. The input has these sessions, one of which may be a setup; the order is
-- that in which the facts of all transcripts were shown.
pub record Headline (h : List ℕ → List ℕ) (input : List InputSession) (setup : Option ℕ)
    (InOrder : Meaning → List Fact → Type 0) (s : Saved) : Type 0 where
  -- the journal has the transactions that the transcripts show as committed, with the replies given
  pub replies_given : (q : Meaning) → IsMeaning h statement_of q
      → Agree q s.J.database input setup s.X s.J.items s.G
  -- these are the replies of one thread that runs them in ledger order
  pub by_one_thread : IsLegalJournal statement_of s.J
  -- the images are those that the transcripts show
  pub shown : (q : Meaning) → IsMeaning h statement_of q → AreShown q s.X s.images
  -- each image, and that of the whole journal, is that of its part, bound by the digests of its blocks
  pub every_image : Each (IsSaved h s.J s.G) (s.images ++ last_image h s.J ∷ [])
  -- that of the whole journal by all digests at once
  pub all_digests : IsBoundBy h (image_of h statement_of s.J.database s.J.items) (map held s.G)
  -- All that was shown came in some order; and of the digests that were issued, each that came before an image in
  -- it is one of a block of the image.
  pub in_order : (q : Meaning) → IsMeaning h statement_of q → (facts : List Fact) × InOrder q facts
  pub issued_before : (q : Meaning) → IsMeaning h statement_of q → (facts : List Fact) → InOrder q facts
      → (d : Digest) → In d s.G → (items : ℕ) → ComesBefore d.block items facts
      → d.block < blocks (cut s.J.items items)
  -- so `verify` says Yes of the bytes of each image with any digests that came before it
  pub yes_with_earlier : (q : Meaning) → IsMeaning h statement_of q → (facts : List Fact) → InOrder q facts
      → (k : KeptImage) → In k s.images → (digests : List Digest) → Each (IsEarlier s.G k.0 facts) digests
      → verdict_of h (map held digests) k.1 ≡ Yes
