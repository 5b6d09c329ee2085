-- What is proved of every image that a run saved which goes on from a journal.
use Rattle.std.specs.Prelude.{ℕ, ◌≡◌, ◌≤◌, ◌<◌, ◌⊎◌, List, [], ◌∷◌, ◌++◌, length, map, Option}
use Rattle.sql_types.specs.declared.digest.Digest.{Digest}
use Rattle.sql_types.specs.declared.digest.HeldDigest.{HeldDigest}
use Rattle.sql_types.specs.declared.journal.Journal.{Journal}
use Rattle.spec_model.specs.Journals.{cut}
use Rattle.spec_model.specs.LegalJournals.{IsLegalJournal}
use Rattle.spec_history.specs.Facts.{Fact}
use Rattle.spec_history.specs.Inputs.{InputSession}
use Rattle.spec_history.specs.Journals.{blocks}
use Rattle.spec_history.specs.Lists.{Each, In}
use Rattle.spec_history.specs.Meaning.{Meaning}
use Rattle.spec_syntax.specs.Text.{statement_of}
use Rattle.format_image.specs.Image.{image_of}
use Rattle.spec_protocol.specs.Seats.{KeptImage}
use Rattle.spec_verify.specs.declared.place.Verdict.TheVariants.{Yes}
use Rattle.spec_verify.specs.Bytes.{verdict_of}
use Rattle.law_behind.specs.AgreeBehind.{AgreeBehind}
use Rattle.law_behind.specs.Past.{Past}
use Rattle.law_kept_images.specs.AcceptedBehind.{IsHeldOfPast, IsHeldOfRun}
use Rattle.law_kept_images.specs.Held.{held}
use Rattle.law_kept_images.specs.LastImage.{last_image}
use Rattle.law_kept_images.specs.SessionOutput.{IsImageOf, IsMeaning}
use Rattle.law_headline.specs.Before.{ComesBefore}
use Rattle.law_headline.specs.BeforeBehind.{IsHeldEarlier}
use Rattle.law_headline.specs.Headline.{IsBoundBy, Saved, image_at}
use Rattle.law_headline.specs.Shown.{AreShown}

-- A saved image, where these digests were issued behind this past: it is that of its part of the journal, which has
-- all of the past, bound by any digests of the past, as it was whenever they were issued, and any of the run whose
-- blocks are closed there.
pub record IsSavedBehind (h : List ℕ → List ℕ) (J : Journal) (past : Past) (G : List Digest) (k : KeptImage)
    : Type 0 where
  pub of_its_part : IsImageOf h statement_of J.database J.items k
  pub has_past : length past.items ≤ k.0
  pub bound : (digests : List HeldDigest)
      → Each (λ d. IsHeldOfPast h J.database past d ⊎ IsHeldOfRun J.items k.0 G d) digests
      → IsBoundBy h (image_at h J k.0) digests

-- Every saved image is that of its committed transactions run by one thread in ledger order with the replies given,
-- those of the past first, and `verify` says Yes of it with every digest issued before, in this run or ever of the
-- past; and whatever `verify` says Yes of with those digests has the same covered transactions and row versions, or
-- two different strings of bytes, hashed at one place of the two images, have one hash. The input has these sessions,
-- one of which may be a setup; the order is that in which the facts of all transcripts were shown.
pub record HeadlineBehind (h : List ℕ → List ℕ) (past : Past) (input : List InputSession) (setup : Option ℕ)
    (InOrder : Meaning → List Fact → Type 0) (s : Saved) : Type 0 where
  -- the journal begins with the past, and behind it has the transactions that the transcripts show as committed,
  -- with the replies given
  pub replies_given : (q : Meaning) → IsMeaning h statement_of q
      → AgreeBehind q s.J.database past input setup s.X s.J.items s.G
  -- these are the replies of one thread that runs them in ledger order
  pub by_one_thread : IsLegalJournal statement_of s.J
  -- the images are those that the transcripts show
  pub shown : (q : Meaning) → IsMeaning h statement_of q → AreShown q s.X s.images
  -- each image, and that of the whole journal, is that of its part, bound by the digests of its blocks
  pub every_image : Each (IsSavedBehind h s.J past s.G) (s.images ++ last_image h s.J ∷ [])
  -- that of the whole journal by all digests of the run at once
  pub all_digests : IsBoundBy h (image_of h statement_of s.J.database s.J.items) (map held s.G)
  -- All that was shown came in some order; and of the digests that were issued, each that came before an image in
  -- it is one of a block of the image.
  pub in_order : (q : Meaning) → IsMeaning h statement_of q → (facts : List Fact) × InOrder q facts
  pub issued_before : (q : Meaning) → IsMeaning h statement_of q → (facts : List Fact) → InOrder q facts
      → (d : Digest) → In d s.G → (items : ℕ) → ComesBefore d.block items facts
      → d.block < blocks (cut s.J.items items)
  -- so `verify` says Yes of the bytes of each image with any digests that came before it, and any of the past
  pub yes_with_earlier : (q : Meaning) → IsMeaning h statement_of q → (facts : List Fact) → InOrder q facts
      → (k : KeptImage) → In k s.images → (digests : List HeldDigest)
      → Each (λ d. IsHeldOfPast h s.J.database past d ⊎ IsHeldEarlier s.G k.0 facts d) digests
      → verdict_of h digests k.1 ≡ Yes
