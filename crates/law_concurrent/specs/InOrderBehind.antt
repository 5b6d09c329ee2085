-- The one order of all that a run behind a past showed, and the images that are accepted along it.
use Rattle.std.specs.Prelude.{ℕ, ◌≡◌, ◌⊎◌, List, ◌∷◌, ◌++◌, Some}
use Rattle.sql_types.specs.declared.digest.HeldDigest.{HeldDigest}
use Rattle.sql_types.specs.declared.journal.JournalItem.{JournalItem}
use Rattle.spec_history.specs.Facts.{image}
use Rattle.spec_history.specs.Lists.{Text, Each, Some_of, In}
use Rattle.spec_history.specs.Meaning.{Meaning}
use Rattle.spec_history.specs.Transcripts.{Transcript}
use Rattle.law_order.specs.OneOrder.{SessionFact}
use Rattle.spec_verify.specs.declared.place.Verdict.TheVariants.{Yes}
use Rattle.spec_verify.specs.Bytes.{verdict_of}
use Rattle.spec_protocol.specs.Seats.{KeptImage}
use Rattle.law_behind.specs.OrderBehind.{AreInOneOrderBehind}
use Rattle.law_behind.specs.Past.{Past}
use Rattle.law_kept_images.specs.AcceptedBehind.{IsHeldOfPast}
use Rattle.law_concurrent.specs.InOrder.{digests_shown}

-- the verdict on an image is Yes, with any digests that were shown before it and any of the past
abbrev pub IsAcceptedBehindPast : (List ℕ → List ℕ) → Text → Past → List SessionFact → KeptImage → Type 0
IsAcceptedBehindPast h database past earlier k = (digests : List HeldDigest)
    → Each (λ d. IsHeldOfPast h database past d ⊎ In d (digests_shown database earlier)) digests
    → verdict_of h digests k.1 ≡ Yes

-- All that these transcripts show stands in one order behind the past, with the first session as `setup`, and each
-- image that was kept is accepted with the digests before it, whichever session was issued them, and with those of
-- the past.
pub record RanInOneOrderBehind (h : List ℕ → List ℕ) (q : Meaning) (database : Text) (past : Past)
    (X : List Transcript) (kept : List (List KeptImage)) (J : List JournalItem) : Type 0 where
  pub order : List SessionFact
  pub is : AreInOneOrderBehind q past (Some 0) X J order
  pub accepted : (earlier later : List SessionFact) (name : Text) (k : KeptImage) → Some_of (In k) kept
      → order ≡ earlier ++ (name, image k.0) ∷ later → IsAcceptedBehindPast h database past earlier k
