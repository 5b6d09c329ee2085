-- In what order a run behind a past showed its facts, and which digests an auditor holds that came before an image.
use Rattle.std.specs.Prelude.{ℕ, ◌≡◌, List, None, Some}
use Rattle.sql_types.specs.declared.digest.Digest.{Digest}
use Rattle.sql_types.specs.declared.digest.HeldDigest.{HeldDigest}
use Rattle.sql_types.specs.declared.journal.JournalItem.{JournalItem}
use Rattle.spec_history.specs.Facts.{Fact}
use Rattle.spec_history.specs.Inputs.{InputLine}
use Rattle.spec_history.specs.Meaning.{Meaning}
use Rattle.spec_history.specs.StepOrder.{Row, rows_facts}
use Rattle.spec_history.specs.Transcripts.{Transcript}
use Rattle.law_behind.specs.OrderBehind.{AreInOneOrderBehind, IsStepOrderBehind}
use Rattle.law_behind.specs.Past.{Past}
use Rattle.law_order.specs.OneOrder.{SessionFact, facts_in_order}
use Rattle.law_kept_images.specs.Held.{held}
use Rattle.law_headline.specs.Before.{IsEarlier}

-- it is one of these digests, shown in these facts before an image of so many items
abbrev pub IsHeldEarlier : List Digest → ℕ → List Fact → HeldDigest → Type 0
IsHeldEarlier G items facts d = (issued : Digest) × IsEarlier G items facts issued × (held issued ≡ d)

-- On one thread all that the transcripts show came in the order of the input's lines, behind the past.
pub record InOrderOfLinesBehind (size : ℕ) (past : Past) (lines : List InputLine) (X : List Transcript)
    (J : List JournalItem) (q : Meaning) (facts : List Fact) : Type 0 where
  pub rows : List Row
  pub order : IsStepOrderBehind q size past lines X J rows
  pub are : facts ≡ rows_facts q (λ s. None) rows

-- Of sessions side by side all that the transcripts show came in one order behind the past, along which no mark
-- falls, with that of the first session, the setup, before all else.
pub record InOneOrderBehind (past : Past) (X : List Transcript) (J : List JournalItem) (q : Meaning)
    (facts : List Fact) : Type 0 where
  pub order : List SessionFact
  pub is : AreInOneOrderBehind q past (Some 0) X J order
  pub are : facts ≡ facts_in_order order
