-- In what order a run showed its facts, and which digests came before an image.
use Rattle.std.specs.Prelude.{ℕ, ◌≡◌, List, ◌∷◌, ◌++◌, None, Some}
use Rattle.sql_types.specs.declared.digest.Digest.{Digest}
use Rattle.sql_types.specs.declared.journal.JournalItem.{JournalItem}
use Rattle.spec_history.specs.Facts.{Fact, digest, image}
use Rattle.spec_history.specs.Inputs.{InputLine}
use Rattle.spec_history.specs.Lists.{Text, In}
use Rattle.spec_history.specs.Meaning.{Meaning}
use Rattle.spec_history.specs.StepOrder.{Row, IsStepOrder, rows_facts}
use Rattle.spec_history.specs.Transcripts.{Transcript}
use Rattle.law_order.specs.OneOrder.{AreInOneOrder, SessionFact, facts_in_order}

-- in these facts the digest of a block is shown, and behind it an image of so many items
pub record ComesBefore (block items : ℕ) (facts : List Fact) : Type 0 where
  pub hash : Text
  pub before : List Fact
  pub between : List Fact
  pub after : List Fact
  pub is : facts ≡ before ++ digest block hash ∷ between ++ image items ∷ after

-- one of these digests, shown in these facts before an image of so many items
abbrev pub IsEarlier : List Digest → ℕ → List Fact → Digest → Type 0
IsEarlier G items facts d = In d G × ComesBefore d.block items facts

-- On one thread all that the transcripts show came in the order of the input's lines.
pub record InOrderOfLines (size : ℕ) (lines : List InputLine) (X : List Transcript) (J : List JournalItem)
    (q : Meaning) (facts : List Fact) : Type 0 where
  pub rows : List Row
  pub order : IsStepOrder q size lines X J rows
  pub are : facts ≡ rows_facts q (λ s. None) rows

-- Of sessions side by side all that the transcripts show came in one order, along which no mark falls, with that
-- of the first session, the setup, before all else.
pub record InOneOrder (X : List Transcript) (J : List JournalItem) (q : Meaning) (facts : List Fact)
    : Type 0 where
  pub order : List SessionFact
  pub is : AreInOneOrder q (Some 0) X J order
  pub are : facts ≡ facts_in_order order
