-- Step order, and one order of all that is shown, behind a past.
use Rattle.std.specs.Prelude.{ℕ, ◌≡◌, List, ◌∷◌, ◌++◌, length, Option, Some, None}
use Rattle.sql_types.specs.declared.journal.JournalItem.{JournalItem}
use Rattle.spec_model.specs.Journals.{tx_count}
use Rattle.spec_history.specs.ExactRefusals.{AreExact}
use Rattle.spec_history.specs.Facts.{met, facts_of}
use Rattle.spec_history.specs.Inputs.{InputLine}
use Rattle.spec_history.specs.Lists.{Text, Each, Some_of, At}
use Rattle.spec_history.specs.Marks.{ImagesHave, MarksRise}
use Rattle.spec_history.specs.Meaning.{Meaning}
use Rattle.spec_history.specs.StepOrder.{Counted, ItemsInOrder, Row, RowsInOrder, entries_of, rows_facts}
use Rattle.spec_history.specs.Transactions.{blank}
use Rattle.spec_history.specs.Transcripts.{Transcript}
use Rattle.law_order.specs.OneOrder.{IsOpenElsewhere, SessionFact, facts_in_order, facts_of_session, named}
use Rattle.law_behind.specs.Past.{Past, since, unclosed}

-- ---- step order

-- the transcripts are one list in the order of the input's lines, in which ids and marks count on from the past's,
-- and the new items stand in its order behind those of the past, of which some may be in no block; N is the block
-- size
pub record IsStepOrderBehind (q : Meaning) (N : ℕ) (past : Past) (lines : List InputLine) (X : List Transcript)
    (J : List JournalItem) (rows : List Row) : Type 0 where
  pub lines_answered : RowsInOrder X lines rows
  pub entries : (i : ℕ) (x : Transcript) → At X i x → entries_of i rows ≡ x.entries
  pub counted : Counted J past.next (tx_count past.items) (rows_facts q (λ s. None) rows)
  pub items : ItemsInOrder N (unclosed past.items) (length past.items) (since past J)
      (rows_facts q (λ s. None) rows)

-- the transcripts are one list in this order, and E20 is exact in it
pub record StepOrderBehind (q : Meaning) (N : ℕ) (past : Past) (lines : List InputLine) (X : List Transcript)
    (J : List JournalItem) : Type 0 where
  pub rows : List Row
  pub order : IsStepOrderBehind q N past lines X J rows
  pub lock_refusals : AreExact q (length X) J (tx_count past.items) (λ s. None) (λ s. blank) rows

-- ---- one order

-- all facts of these transcripts, each at the moment from which it was certain; ids and marks count on from the
-- past's
pub record AreInOneOrderBehind (q : Meaning) (past : Past) (setup : Option ℕ) (X : List Transcript)
    (J : List JournalItem) (order : List SessionFact) : Type 0 where
  pub parts : (i : ℕ) (x : Transcript) → At X i x → facts_of_session x.session order ≡ facts_of q x
  pub no_others : Each (λ f. Some_of (λ x. x.session ≡ f.0) X) order
  pub setup_first : (u : ℕ) (y : Transcript) → setup ≡ Some u → At X u y
      → (later : List SessionFact) × (order ≡ named y.session (facts_of q y) ++ later)
  pub marks : MarksRise J (facts_in_order order)
  pub counted : Counted J past.next (tx_count past.items) (facts_in_order order)
  pub images : ImagesHave J (facts_in_order order)
  pub holders : (earlier later : List SessionFact) (name text : Text) (holder : ℕ)
      → order ≡ earlier ++ (name, met text holder) ∷ later → IsOpenElsewhere name holder earlier

-- there is such an order
pub record HaveOneOrderBehind (q : Meaning) (past : Past) (setup : Option ℕ) (X : List Transcript)
    (J : List JournalItem) : Type 0 where
  pub order : List SessionFact
  pub is : AreInOneOrderBehind q past setup X J order
