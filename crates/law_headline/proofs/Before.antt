-- An image has the blocks of the digests that came before it.
use Rattle.std.proofs.Common.{◌≡◌, ◌<◌, ℕ, List, [], ◌∷◌, ◌++◌, None, sym, subst, ◌∙◌}
use Rattle.sql_types.specs.declared.journal.JournalItem.{JournalItem}
use Rattle.spec_model.specs.Journals.{cut}
use Rattle.spec_history.specs.Facts.{Fact, digest, image}
use Rattle.spec_history.specs.Inputs.{InputLine}
use Rattle.spec_history.specs.Journals.{blocks}
use Rattle.spec_history.specs.Lists.{Text, Each}
use Rattle.spec_history.specs.Marks.{ClosedIn, ImagesHave}
use Rattle.spec_history.specs.Meaning.{Meaning}
use Rattle.spec_history.specs.Serial.{IsLegal}
use Rattle.spec_history.specs.StepOrder.{Row, IsStepOrder, rows_facts}
use Rattle.spec_history.specs.Transcripts.{Transcript}
use Rattle.law_kept_images.specs.Outcome.{IsClosedThere}
use Rattle.law_headline.specs.Before.{ComesBefore, InOneOrder, InOrderOfLines}

-- what holds of each of some elements holds of one in their middle
pub each_at : {A : Type 0} (P : A → Type 0) (xs : List A) (x : A) (ys : List A) → Each P (xs ++ x ∷ ys) → P x
each_at P [] x ys h = h.0
each_at P (y ∷ xs) x ys h = each_at P xs x ys h.1

-- ---- on one thread

-- the digests before an image in step order are of blocks that are closed in it
abbrev pub AreClosedBefore : Type 0
AreClosedBefore = (q : Meaning) (N : ℕ) (lines : List InputLine) (X : List Transcript) (J : List JournalItem) (rows : List Row)
    → IsLegal q J → IsStepOrder q N lines X J rows → (before after : List Fact) (items : ℕ)
    → rows_facts q (λ s. None) rows ≡ before ++ image items ∷ after → Each (IsClosedThere J items) before

pub closed_in_order_of_lines : AreClosedBefore → (q : Meaning) (size : ℕ) (lines : List InputLine) (X : List Transcript) (J : List JournalItem) → IsLegal q J
    → (facts : List Fact) → InOrderOfLines size lines X J q facts → (block items : ℕ) → ComesBefore block items facts
    → block < blocks J → block < blocks (cut J items)
closed_in_order_of_lines law q size lines X J legal facts o block items c within =
    each_at (IsClosedThere J items) c.before (digest block c.hash) c.between
    (law q size lines X J o.rows legal o.order (c.before ++ digest block c.hash ∷ c.between) c.after items (sym o.are ∙ c.is))
    within

-- ---- side by side

module _ (J : List JournalItem) where
  has_block : (block items : ℕ) (hash : Text) (before between after : List Fact) → ImagesHave J (before ++ digest block hash ∷ between ++ image items ∷ after)
      → block < blocks (cut J items)
  has_block block items hash [] between after h = each_at (ClosedIn J block) between (image items) after h.0
  has_block block items hash (digest b other ∷ before) between after h = has_block block items hash before between after h.1
  has_block block items hash (g ∷ before) between after h = has_block block items hash before between after h

  pub closed_by_images : (facts : List Fact) → ImagesHave J facts → (block items : ℕ) → ComesBefore block items facts → block < blocks (cut J items)
  closed_by_images facts have block items c = has_block block items c.hash c.before c.between c.after (subst (ImagesHave J) c.is have)

  pub closed_in_one_order : (q : Meaning) (X : List Transcript) (facts : List Fact) → InOneOrder X J q facts → (block items : ℕ) → ComesBefore block items facts
      → block < blocks (cut J items)
  closed_in_one_order q X facts o block items c =
      has_block block items c.hash c.before c.between c.after (subst (ImagesHave J) (sym o.are ∙ c.is) o.is.images)
