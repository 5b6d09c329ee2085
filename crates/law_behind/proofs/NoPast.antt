-- Behind no past nothing else is meant than without one.
use Rattle.std.proofs.Common.{◌≡◌, ◌↔◌, ℕ, ◌≤◌, List, [], ◌∷◌, Option, refl, arith}
use Rattle.sql_types.specs.declared.journal.JournalItem.{JournalItem}
use Rattle.spec_history.specs.Agree.{Agree, IdsAssignedOnce, JournalIsTheirs}
use Rattle.spec_history.specs.Digests.{Digest}
use Rattle.spec_history.specs.ExactRefusals.{StepOrder}
use Rattle.spec_history.specs.Facts.{Fact, began, said, failed, met, placed, passed, over, digest, image, no_digest, mark_of, Shows, facts_of}
use Rattle.spec_history.specs.Inputs.{InputLine, InputSession}
use Rattle.spec_history.specs.Lists.{Text, Each}
use Rattle.spec_history.specs.Meaning.{Meaning}
use Rattle.spec_history.specs.StepOrder.{IsStepOrder, Row}
use Rattle.spec_history.specs.Transcripts.{Transcript}
use Rattle.spec_history.specs.Worlds.{first}
use Rattle.law_order.specs.OneOrder.{AreInOneOrder, HaveOneOrder, SessionFact}
use Rattle.law_behind.specs.AgreeBehind.{AgreeBehind, CountsThePast, HasItems, IdsAssignedFrom, JournalGoesOn}
use Rattle.law_behind.specs.OrderBehind.{AreInOneOrderBehind, HaveOneOrderBehind, IsStepOrderBehind, StepOrderBehind}
use Rattle.law_behind.specs.Past.{IsPast, behind, no_past}

pub is_past : (q : Meaning) → IsPast q no_past
is_past q = record {
  legal = record { replays = tt; ids_differ = tt; closings = tt };
  ids = tt;
  some = omega arith;
}

pub same_world : behind no_past ≡ first
same_world = refl

-- ---- what counts a past that has nothing

all_marks : (J : List JournalItem) (gs : List Fact) → Shows (mark_of J) (λ m. 0 ≤ m) gs
all_marks J [] = tt
all_marks J (g ∷ gs) = (each (mark_of J g), all_marks J gs)
  where
    each : (ms : List ℕ) → Each (λ m. 0 ≤ m) ms
    each [] = tt
    each (m ∷ ms) = (omega arith, each ms)

all_images : (gs : List Fact) → Each (HasItems 0) gs
all_images [] = tt
all_images (image items ∷ gs) = (omega arith, all_images gs)
all_images (began id explicit ∷ gs) = (tt, all_images gs)
all_images (said line ∷ gs) = (tt, all_images gs)
all_images (failed text ∷ gs) = (tt, all_images gs)
all_images (met text holder ∷ gs) = (tt, all_images gs)
all_images (placed place ∷ gs) = (tt, all_images gs)
all_images (passed n back ∷ gs) = (tt, all_images gs)
all_images (over ∷ gs) = (tt, all_images gs)
all_images (digest b hash ∷ gs) = (tt, all_images gs)
all_images (no_digest ∷ gs) = (tt, all_images gs)

counts_none : (q : Meaning) (X : List Transcript) (J : List JournalItem) → CountsThePast q no_past X J
counts_none q X J = record {
  marks = λ i x h. all_marks J (facts_of q x);
  images = λ i x h. all_images (facts_of q x);
  none = λ i x h no. refl;
}

-- ---- agreement

ids_there : (q : Meaning) (X : List Transcript) → IdsAssignedFrom q 1 X → IdsAssignedOnce q X
ids_there q X a = record { k = a.k; session = a.session; one = a.one; all = a.all; rise = a.rise }

ids_back : (q : Meaning) (X : List Transcript) → IdsAssignedOnce q X → IdsAssignedFrom q 1 X
ids_back q X a = record { k = a.k; session = a.session; one = a.one; all = a.all; rise = a.rise }

journal_there : (q : Meaning) (input : List InputSession) (X : List Transcript) (J : List JournalItem) → JournalGoesOn q no_past input X J → JournalIsTheirs q input X J
journal_there q input X J a = record { legal = a.legal; no_others = a.no_others; items = a.items; ends = a.ends }

journal_back : (q : Meaning) (input : List InputSession) (X : List Transcript) (J : List JournalItem) → JournalIsTheirs q input X J → JournalGoesOn q no_past input X J
journal_back q input X J a = record { legal = a.legal; begins = refl; no_others = a.no_others; items = a.items; ends = a.ends }

module _ (q : Meaning) (db : Text) (input : List InputSession) (setup : Option ℕ) (X : List Transcript) (J : List JournalItem) (G : List Digest) where
  agree_there : AgreeBehind q db no_past input setup X J G → Agree q db input setup X J G
  agree_there a = record {
    statements_are_answered = a.statements_are_answered;
    ids_are_assigned_once = ids_there q X a.ids_are_assigned_once;
    journal_is_theirs = journal_there q input X J a.journal_goes_on;
    ended_have_their_replies = a.ended_have_their_replies;
    marks_never_fall = a.marks_never_fall;
    digests_are_the_journals = a.digests_are_the_journals;
    lock_refusals_name_holders = a.lock_refusals_name_holders;
    control_is_refused_in_place = a.control_is_refused_in_place;
    else_no_memory = a.else_no_memory;
  }

  agree_back : Agree q db input setup X J G → AgreeBehind q db no_past input setup X J G
  agree_back a = record {
    statements_are_answered = a.statements_are_answered;
    ids_are_assigned_once = ids_back q X a.ids_are_assigned_once;
    journal_goes_on = journal_back q input X J a.journal_is_theirs;
    ended_have_their_replies = a.ended_have_their_replies;
    marks_never_fall = a.marks_never_fall;
    past_counts = counts_none q X J;
    digests_are_the_journals = a.digests_are_the_journals;
    lock_refusals_name_holders = a.lock_refusals_name_holders;
    control_is_refused_in_place = a.control_is_refused_in_place;
    else_no_memory = a.else_no_memory;
  }

  pub same_agreement : AgreeBehind q db no_past input setup X J G ↔ Agree q db input setup X J G
  same_agreement = (agree_there, agree_back)

-- ---- step order

module _ (q : Meaning) (N : ℕ) (lines : List InputLine) (X : List Transcript) (J : List JournalItem) where
  order_there : (rows : List Row) → IsStepOrderBehind q N no_past lines X J rows → IsStepOrder q N lines X J rows
  order_there rows a = record { lines_answered = a.lines_answered; entries = a.entries; counted = a.counted; items = a.items }

  order_back : (rows : List Row) → IsStepOrder q N lines X J rows → IsStepOrderBehind q N no_past lines X J rows
  order_back rows a = record { lines_answered = a.lines_answered; entries = a.entries; counted = a.counted; items = a.items }

  pub same_step_order : StepOrderBehind q N no_past lines X J ↔ StepOrder q N lines X J
  same_step_order = (
    λ a. record { rows = a.rows; order = order_there a.rows a.order; lock_refusals = a.lock_refusals },
    λ a. record { rows = a.rows; order = order_back a.rows a.order; lock_refusals = a.lock_refusals },
  )

-- ---- one order

module _ (q : Meaning) (setup : Option ℕ) (X : List Transcript) (J : List JournalItem) where
  one_there : (order : List SessionFact) → AreInOneOrderBehind q no_past setup X J order → AreInOneOrder q setup X J order
  one_there order a = record {
    parts = a.parts;
    no_others = a.no_others;
    setup_first = a.setup_first;
    marks = a.marks;
    counted = a.counted;
    images = a.images;
    holders = a.holders;
  }

  one_back : (order : List SessionFact) → AreInOneOrder q setup X J order → AreInOneOrderBehind q no_past setup X J order
  one_back order a = record {
    parts = a.parts;
    no_others = a.no_others;
    setup_first = a.setup_first;
    marks = a.marks;
    counted = a.counted;
    images = a.images;
    holders = a.holders;
  }

  pub same_one_order : HaveOneOrderBehind q no_past setup X J ↔ HaveOneOrder q setup X J
  same_one_order = (
    λ a. record { order = a.order; is = one_there a.order a.is },
    λ a. record { order = a.order; is = one_back a.order a.is },
  )
