-- What stands in one order does so for the same transcripts in another list, and by another meaning.
use Rattle.std.proofs.Common.{◌≡◌, ℕ, List, [], ◌∷◌, ◌++◌, Option, Some, refl, sym, subst, ◌∙◌, inl, inr}
use Rattle.sql_types.specs.declared.journal.JournalItem.{JournalItem}
use Rattle.spec_history.specs.Facts.{Fact, facts_of}
use Rattle.spec_history.specs.Lists.{Some_of, At, In}
use Rattle.spec_history.specs.Meaning.{Meaning}
use Rattle.spec_history.specs.Transcripts.{Transcript}
use Rattle.spec_history.proofs.Trace.{each_weaker}
use Rattle.law_order.specs.OneOrder.{SessionFact, AreInOneOrder, named}
use Rattle.law_behind.specs.OrderBehind.{AreInOneOrderBehind}
use Rattle.law_behind.specs.Past.{Past, no_past}
use Rattle.law_concurrent.proofs.SameTranscripts.{at_of, in_at}

some_in : (P : Transcript → Type 0) (T : List Transcript) (x : Transcript) → In x T → P x → Some_of P T
some_in P [] x i p = absurd i
some_in P (y ∷ T) x (inl e) p = inl (subst P (sym e) p)
some_in P (y ∷ T) x (inr i) p = inr (some_in P T x i p)

some_else : (P : Transcript → Type 0) (X T : List Transcript) → ((x : Transcript) → In x X → In x T) → Some_of P X → Some_of P T
some_else P [] T f h = absurd h
some_else P (x ∷ X) T f (inl p) = some_in P T x (f x (inl refl)) p
some_else P (x ∷ X) T f (inr h) = some_else P X T (λ y i. f y (inr i)) h

-- `setup` comes first among these
pub of_same : (q : Meaning) (past : Past) (X : List Transcript) (J : List JournalItem) (order : List SessionFact) (u : ℕ) (y : Transcript) (T : List Transcript) → At X u y → ((x : Transcript) → In x X → In x (y ∷ T)) → ((x : Transcript) → In x (y ∷ T) → In x X)
    → AreInOneOrderBehind q past (Some u) X J order → AreInOneOrderBehind q past (Some 0) (y ∷ T) J order
of_same q past X J order u y T there to from h = record {
  parts = λ i x a. let p = at_of X x (from x (in_at (y ∷ T) i x a)) in h.parts p.0 x p.1;
  no_others = each_weaker (λ (f : SessionFact). Some_of (λ x. x.session ≡ f.0) X) (λ f. Some_of (λ x. x.session ≡ f.0) (y ∷ T)) (λ f s. some_else (λ (x : Transcript). x.session ≡ f.0) X (y ∷ T) to s) order h.no_others;
  setup_first = λ k z e a. let zero_is : 0 ≡ k = cc in
      let same : y ≡ z = subst (λ (m : ℕ). At (y ∷ T) m z) (sym zero_is) a in
      subst (λ (x : Transcript). (later : List SessionFact) × (order ≡ named x.session (facts_of q x) ++ later)) same (h.setup_first u y refl there);
  marks = h.marks;
  counted = h.counted;
  images = h.images;
  holders = h.holders;
}

-- by a meaning by which the transcripts show the same
pub by_other : (q r : Meaning) → ((x : Transcript) → facts_of q x ≡ facts_of r x) → (past : Past) (s : ℕ) (X : List Transcript) (J : List JournalItem) (order : List SessionFact) → AreInOneOrderBehind q past (Some s) X J order → AreInOneOrderBehind r past (Some s) X J order
by_other q r same past s X J order h = record {
  parts = λ i x a. h.parts i x a ∙ same x;
  no_others = h.no_others;
  setup_first = λ u y e a. subst (λ (gs : List Fact). (later : List SessionFact) × (order ≡ named y.session gs ++ later)) (same y) (h.setup_first u y e a);
  marks = h.marks;
  counted = h.counted;
  images = h.images;
  holders = h.holders;
}

-- behind no past it is an order as without one, and the other way round
pub without_past : (q : Meaning) (setup : Option ℕ) (X : List Transcript) (J : List JournalItem) (order : List SessionFact) → AreInOneOrderBehind q no_past setup X J order → AreInOneOrder q setup X J order
without_past q setup X J order h = record {
  parts = h.parts;
  no_others = h.no_others;
  setup_first = h.setup_first;
  marks = h.marks;
  counted = h.counted;
  images = h.images;
  holders = h.holders;
}

pub with_past : (q : Meaning) (setup : Option ℕ) (X : List Transcript) (J : List JournalItem) (order : List SessionFact) → AreInOneOrder q setup X J order → AreInOneOrderBehind q no_past setup X J order
with_past q setup X J order h = record {
  parts = h.parts;
  no_others = h.no_others;
  setup_first = h.setup_first;
  marks = h.marks;
  counted = h.counted;
  images = h.images;
  holders = h.holders;
}
