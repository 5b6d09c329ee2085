-- Images are accepted with the digests that stand before them in the order.
use Rattle.std.proofs.Common.{◌≡◌, ◌<◌, ℕ, suc, Bool, true, false, List, [], ◌∷◌, ◌++◌, drop, Option, refl, sym, ap, subst, ◌∙◌, inl, inr}
use Rattle.std.specs.Prelude.{if◌then◌else◌, take}
use Rattle.std.specs.Str.{bytes_eq}
use Rattle.std.proofs.lemmas.List.{take-append-drop}
use Rattle.std.proofs.lemmas.Slice.Eq.{bytes_eq-Decides}
use Rattle.sql_types.specs.declared.journal.JournalItem.{JournalItem}
use Rattle.spec_model.specs.Journals.{cut}
use Rattle.spec_model.specs.Script.{Reading}
use Rattle.spec_history.specs.Agree.{ShowsHash}
use Rattle.spec_history.specs.Facts.{Fact, digest, image, facts_of}
use Rattle.spec_history.specs.Journals.{blocks}
use Rattle.spec_history.specs.Lists.{Text, Each, Some_of, At, In}
use Rattle.spec_history.specs.Marks.{ClosedIn, ImagesHave}
use Rattle.spec_history.specs.Meaning.{Meaning}
use Rattle.spec_history.specs.Transcripts.{Transcript}
use Rattle.spec_history.proofs.Refused.{each_left}
use Rattle.spec_history.proofs.Trace.{each_append}
use Rattle.spec_ledger.specs.Ledger.{block_hash}
use Rattle.law_order.specs.OneOrder.{SessionFact, facts_in_order, facts_of_session}
use Rattle.law_behind.specs.OrderBehind.{AreInOneOrderBehind}
use Rattle.law_behind.specs.Past.{Past}
use Rattle.law_protocol_steps.proofs.AfterSet.{all_at, each_at}
use Rattle.law_kept_images.specs.Held.{IsHeld}
use Rattle.law_concurrent.specs.InOrder.{digest_shown, digests_shown}

-- ---- each fact of the order is one of a transcript

in_part : (order : List SessionFact) (f : SessionFact) → In f order → In f.1 (facts_of_session f.0 order)
in_part [] f i = absurd i
in_part (g ∷ order) f (inl e) = subst (λ (x : SessionFact). In x.1 (facts_of_session x.0 (g ∷ order))) e (rw ((bytes_eq-Decides g.0 g.0).1 refl) (inl refl))
in_part (g ∷ order) f (inr i) = by_flag (bytes_eq g.0 f.0) (in_part order f i)
  where
    by_flag : (b : Bool) → In f.1 (facts_of_session f.0 order) → In f.1 (if b then g.1 ∷ facts_of_session f.0 order else facts_of_session f.0 order)
    by_flag true k = inr k
    by_flag false k = k

record Named (X : List Transcript) (name : Text) : Type 0 where
  i : ℕ
  x : Transcript
  there : At X i x
  is : x.session ≡ name

named_there : (X : List Transcript) (name : Text) → Some_of (λ x. x.session ≡ name) X → Named X name
named_there [] name h = absurd h
named_there (x ∷ X) name (inl e) = record { i = 0; x = x; there = refl; is = e }
named_there (x ∷ X) name (inr h) = let r = named_there X name h in record { i = suc r.i; x = r.x; there = r.there; is = r.is }

module _ (q : Meaning) (past : Past) (setup : Option ℕ) (X : List Transcript) (J : List JournalItem) (order : List SessionFact) (is : AreInOneOrderBehind q past setup X J order) where
  -- so what holds of all facts of the transcripts holds along it
  pub along : (P : Fact → Type 0) → ((i : ℕ) (x : Transcript) → At X i x → Each P (facts_of q x)) → Each (λ f. P f.1) order
  along P all = all_at (λ (f : SessionFact). P f.1) order
      (λ f i. let n = named_there X f.0 (each_at (λ (f : SessionFact). Some_of (λ x. x.session ≡ f.0) X) order f is.no_others i) in
      each_at P (facts_of q n.x) f.1 (all n.i n.x n.there)
      (subst (λ (gs : List Fact). In f.1 gs) (ap (λ (name : Text). facts_of_session name order) (sym n.is) ∙ is.parts n.i n.x n.there) (in_part order f i)))

-- ---- blocks of the digests before an image

module _ (J : List JournalItem) (m : ℕ) where
  abbrev pub HasBlock : Fact → Type 0
  HasBlock (digest b hash) = b < blocks (take m J)
  HasBlock _ = Unit {0}

  abbrev around : List SessionFact → List SessionFact → Text → List SessionFact
  around earlier later name = earlier ++ (name, image m) ∷ later

  its_image : (b : ℕ) (earlier later : List SessionFact) (name : Text) → Each (ClosedIn J b) (facts_in_order (around earlier later name)) → b < blocks (take m J)
  its_image b [] later name h = h.0
  its_image b (f ∷ earlier) later name h = its_image b earlier later name h.1

  has_block : (g : Fact) (earlier later : List SessionFact) (name : Text) → ImagesHave J (g ∷ facts_in_order (around earlier later name)) → HasBlock g × ImagesHave J (facts_in_order (around earlier later name))
  has_block (digest b hash) earlier later name h = (its_image b earlier later name h.0, h.1)
  has_block g earlier later name h = (tt, h)

  pub have_blocks : (earlier later : List SessionFact) (name : Text) → ImagesHave J (facts_in_order (around earlier later name)) → Each (λ f. HasBlock f.1) earlier
  have_blocks [] later name h = tt
  have_blocks (f ∷ earlier) later name h = let r = has_block f.1 earlier later name h in (r.0, have_blocks earlier later name r.1)

-- ---- so these digests are held there

module _ (h : List ℕ → List ℕ) (reads : Reading) (q : Meaning) (database : Text) (J : List JournalItem) (m : ℕ) (hashes : (K : List JournalItem) (b : ℕ) → q.block_hash K b ≡ block_hash h reads K b) where
  one_held : (g : Fact) → ShowsHash q J g → HasBlock J m g → Each (IsHeld h reads database (cut J m)) (digest_shown database g)
  one_held (digest b hash) s l = (
    record {
      of = refl;
      closed = l;
      hash = s.1 ∙ ap (λ (K : List JournalItem). q.block_hash K b) (sym (take-append-drop m J)) ∙ q.hash_stays (take m J) (drop m J) b l ∙ hashes (take m J) b;
    },
    tt,
  )
  one_held g s l = tt

  shown_held : (fs : List SessionFact) → Each (λ f. ShowsHash q J f.1) fs → Each (λ f. HasBlock J m f.1) fs → Each (IsHeld h reads database (cut J m)) (digests_shown database fs)
  shown_held [] s b = tt
  shown_held (f ∷ fs) s b = each_append (IsHeld h reads database (cut J m)) (digest_shown database f.1) (digests_shown database fs) (one_held f.1 s.0 b.0) (shown_held fs s.1 b.1)

  pub held_before : (order earlier later : List SessionFact) (name : Text) → order ≡ earlier ++ (name, image m) ∷ later → Each (λ f. ShowsHash q J f.1) order → ImagesHave J (facts_in_order order)
      → Each (IsHeld h reads database (cut J m)) (digests_shown database earlier)
  held_before order earlier later name e s i = shown_held earlier (each_left (λ (f : SessionFact). ShowsHash q J f.1) earlier ((name, image m) ∷ later) (subst (λ (fs : List SessionFact). Each (λ f. ShowsHash q J f.1) fs) e s))
      (have_blocks J m earlier later name (subst (λ (fs : List SessionFact). ImagesHave J (facts_in_order fs)) e i))
