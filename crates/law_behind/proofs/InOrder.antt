-- All that the transcripts of a history that goes on from a journal show stands in one order behind it.
use Rattle.std.proofs.Common.{◌≡◌, ◌≢◌, ℕ, ◌<◌, List, [], ◌∷◌, ◌++◌, length, Option, None, refl, sym, ap, ap₂, ◌∙◌, subst, inl, inr, append-nil}
use Rattle.std.specs.Prelude.{zero, suc}
use Rattle.sql_types.specs.declared.journal.JournalItem.{JournalItem}
use Rattle.spec_model.specs.Journals.{tx_count}
use Rattle.spec_history.specs.Acts.{SessionAct, Act, of, all_shown}
use Rattle.spec_history.specs.Facts.{Fact, facts, facts_of}
use Rattle.spec_history.specs.Guards.{AtRest, Good}
use Rattle.spec_history.specs.Histories.{IsWhole, RanBefore, SetupRan}
use Rattle.spec_history.specs.Inputs.{InputSession}
use Rattle.spec_history.specs.Lists.{Text, Some_of, At}
use Rattle.spec_history.specs.Marks.{ImagesHave, MarksRise}
use Rattle.spec_history.specs.Meaning.{Meaning}
use Rattle.spec_history.specs.Sessions.{SessionState, gone, transcript_of}
use Rattle.spec_history.specs.StepOrder.{Counted}
use Rattle.spec_history.specs.Transcripts.{Transcript}
use Rattle.spec_history.specs.Worlds.{World, run}
use Rattle.spec_history.proofs.Cuts.{good_append, of_append}
use Rattle.law_history.proofs.Order.{counted, facts_in}
use Rattle.spec_history.proofs.Setup.{silent}
use Rattle.law_order.specs.OneOrder.{SessionFact, facts_of_session, named}
use Rattle.law_order.proofs.Counts.{never_fall}
use Rattle.law_order.proofs.Holders.{is_open}
use Rattle.law_order.proofs.ImagesInOrder.{have_blocks}
use Rattle.law_order.proofs.Parts.{all_facts, alone, each_name, order_append, order_of, part_of}
use Rattle.law_behind.specs.OrderBehind.{AreInOneOrderBehind, HaveOneOrderBehind}
use Rattle.law_behind.specs.Past.{IsPast, Past, behind}
use Rattle.law_behind.proofs.Agreed.{of_at, there_at, told_of}
use Rattle.law_behind.proofs.Sessions.{sessions_behind}

some_at : (name : Text) (X : List Transcript) (i : ℕ) (x : Transcript) → At X i x → x.session ≡ name → Some_of (λ y. y.session ≡ name) X
some_at name [] i x a e = absurd a
some_at name (y ∷ X) zero x a e = inl (ap (λ (z : Transcript). z.session) a ∙ e)
some_at name (y ∷ X) (suc i) x a e = inr (some_at name X i x a e)

module _ (q : Meaning) (db : Text) (past : Past) (is_past : IsPast q past) (es : List Act) (g : Good q db (behind past) es) (input : List InputSession) (setup : Option ℕ) (X : List Transcript) (whole : IsWhole input setup X es) where
  abbrev W : World
  W = run (behind past) es

  abbrev J : List JournalItem
  J = W.items

  abbrev names : ℕ → Text
  names s = (W.at s).name

  abbrev order : List SessionFact
  order = order_of names es

  -- ---- transcripts

  facts_at_rest : (s : ℕ) → AtRest (W.at s) → facts_of q (transcript_of (W.at s)) ≡ all_shown (of s es)
  facts_at_rest s r = sym (append-nil (facts q None (W.at s).so_far.entries)) ∙ ap (λ (l : List Fact). facts q None (W.at s).so_far.entries ++ l) (sym r.shown) ∙ (told_of q db past is_past es g input setup X whole s).shows

  facts_are : (i : ℕ) (x : Transcript) → At X i x → facts_of q x ≡ all_shown (of i es)
  facts_are i x a = let o = of_at q db past is_past es g input setup X whole i x a in ap (facts_of q) o.is ∙ facts_at_rest i o.rest

  name_is : (i : ℕ) (x : Transcript) → At X i x → x.session ≡ names i
  name_is i x a = ap (λ (y : Transcript). y.session) (of_at q db past is_past es g input setup X whole i x a).is

  there : (t : ℕ) → t < length X → At X t (transcript_of (W.at t))
  there t l = there_at q db past is_past es g input setup X whole t l

  apart : (s t : ℕ) → s < length X → t < length X → s ≢ t → names s ≢ names t
  apart s t l k ne = whole.names_differ s t (transcript_of (W.at s)) (transcript_of (W.at t)) (there s l) (there t k) ne

  -- ---- setup

  setup_first : (u : ℕ) (y : Transcript) → RanBefore u es → At X u y → (later : List SessionFact) × (order ≡ named y.session (facts_of q y) ++ later)
  setup_first u y r a =
      let gone_then : ((run (behind past) r.earlier).at u).phase ≡ gone = subst (λ (f : ℕ → SessionState). (f u).phase ≡ gone) (sessions_behind past r.earlier) r.gone in
      let two = good_append q db (behind past) r.earlier r.later (subst (Good q db (behind past)) r.is g) in
      let its : of u es ≡ of u r.earlier = ap (of u) r.is ∙ of_append u r.earlier r.later ∙ ap (λ (l : List SessionAct). of u r.earlier ++ l) (silent q db u (run (behind past) r.earlier) r.later gone_then two.1).0 ∙ append-nil (of u r.earlier) in
      let all : all_shown (of u r.earlier) ≡ facts_of q y = sym (facts_are u y a ∙ ap all_shown its) in
      let front : order_of names r.earlier ≡ named y.session (facts_of q y) = alone names u r.earlier r.others ∙ ap₂ named (sym (name_is u y a)) all in
      (order_of names r.later, ap (order_of names) r.is ∙ order_append names r.earlier r.later ∙ ap (λ (l : List SessionFact). l ++ order_of names r.later) front)

  -- ---- all of it

  its_counts : Counted J past.next (tx_count past.items) (facts_in es)
  its_counts = counted q db (behind past) es g is_past.legal.closings

  is : AreInOneOrderBehind q past setup X J order
  is = record {
    parts = λ i x a. ap (λ (name : Text). facts_of_session name order) (name_is i x a)
        ∙ part_of names (length X) i es whole.all (λ t l ne. apart t i l (of_at q db past is_past es g input setup X whole i x a).below ne) ∙ sym (facts_are i x a);
    no_others = each_name names (λ name. Some_of (λ x. x.session ≡ name) X) (length X) es whole.all (λ t l. some_at (names t) X t (transcript_of (W.at t)) (there t l) refl);
    setup_first = λ u y some a. setup_first u y (subst (λ (o : Option ℕ). SetupRan o es) some whole.setup_ran) a;
    marks = subst (MarksRise J) (sym (all_facts names es)) (never_fall J past.next (tx_count past.items) (facts_in es) its_counts);
    counted = subst (Counted J past.next (tx_count past.items)) (sym (all_facts names es)) its_counts;
    images = subst (ImagesHave J) (sym (all_facts names es)) (have_blocks q db (behind past) es g);
    holders = λ earlier later name text holder e. is_open q db (behind past) (λ t. refl) es g names (length X) whole.all apart earlier later name text holder e;
  }

  pub in_one_order : HaveOneOrderBehind q past setup X J
  in_one_order = record { order = order; is = is }
