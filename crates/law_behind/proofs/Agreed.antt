-- The transcripts of a history that goes on from a journal agree behind that past with the journal and the digests
-- that it leads to.
use Rattle.std.proofs.Common.{◌≡◌, ◌≢◌, ℕ, zero, suc, ◌+◌, ◌-◌, ◌<◌, ◌≤◌, List, [], ◌∷◌, ◌++◌, map, length, Option, Some, None, refl, sym, ap, ◌∙◌, subst, ⊎_elim, inl, inr, arith, append-nil}
use Rattle.sql_types.specs.declared.journal.JournalItem.{JournalItem}
use Rattle.spec_model.specs.Journals.{tx_count}
use Rattle.spec_history.specs.Lists.{Text, Each, Some_of, In, At}
use Rattle.spec_history.specs.Inputs.{InputSession}
use Rattle.spec_history.specs.Meaning.{Meaning}
use Rattle.spec_history.specs.Transcripts.{Entry, Transcript, statements}
use Rattle.spec_history.specs.Facts.{Fact, met, no_digest, id_of, mark_of, Shows, open_after, facts, facts_of}
use Rattle.spec_history.specs.InPlace.{Throughout, images_after, InPlace, EndsOpen, EndsWhereItMay, IsControlled, IsElseNoMemory}
use Rattle.spec_history.specs.Transactions.{TransactionLog, listed, transactions}
use Rattle.spec_history.specs.Marks.{MarksRise, IdsRise, NoneBelow, ImagesHave, ImagesOfOthersHave, NoneCounted}
use Rattle.spec_history.specs.Refusals.{NamesRightly}
use Rattle.spec_history.specs.Agree.{StatementsInOrder, AreStatements, IsOneOfTheirs, committed_ones, IsEndedOver, EndedHaveTheirReplies, MarksNeverFall, ShowsHash, DigestsAreOf, LockRefusals}
use Rattle.spec_history.specs.Acts.{SessionAct, meets, Act, by, of, shown, all_shown}
use Rattle.spec_history.specs.Sessions.{SessionTransaction, SessionState, runs, gone, view, viewed, transcript_of}
use Rattle.spec_history.specs.Worlds.{World, run}
use Rattle.spec_history.specs.Guards.{Good, AtRest}
use Rattle.spec_history.specs.Histories.{IsInputOf, AreOf, RanBefore, SetupRan, IsWhole}
use Rattle.spec_history.proofs.Trace.{next_run}
use Rattle.spec_history.proofs.Cuts.{good_append, Cut, cut}
use Rattle.law_history.proofs.TranscriptsSoFar.{Told, told}
use Rattle.spec_history.proofs.TransactionLogs.{has_book}
use Rattle.spec_history.proofs.Rising.{rising, ids_rise, images}
use Rattle.law_history.proofs.Owners.{own_of, owned_facts}
use Rattle.law_history.proofs.Names.{picks_all}
use Rattle.spec_history.proofs.Issued.{hashes, issued, blocks_rise, digests_counted, FactsFrom, sum_of_transcripts}
use Rattle.spec_history.proofs.Finding.{find, is_meets}
use Rattle.spec_history.proofs.Setup.{alive_run}
use Rattle.spec_history.proofs.Refused.{below_or_nil}
use Rattle.law_history.proofs.Agreed.{IsOf, each_view, over_point, pairs, there_is}
use Rattle.law_behind.specs.AgreeBehind.{AgreeBehind, CountsThePast, HasItems, IdsAssignedFrom, JournalGoesOn, of_session_behind}
use Rattle.law_behind.specs.Past.{IsPast, Past, behind, since}
use Rattle.law_behind.proofs.Counts.{images_above, marks_above, none_behind}
use Rattle.law_behind.proofs.Ids.{all_owned, assigned_by, ids_high, ids_low}
use Rattle.law_behind.proofs.Lacks.{none_before}
use Rattle.law_behind.proofs.Legal.{begins, legal, new_ones}
use Rattle.law_behind.proofs.Refused.{Known, all_settled, names_rightly}
use Rattle.law_behind.proofs.Sessions.{sessions_behind}
use Rattle.law_behind.proofs.Setup.{cut_after, not_refused, setup_images, setup_lacks, setup_marks}
use Rattle.law_behind.proofs.Theirs.{added_theirs, placed}

-- ---- transcripts and sessions

is_of : (at : ℕ → SessionState) (k n : ℕ) (input : List InputSession) (X : List Transcript) → AreOf at n input X → n + length X ≡ k → (i : ℕ) (x : Transcript) → At X i x → IsOf at k (n + i) x
is_of at k n [] [] a e i x h = absurd (nowhere i h)
  where
    nowhere : (i : ℕ) → At [] i x → ⊥
    nowhere zero h = h
    nowhere (suc i) h = h
is_of at k n [] (y ∷ X) a e i x h = absurd a
is_of at k n (s ∷ input) [] a e i x h = absurd a
is_of at k n (s ∷ input) (y ∷ X) a e zero x h = subst (λ (m : ℕ). IsOf at k m x) (omega arith) (record { below = omega arith; is = sym h ∙ a.1; rest = a.2 })
is_of at k n (s ∷ input) (y ∷ X) a e (suc i) x h = subst (λ (m : ℕ). IsOf at k m x) (omega arith) (is_of at k (suc n) input X a.3 (omega arith) i x h)

-- a session of the input has its name
input_is : (at : ℕ → SessionState) (n : ℕ) (input : List InputSession) (X : List Transcript) → AreOf at n input X → (i : ℕ) (s : InputSession) → At input i s → s.name ≡ (at (n + i)).name
input_is at n [] X a i s h = absurd h
input_is at n (z ∷ input) [] a i s h = absurd a
input_is at n (z ∷ input) (y ∷ X) a zero s h = ap (λ (r : InputSession). r.name) (sym h) ∙ a.0.name ∙ ap (λ (m : ℕ). (at m).name) (omega arith)
input_is at n (z ∷ input) (y ∷ X) a (suc i) s h = input_is at (suc n) input X a.3 i s h ∙ ap (λ (m : ℕ). (at m).name) (omega arith)

some_input : (at : ℕ → SessionState) (n : ℕ) (input : List InputSession) (X : List Transcript) → AreOf at n input X → (i : ℕ) → i < length X → Some_of (λ s. s.name ≡ (at (n + i)).name) input
some_input at n [] [] a i l = absurd (omega arith)
some_input at n [] (y ∷ X) a i l = absurd a
some_input at n (s ∷ input) [] a i l = absurd a
some_input at n (s ∷ input) (y ∷ X) a zero l = inl (a.0.name ∙ ap (λ (m : ℕ). (at m).name) (omega arith))
some_input at n (s ∷ input) (y ∷ X) a (suc i) l = inr (subst (λ (m : ℕ). Some_of (λ z. z.name ≡ (at m).name) input) (omega arith) (some_input at (suc n) input X a.3 i (omega arith)))

throughout_weaker : (P Q : Option ℕ → ℕ → Entry → Type 0) → ((o : Option ℕ) (n : ℕ) (e : Entry) → P o n e → Q o n e) → (o : Option ℕ) (n : ℕ) (es : List Entry) → Throughout P o n es → Throughout Q o n es
throughout_weaker P Q f o n [] h = tt
throughout_weaker P Q f o n (e ∷ es) h = (f o n e h.0, throughout_weaker P Q f (open_after o e) (images_after n e) es h.1)

-- a moment of a session at which session u is over
record CutWith (past : Past) (u s : ℕ) (es : List Act) (xs ys : List SessionAct) (a : SessionAct) : Type 0 where
  at : Cut s es xs ys a
  over : ((run (behind past) at.earlier).at u).phase ≡ gone

-- a moment at which no transaction of setup stands
record SafeCut (past : Past) (es : List Act) (setup : Option ℕ) (s : ℕ) (xs ys : List SessionAct) (a : SessionAct) : Type 0 where
  at : Cut s es xs ys a
  safe : (t : ℕ) (d : SessionTransaction) → ((run (behind past) at.earlier).at t).transaction ≡ Some d → setup ≢ Some t

module _ (q : Meaning) (db : Text) (past : Past) (is_past : IsPast q past) (es : List Act) (g : Good q db (behind past) es) (input : List InputSession) (setup : Option ℕ) (X : List Transcript) (whole : IsWhole input setup X es) where
  abbrev W : World
  W = run (behind past) es

  abbrev J : List JournalItem
  J = W.items

  abbrev shown_by : ℕ → List Fact
  shown_by s = all_shown (of s es)

  sessions : AreOf W.at 0 input X
  sessions = subst (λ (f : ℕ → SessionState). AreOf f 0 input X) (sessions_behind past es) whole.sessions

  pub told_of : (s : ℕ) → Told q (W.at s) (shown_by s)
  told_of s = told q db s (behind past) es [] g (record { shows = refl; in_order = refl; end_is_last = tt; in_place = tt })

  pub of_at : (i : ℕ) (x : Transcript) → At X i x → IsOf W.at (length X) i x
  of_at i x h = subst (λ (m : ℕ). IsOf W.at (length X) m x) (omega arith) (is_of W.at (length X) 0 input X sessions (omega arith) i x h)

  pub there_at : (i : ℕ) → i < length X → At X i (transcript_of (W.at i))
  there_at i l = subst (λ (m : ℕ). At X i (transcript_of (W.at m))) (omega arith) (there_is W.at 0 input X sessions i l)

  facts_at_rest : (s : ℕ) → AtRest (W.at s) → facts_of q (transcript_of (W.at s)) ≡ shown_by s
  facts_at_rest s r = sym (append-nil (facts q None (W.at s).so_far.entries)) ∙ ap (λ (l : List Fact). facts q None (W.at s).so_far.entries ++ l) (sym r.shown) ∙ (told_of s).shows

  facts_are : (i : ℕ) (x : Transcript) → At X i x → facts_of q x ≡ shown_by i
  facts_are i x h = let o = of_at i x h in ap (facts_of q) o.is ∙ facts_at_rest i o.rest

  -- what holds of all that a session showed holds of its transcript
  said_of : (P : List Fact → Type 0) (i : ℕ) (x : Transcript) → At X i x → P (shown_by i) → P (facts_of q x)
  said_of P i x h p = subst P (sym (facts_are i x h)) p

  in_place : (i : ℕ) (x : Transcript) → At X i x → Throughout (InPlace q) None 0 x.entries
  in_place i x h = subst (λ (y : Transcript). Throughout (InPlace q) None 0 y.entries) (sym (of_at i x h).is) (told_of i).in_place

  book_is : (s : ℕ) → transactions (shown_by s) ≡ map view (W.at s).done ++ listed (viewed (W.at s).transaction)
  book_is s = ap (λ (b : TransactionLog). b.past ++ listed b.open_one) (has_book q db s (behind past) es [] g refl)

  -- ---- statements

  in_order : (given : InputSession) (x : Transcript) (s : ℕ) → IsInputOf given (W.at s) → x ≡ transcript_of (W.at s) → AtRest (W.at s) → StatementsInOrder given x
  in_order given x s e is r = let t = told_of s in subst (λ (y : Transcript). StatementsInOrder given y) (sym is) (record {
    named = sym e.name;
    are = sym (append-nil (statements (W.at s).so_far.entries)) ∙ ap (λ (o : Option Text). statements (W.at s).so_far.entries ++ listed o) (sym r.idle) ∙ t.in_order ∙ sym e.texts;
    end_is_last = t.end_is_last;
    end_ends = throughout_weaker (InPlace q) EndsOpen (λ o n e p. p.open_ended) None 0 (W.at s).so_far.entries t.in_place;
    none_is_left = r.none_open;
  })

  all_in_order : (n : ℕ) (input : List InputSession) (Y : List Transcript) → AreOf W.at n input Y → AreStatements input Y
  all_in_order n [] [] a = tt
  all_in_order n [] (y ∷ Y) a = a
  all_in_order n (s ∷ input) [] a = a
  all_in_order n (s ∷ input) (y ∷ Y) a = (in_order s y n a.0 a.1 a.2, all_in_order (suc n) input Y a.3)

  -- ---- ids

  session_there : (s : ℕ) → Some_of (λ f. Unit {0}) (shown_by s) → s < length X
  session_there s i = ⊎_elim (λ (l : s < length X). l) (λ (none : of s es ≡ []). absurd (nothing (shown_by s) (ap all_shown none) i)) (below_or_nil s (length X) es whole.all)
    where
      nothing : (gs : List Fact) → gs ≡ [] → Some_of (λ f. Unit {0}) gs → ⊥
      nothing [] e i = i
      nothing (x ∷ gs) e i = cc

  some_any : (P : Fact → Type 0) (gs : List Fact) → Some_of P gs → Some_of (λ f. Unit {0}) gs
  some_any P [] i = i
  some_any P (x ∷ gs) i = ⊎_elim (λ (p : P x). inl tt) (λ (j : Some_of P gs). inr (some_any P gs j)) i

  ids_between : (i : ℕ) → Shows id_of (λ id. (past.next ≤ id) × (id < W.next)) (shown_by i)
  ids_between i = pairs (λ id. past.next ≤ id) (λ id. id < W.next) (λ id. (past.next ≤ id) × (id < W.next)) (shown_by i) (λ n a b. (a, b)) (ids_low q db (behind past) es i g) (ids_high q db (behind past) es i g)

  most : (id : ℕ) → id ≤ W.next - 1 → id < W.next
  most id l = let n = next_run q db (behind past) es in let some = is_past.some in omega (arith, l, n, some)

  ids : IdsAssignedFrom q past.next X
  ids = record {
    k = W.next - 1;
    session = own_of es;
    one = λ i x h. said_of (Shows id_of (λ id. (past.next ≤ id) × (id ≤ W.next - 1) × (own_of es id ≡ i))) i x h
        (pairs (λ id. (past.next ≤ id) × (id < W.next)) (λ id. own_of es id ≡ i) (λ id. (past.next ≤ id) × (id ≤ W.next - 1) × (own_of es id ≡ i)) (shown_by i) (λ n a b. (a.0, (let l = a.1 in omega (arith, l)), b)) (ids_between i) (owned_facts (own_of es) i es (all_owned q db (behind past) es g)));
    all = λ id l m. let one = assigned_by q db (behind past) es id g l (most id m) in let s = own_of es id in let b = session_there s (some_any (λ f. In id (id_of f)) (shown_by s) one) in
        let t = there_at s b in (transcript_of (W.at s), t, said_of (Some_of (λ f. In id (id_of f))) s (transcript_of (W.at s)) t one);
    rise = λ i x h. said_of IdsRise i x h (ids_rise q db i (behind past) es g);
  }

  -- ---- committed transactions

  transactions_are : (i : ℕ) (x : Transcript) → At X i x → transactions (facts_of q x) ≡ map view (W.at i).done ++ listed (viewed (W.at i).transaction)
  transactions_are i x h = ap transactions (facts_are i x h) ∙ book_is i

  name_apart : (i : ℕ) (x : Transcript) → At X i x → (t : ℕ) → t < length X → t ≢ i → (W.at t).name ≢ (W.at i).name
  name_apart i x h t l ne = let d = whole.names_differ t i (transcript_of (W.at t)) x (there_at t l) h ne in λ e. d (e ∙ sym (ap (λ (y : Transcript). y.session) (of_at i x h).is))

  items_are : (i : ℕ) (s : InputSession) (x : Transcript) → At input i s → At X i x → of_session_behind (tx_count past.items) s.name (since past J) ≡ committed_ones (transactions (facts_of q x))
  items_are i s x z h = ap (λ (name : Text). of_session_behind (tx_count past.items) name (since past J)) (input_is W.at 0 input X sessions i s z ∙ ap (λ (m : ℕ). (W.at m).name) (omega arith))
      ∙ ap (of_session_behind (tx_count past.items) (W.at i).name) (new_ones past es)
      ∙ placed q db past is_past es g i (W.at i).name (picks_all q db W (length X) i (name_apart i x h) (behind past) es g refl whole.all (λ t r. cc))
      ∙ ap committed_ones (sym (transactions_are i x h))

  theirs : JournalGoesOn q past input X J
  theirs = record {
    legal = legal q db past is_past es g;
    begins = begins past es;
    no_others = subst (Each (IsOneOfTheirs input)) (sym (new_ones past es))
        (added_theirs q db input (length X) W (behind past) es g refl whole.all (λ t l. subst (λ (m : ℕ). Some_of (λ s. s.name ≡ (W.at m).name) input) (omega arith) (some_input W.at 0 input X sessions t l)));
    items = items_are;
    ends = λ i x h. throughout_weaker (InPlace q) (EndsWhereItMay q) (λ o n e p. p.ends) None 0 x.entries (in_place i x h);
  }

  -- ---- transactions that changed nothing

  only_past : (i : ℕ) (x : Transcript) → At X i x → transactions (facts_of q x) ≡ map view (W.at i).done
  only_past i x h = transactions_are i x h ∙ ap (λ (o : Option SessionTransaction). map view (W.at i).done ++ listed (viewed o)) ((of_at i x h).rest).free ∙ append-nil (map view (W.at i).done)

  ended_ones : EndedHaveTheirReplies q X J
  ended_ones i x h = subst (Each (λ u. IsEndedOver q J u u.end)) (sym (only_past i x h)) (each_view (λ u. IsEndedOver q J u u.end) (W.at i).done
      (λ d k. over_point q J (W.at i).name d d.fixed (all_settled q db past es g i d (inr k))))

  -- ---- setup

  after_setup : (P : List Fact → List Fact → Type 0) → ((u : ℕ) (r : RanBefore u es) (i : ℕ) → i ≢ u → P (shown_by u) (shown_by i)) → (u i : ℕ) (y x : Transcript) → setup ≡ Some u → At X u y → At X i x → i ≢ u → P (facts_of q y) (facts_of q x)
  after_setup P f u i y x is a b ne = subst (λ (z : List Fact × List Fact). P z.0 z.1) (λ k. (sym (facts_are u y a) k, sym (facts_are i x b) k)) (f u (subst (λ (o : Option ℕ). SetupRan o es) is whole.setup_ran) i ne)

  gone_then : (u : ℕ) (r : RanBefore u es) → ((run (behind past) r.earlier).at u).phase ≡ gone
  gone_then u r = subst (λ (f : ℕ → SessionState). (f u).phase ≡ gone) (sessions_behind past r.earlier) r.gone

  marks_of : (u : ℕ) (r : RanBefore u es) (i : ℕ) → i ≢ u → NoneBelow J (shown_by u) (shown_by i)
  marks_of u r i ne = subst (λ (fs : List Act). NoneBelow (run (behind past) fs).items (all_shown (of u fs)) (all_shown (of i fs))) (sym r.is) (setup_marks q db past u r.earlier r.later (subst (Good q db (behind past)) r.is g) r.others (gone_then u r) i ne)

  images_of : (u : ℕ) (r : RanBefore u es) (i : ℕ) → i ≢ u → ImagesOfOthersHave J (shown_by u) (shown_by i)
  images_of u r i ne = subst (λ (fs : List Act). ImagesOfOthersHave (run (behind past) fs).items (all_shown (of u fs)) (all_shown (of i fs))) (sym r.is) (setup_images q db past u r.earlier r.later (subst (Good q db (behind past)) r.is g) r.others (gone_then u r) i ne)

  lacks_of : (u : ℕ) (r : RanBefore u es) (i : ℕ) → i ≢ u → In no_digest (shown_by i) → NoneCounted J (shown_by u)
  lacks_of u r i ne = subst (λ (fs : List Act). In no_digest (all_shown (of i fs)) → NoneCounted (run (behind past) fs).items (all_shown (of u fs))) (sym r.is) (setup_lacks q db past u r.earlier r.later (subst (Good q db (behind past)) r.is g) r.others (gone_then u r) i ne)

  -- ---- marks

  marks : MarksNeverFall q setup X J
  marks = record {
    rise = λ i x h. said_of (MarksRise J) i x h (rising q db i (behind past) es g);
    after_setup = after_setup (NoneBelow J) marks_of;
    images = λ i x h. said_of (ImagesHave J) i x h (images q db i (behind past) es g);
    images_after_setup = after_setup (ImagesOfOthersHave J) images_of;
  }

  counts : CountsThePast q past X J
  counts = record {
    marks = λ i x h. said_of (Shows (mark_of J) (λ m. tx_count past.items ≤ m)) i x h (marks_above q db past es g i);
    images = λ i x h. said_of (Each (HasItems (length past.items))) i x h (images_above q db past es g i);
    none = λ i x h no. none_behind q db past es g i (subst (In no_digest) (facts_are i x h) no);
  }

  -- ---- digests

  facts_from : (n : ℕ) (input : List InputSession) (Y : List Transcript) → AreOf W.at n input Y → FactsFrom q shown_by n Y
  facts_from n [] [] a = tt
  facts_from n [] (y ∷ Y) a = absurd a
  facts_from n (s ∷ input) [] a = absurd a
  facts_from n (s ∷ input) (y ∷ Y) a = (ap (facts_of q) a.1 ∙ facts_at_rest n a.2, facts_from (suc n) input Y a.3)

  first_lacks : (i : ℕ) (x : Transcript) (before after : List Fact) → At X i x → facts_of q x ≡ before ++ no_digest ∷ after → NoneCounted J before
  first_lacks i x before after h e = none_before q db past es g i before after (sym (facts_are i x h) ∙ e)

  digests : DigestsAreOf q db setup X J W.issued
  digests = record {
    shown = λ i x h. said_of (Each (ShowsHash q J)) i x h (hashes q db i (behind past) es g);
    as_many = λ b. let a = digests_counted b (length X) (behind past) es whole.all in let c = sum_of_transcripts q shown_by b 0 X (facts_from 0 input X sessions) in omega arith;
    each = issued q db (behind past) es g tt;
    rise = blocks_rise q db (behind past) es g tt tt;
    first = first_lacks;
    none_of_setup = λ u i y x is a b ne no. after_setup (λ ys xs. In no_digest xs → NoneCounted J ys) lacks_of u i y x is a b ne no;
  }

  -- ---- refusals

  known : Known q db past es g setup X
  known = record {
    facts = λ t l. facts_are t (transcript_of (W.at t)) (there_at t l);
    there = there_at;
    book = λ t l. only_past t (transcript_of (W.at t)) (there_at t l);
    free = λ t l. ((of_at t (transcript_of (W.at t)) (there_at t l)).rest).free;
    below = whole.all;
  }

  -- a refusal that comes when setup is over
  setup_cut : (u : ℕ) (fs hs : List Act) → Good q db (behind past) (fs ++ hs) → ((s : ℕ) → s ≢ u → of s fs ≡ []) → ((run (behind past) fs).at u).phase ≡ gone → (s : ℕ) (text : Text) (holder : ℕ) (xs ys : List SessionAct) → of s (fs ++ hs) ≡ xs ++ meets text holder ∷ ys → CutWith past u s (fs ++ hs) xs ys (meets text holder)
  setup_cut u fs hs k others over s text holder xs ys e = let ne = not_refused q db past u fs hs k others over s text holder xs ys e in let c = cut_after q db past u fs hs k others over s xs ys (meets text holder) ne e in record { at = c.at; over = c.over }

  its_cut : (o : Option ℕ) → setup ≡ o → (s : ℕ) (text : Text) (holder : ℕ) (xs ys : List SessionAct) → of s es ≡ xs ++ meets text holder ∷ ys → SafeCut past es setup s xs ys (meets text holder)
  its_cut None none s text holder xs ys e = record { at = cut s es xs ys (meets text holder) e; safe = λ t d k is. cc }
  its_cut (Some u) some s text holder xs ys e = let r : RanBefore u es = subst (λ (o : Option ℕ). SetupRan o es) some whole.setup_ran in
      let c : CutWith past u s es xs ys (meets text holder) = subst (λ (fs : List Act). Good q db (behind past) fs → of s fs ≡ xs ++ meets text holder ∷ ys → CutWith past u s fs xs ys (meets text holder)) (sym r.is) (λ k a. setup_cut u r.earlier r.later k r.others (gone_then u r) s text holder xs ys a) g e in record {
        at = c.at;
        safe = λ t d k is. let same : u ≡ t = cc in
            let two = good_append q db (behind past) c.at.earlier (by s (meets text holder) ∷ c.at.later) (subst (Good q db (behind past)) c.at.is g) in
            let runs_now : ((run (behind past) c.at.earlier).at t).phase ≡ runs = alive_run q db (behind past) c.at.earlier two.0 (λ x d k. cc) t d k in
            let over_now : ((run (behind past) c.at.earlier).at t).phase ≡ gone = ap (λ (x : ℕ). ((run (behind past) c.at.earlier).at x).phase) (sym same) ∙ c.over in cc;
      }

  refusals : LockRefusals q setup X J
  refusals s x text holder earlier later h e = let f = find (of s es) earlier later (met text holder) (sym (facts_are s x h) ∙ e) in
      let is : of s es ≡ f.front ++ meets text holder ∷ f.back = f.is ∙ ap (λ (a : SessionAct). f.front ++ a ∷ f.back) (is_meets f.act text holder f.shows) in
      let c = its_cut setup refl s text holder f.front f.back is in
      subst (λ (z : List Fact × List Fact). NamesRightly q J setup X s text holder z.0 z.1) (λ k. (f.before k, f.after k)) (names_rightly q db past es g setup X s text holder f.front f.back c.at known c.safe)

  -- ---- agreement

  pub agrees : AgreeBehind q db past input setup X J W.issued
  agrees = record {
    statements_are_answered = all_in_order 0 input X sessions;
    ids_are_assigned_once = ids;
    journal_goes_on = theirs;
    ended_have_their_replies = ended_ones;
    marks_never_fall = marks;
    past_counts = counts;
    digests_are_the_journals = digests;
    lock_refusals_name_holders = refusals;
    control_is_refused_in_place = λ i x h. throughout_weaker (InPlace q) (IsControlled q) (λ o n e p. p.controlled) None 0 x.entries (in_place i x h);
    else_no_memory = λ i x h. throughout_weaker (InPlace q) (IsElseNoMemory q) (λ o n e p. p.else_no_memory) None 0 x.entries (in_place i x h);
  }
