-- The transcripts of a good history agree with the journal and the digests that it leads to.
use Rattle.std.proofs.Common.{◌≡◌, ◌≢◌, ℕ, zero, suc, ◌+◌, ◌-◌, ◌<◌, ◌≤◌, List, [], ◌∷◌, ◌++◌, map, length, Option, Some, None, refl, sym, ap, ◌∙◌, subst, ⊎_elim, inl, inr, arith, append-nil}
use Rattle.std.specs.Str.{bytes_eq}
use Rattle.sql_types.specs.declared.journal.JournalItem.{JournalItem}
use Rattle.spec_history.specs.Lists.{Text, Each, Some_of, In, At}
use Rattle.spec_history.specs.Inputs.{InputSession}
use Rattle.spec_history.specs.Meaning.{Meaning}
use Rattle.spec_history.specs.Transcripts.{Entry, Transcript, statements}
use Rattle.spec_history.specs.Facts.{Fact, met, no_digest, id_of, Shows, open_after, facts, facts_of}
use Rattle.spec_history.specs.InPlace.{Throughout, images_after, InPlace, EndsOpen, EndsWhereItMay, IsControlled, IsElseNoMemory}
use Rattle.spec_history.specs.Transactions.{End, unfixed, committed, ended, Transaction, TransactionLog, listed, transactions}
use Rattle.spec_history.specs.Marks.{MarksRise, IdsRise, NoneBelow, ImagesHave, ImagesOfOthersHave, NoneCounted}
use Rattle.spec_history.specs.Refusals.{NamesRightly}
use Rattle.spec_history.specs.Agree.{StatementsInOrder, AreStatements, IdsAssignedOnce, JournalIsTheirs, of_session, committed_ones, IsEndedOver, EndedHaveTheirReplies, MarksNeverFall, ShowsHash, DigestsAreOf, LockRefusals, Agree}
use Rattle.spec_history.specs.Acts.{SessionAct, meets, Act, by, of, shown, all_shown}
use Rattle.spec_history.specs.Sessions.{SessionTransaction, SessionState, runs, gone, view, viewed, transcript_of}
use Rattle.spec_history.specs.Worlds.{World, first, run}
use Rattle.spec_history.specs.Guards.{Good, AtRest}
use Rattle.spec_history.specs.WantClashes.{SettledAt}
use Rattle.spec_history.specs.Histories.{IsInputOf, AreOf, RanBefore, SetupRan, IsWhole}
use Rattle.spec_history.proofs.Trace.{next_run}
use Rattle.spec_history.proofs.Cuts.{good_append, Cut, cut}
use Rattle.law_history.proofs.TranscriptsSoFar.{Told, told}
use Rattle.spec_history.proofs.TransactionLogs.{has_book}
use Rattle.spec_history.proofs.Rising.{rising, ids_rise, images}
use Rattle.law_history.proofs.Owners.{own_of, all_owned, owned_facts, assigned_by, within_ids}
use Rattle.law_history.proofs.Placed.{placed_run}
use Rattle.law_history.proofs.Names.{picks_all}
use Rattle.law_history.proofs.Theirs.{each_theirs}
use Rattle.spec_history.proofs.Legal.{legal}
use Rattle.spec_history.proofs.Issued.{hashes, issued, blocks_rise, digests_counted, FactsFrom, sum_of_transcripts}
use Rattle.spec_history.proofs.Finding.{find, is_meets}
use Rattle.law_history.proofs.Lacks.{none_before}
use Rattle.spec_history.proofs.Setup.{alive_run, setup_marks, setup_images, setup_lacks, not_refused, cut_after}
use Rattle.spec_history.proofs.Refused.{below_or_nil, all_settled, Known, names_rightly}

-- ---- transcripts and sessions

-- the session of a transcript
pub record IsOf (at : ℕ → SessionState) (k n : ℕ) (x : Transcript) : Type 0 where
  pub below : n < k
  pub is : x ≡ transcript_of (at n)
  pub rest : AtRest (at n)

is_of : (at : ℕ → SessionState) (k n : ℕ) (input : List InputSession) (X : List Transcript) → AreOf at n input X → n + length X ≡ k → (i : ℕ) (x : Transcript) → At X i x → IsOf at k (n + i) x
is_of at k n [] [] a e i x h = absurd (nowhere i h)
  where
    nowhere : (i : ℕ) → At [] i x → ⊥
    nowhere zero h = h
    nowhere (suc i) h = h
is_of at k n [] (y ∷ X) a e i x h = absurd a
is_of at k n (s ∷ input) [] a e i x h = absurd a
is_of at k n (s ∷ input) (y ∷ X) a e zero x h = subst (λ (m : ℕ). IsOf at k m x) (omega arith) (record { below = omega arith; is = sym h ∙ a.1; rest = a.2 })
is_of at k n (s ∷ input) (y ∷ X) a e (suc i) x h = subst (λ (m : ℕ). IsOf at k m x) (omega arith) (is_of at k (suc n) input X a.3 (omega arith) i x h)

pub there_is : (at : ℕ → SessionState) (n : ℕ) (input : List InputSession) (X : List Transcript) → AreOf at n input X → (i : ℕ) → i < length X → At X i (transcript_of (at (n + i)))
there_is at n [] [] a i l = absurd (omega arith)
there_is at n [] (y ∷ X) a i l = absurd a
there_is at n (s ∷ input) [] a i l = absurd a
there_is at n (s ∷ input) (y ∷ X) a zero l = a.1 ∙ ap (λ (m : ℕ). transcript_of (at m)) (omega arith)
there_is at n (s ∷ input) (y ∷ X) a (suc i) l = subst (λ (m : ℕ). At X i (transcript_of (at m))) (omega arith) (there_is at (suc n) input X a.3 i (omega arith))

-- a session of the input has its name
input_is : (at : ℕ → SessionState) (n : ℕ) (input : List InputSession) (X : List Transcript) → AreOf at n input X → (i : ℕ) (s : InputSession) → At input i s → s.name ≡ (at (n + i)).name
input_is at n [] X a i s h = absurd h
input_is at n (z ∷ input) [] a i s h = absurd a
input_is at n (z ∷ input) (y ∷ X) a zero s h = ap (λ (r : InputSession). r.name) (sym h) ∙ a.0.name ∙ ap (λ (m : ℕ). (at m).name) (omega arith)
input_is at n (z ∷ input) (y ∷ X) a (suc i) s h = input_is at (suc n) input X a.3 i s h ∙ ap (λ (m : ℕ). (at m).name) (omega arith)

some_input : (at : ℕ → SessionState) (n : ℕ) (input : List InputSession) (X : List Transcript) → AreOf at n input X → (i : ℕ) → i < length X → Some_of (λ s. s.name ≡ (at (n + i)).name) input
some_input at n [] [] a i l = absurd (omega arith)
some_input at n [] (y ∷ X) a i l = absurd a
some_input at n (s ∷ input) [] a i l = absurd a
some_input at n (s ∷ input) (y ∷ X) a zero l = inl (a.0.name ∙ ap (λ (m : ℕ). (at m).name) (omega arith))
some_input at n (s ∷ input) (y ∷ X) a (suc i) l = inr (subst (λ (m : ℕ). Some_of (λ z. z.name ≡ (at m).name) input) (omega arith) (some_input at (suc n) input X a.3 i (omega arith)))

throughout_weaker : (P Q : Option ℕ → ℕ → Entry → Type 0) → ((o : Option ℕ) (n : ℕ) (e : Entry) → P o n e → Q o n e) → (o : Option ℕ) (n : ℕ) (es : List Entry) → Throughout P o n es → Throughout Q o n es
throughout_weaker P Q f o n [] h = tt
throughout_weaker P Q f o n (e ∷ es) h = (f o n e h.0, throughout_weaker P Q f (open_after o e) (images_after n e) es h.1)

pub each_view : (P : Transaction → Type 0) (ds : List SessionTransaction) → ((d : SessionTransaction) → In d ds → P (view d)) → Each P (map view ds)
each_view P [] f = tt
each_view P (d ∷ ds) f = (f d (inl refl), each_view P ds (λ c i. f c (inr i)))

pub pairs : (P Q R : ℕ → Type 0) (gs : List Fact) → ((n : ℕ) → P n → Q n → R n) → Shows id_of P gs → Shows id_of Q gs → Shows id_of R gs
pairs P Q R [] f h k = tt
pairs P Q R (g ∷ gs) f h k = (pair (id_of g) h.0 k.0, pairs P Q R gs f h.1 k.1)
  where
    pair : (ns : List ℕ) → Each P ns → Each Q ns → Each R ns
    pair [] h k = tt
    pair (n ∷ ns) h k = (f n h.0 k.0, pair ns h.1 k.1)

-- what is settled of a transaction is what its transcript is to agree with
pub over_point : (q : Meaning) (J : List JournalItem) (name : Text) (d : SessionTransaction) (e : End) → SettledAt q J name d e → IsEndedOver q J (view d) e
over_point q J name d unfixed h = tt
over_point q J name d (committed n) h = tt
over_point q J name d (ended n back) h = record { within = h.0; replies = h.1; quiet = h.2 }

-- a moment of a session at which session u is over
pub record CutWith (u s : ℕ) (es : List Act) (xs ys : List SessionAct) (a : SessionAct) : Type 0 where
  pub at : Cut s es xs ys a
  pub over : ((run first at.earlier).at u).phase ≡ gone

-- a moment at which no transaction of setup stands
pub record SafeCut (es : List Act) (setup : Option ℕ) (s : ℕ) (xs ys : List SessionAct) (a : SessionAct) : Type 0 where
  pub at : Cut s es xs ys a
  pub safe : (t : ℕ) (d : SessionTransaction) → ((run first at.earlier).at t).transaction ≡ Some d → setup ≢ Some t

module _ (q : Meaning) (db : Text) (es : List Act) (g : Good q db first es) (input : List InputSession) (setup : Option ℕ) (X : List Transcript) (whole : IsWhole input setup X es) where
  abbrev W : World
  W = run first es

  abbrev J : List JournalItem
  J = W.items

  abbrev shown_by : ℕ → List Fact
  shown_by s = all_shown (of s es)

  pub told_of : (s : ℕ) → Told q (W.at s) (shown_by s)
  told_of s = told q db s first es [] g (record { shows = refl; in_order = refl; end_is_last = tt; in_place = tt })

  pub of_at : (i : ℕ) (x : Transcript) → At X i x → IsOf W.at (length X) i x
  of_at i x h = subst (λ (m : ℕ). IsOf W.at (length X) m x) (omega arith) (is_of W.at (length X) 0 input X whole.sessions (omega arith) i x h)

  pub there_at : (i : ℕ) → i < length X → At X i (transcript_of (W.at i))
  there_at i l = subst (λ (m : ℕ). At X i (transcript_of (W.at m))) (omega arith) (there_is W.at 0 input X whole.sessions i l)

  facts_at_rest : (s : ℕ) → AtRest (W.at s) → facts_of q (transcript_of (W.at s)) ≡ shown_by s
  facts_at_rest s r = sym (append-nil (facts q None (W.at s).so_far.entries)) ∙ ap (λ (l : List Fact). facts q None (W.at s).so_far.entries ++ l) (sym r.shown) ∙ (told_of s).shows

  facts_are : (i : ℕ) (x : Transcript) → At X i x → facts_of q x ≡ shown_by i
  facts_are i x h = let o = of_at i x h in ap (facts_of q) o.is ∙ facts_at_rest i o.rest

  -- what holds of all that a session showed holds of its transcript
  said_of : (P : List Fact → Type 0) (i : ℕ) (x : Transcript) → At X i x → P (shown_by i) → P (facts_of q x)
  said_of P i x h p = subst P (sym (facts_are i x h)) p

  in_place : (i : ℕ) (x : Transcript) → At X i x → Throughout (InPlace q) None 0 x.entries
  in_place i x h = subst (λ (y : Transcript). Throughout (InPlace q) None 0 y.entries) (sym (of_at i x h).is) (told_of i).in_place

  book_is : (s : ℕ) → transactions (shown_by s) ≡ map view (W.at s).done ++ listed (viewed (W.at s).transaction)
  book_is s = ap (λ (b : TransactionLog). b.past ++ listed b.open_one) (has_book q db s first es [] g refl)

  -- ---- statements

  in_order : (given : InputSession) (x : Transcript) (s : ℕ) → IsInputOf given (W.at s) → x ≡ transcript_of (W.at s) → AtRest (W.at s) → StatementsInOrder given x
  in_order given x s e is r = let t = told_of s in subst (λ (y : Transcript). StatementsInOrder given y) (sym is) (record {
    named = sym e.name;
    are = sym (append-nil (statements (W.at s).so_far.entries)) ∙ ap (λ (o : Option Text). statements (W.at s).so_far.entries ++ listed o) (sym r.idle) ∙ t.in_order ∙ sym e.texts;
    end_is_last = t.end_is_last;
    end_ends = throughout_weaker (InPlace q) EndsOpen (λ o n e p. p.open_ended) None 0 (W.at s).so_far.entries t.in_place;
    none_is_left = r.none_open;
  })

  all_in_order : (n : ℕ) (input : List InputSession) (Y : List Transcript) → AreOf W.at n input Y → AreStatements input Y
  all_in_order n [] [] a = tt
  all_in_order n [] (y ∷ Y) a = a
  all_in_order n (s ∷ input) [] a = a
  all_in_order n (s ∷ input) (y ∷ Y) a = (in_order s y n a.0 a.1 a.2, all_in_order (suc n) input Y a.3)

  -- ---- ids

  session_there : (s : ℕ) → Some_of (λ f. Unit {0}) (shown_by s) → s < length X
  session_there s i = ⊎_elim (λ (l : s < length X). l) (λ (none : of s es ≡ []). absurd (nothing (shown_by s) (ap all_shown none) i)) (below_or_nil s (length X) es whole.all)
    where
      nothing : (gs : List Fact) → gs ≡ [] → Some_of (λ f. Unit {0}) gs → ⊥
      nothing [] e i = i
      nothing (x ∷ gs) e i = cc

  some_any : (P : Fact → Type 0) (gs : List Fact) → Some_of P gs → Some_of (λ f. Unit {0}) gs
  some_any P [] i = i
  some_any P (x ∷ gs) i = ⊎_elim (λ (p : P x). inl tt) (λ (j : Some_of P gs). inr (some_any P gs j)) i

  ids : IdsAssignedOnce q X
  ids = record {
    k = W.next - 1;
    session = own_of es;
    one = λ i x h. said_of (Shows id_of (λ id. (1 ≤ id) × (id ≤ W.next - 1) × (own_of es id ≡ i))) i x h
        (pairs (λ id. (1 ≤ id) × (id < W.next)) (λ id. own_of es id ≡ i) (λ id. (1 ≤ id) × (id ≤ W.next - 1) × (own_of es id ≡ i)) (shown_by i) (λ n a b. (a.0, (let l = a.1 in omega arith), b)) (within_ids q db es i g) (owned_facts (own_of es) i es (all_owned q db es g)));
    all = λ id l m. let one = assigned_by q db es id g l (let n = next_run q db first es in omega arith) in let s = own_of es id in let b = session_there s (some_any (λ f. In id (id_of f)) (shown_by s) one) in
        let t = there_at s b in (transcript_of (W.at s), t, said_of (Some_of (λ f. In id (id_of f))) s (transcript_of (W.at s)) t one);
    rise = λ i x h. said_of IdsRise i x h (ids_rise q db i first es g);
  }

  -- ---- committed transactions

  transactions_are : (i : ℕ) (x : Transcript) → At X i x → transactions (facts_of q x) ≡ map view (W.at i).done ++ listed (viewed (W.at i).transaction)
  transactions_are i x h = ap transactions (facts_are i x h) ∙ book_is i

  name_apart : (i : ℕ) (x : Transcript) → At X i x → (t : ℕ) → t < length X → t ≢ i → (W.at t).name ≢ (W.at i).name
  name_apart i x h t l ne = let d = whole.names_differ t i (transcript_of (W.at t)) x (there_at t l) h ne in λ e. d (e ∙ sym (ap (λ (y : Transcript). y.session) (of_at i x h).is))

  items_are : (i : ℕ) (s : InputSession) (x : Transcript) → At input i s → At X i x → of_session s.name J ≡ committed_ones (transactions (facts_of q x))
  items_are i s x z h = ap (λ (name : Text). of_session name J) (input_is W.at 0 input X whole.sessions i s z ∙ ap (λ (m : ℕ). (W.at m).name) (omega arith))
      ∙ placed_run q db (λ id name. bytes_eq name (W.at i).name) i first es g (picks_all q db W (length X) i (name_apart i x h) first es g refl whole.all (λ t r. cc)) refl
      ∙ ap committed_ones (sym (transactions_are i x h))

  theirs : JournalIsTheirs q input X J
  theirs = record {
    legal = legal q db es g;
    no_others = each_theirs q db input (length X) W first es g refl whole.all (λ t l. subst (λ (m : ℕ). Some_of (λ s. s.name ≡ (W.at m).name) input) (omega arith) (some_input W.at 0 input X whole.sessions t l)) tt;
    items = items_are;
    ends = λ i x h. throughout_weaker (InPlace q) (EndsWhereItMay q) (λ o n e p. p.ends) None 0 x.entries (in_place i x h);
  }

  -- ---- transactions that changed nothing

  only_past : (i : ℕ) (x : Transcript) → At X i x → transactions (facts_of q x) ≡ map view (W.at i).done
  only_past i x h = transactions_are i x h ∙ ap (λ (o : Option SessionTransaction). map view (W.at i).done ++ listed (viewed o)) ((of_at i x h).rest).free ∙ append-nil (map view (W.at i).done)

  ended_ones : EndedHaveTheirReplies q X J
  ended_ones i x h = subst (Each (λ u. IsEndedOver q J u u.end)) (sym (only_past i x h)) (each_view (λ u. IsEndedOver q J u u.end) (W.at i).done
      (λ d k. over_point q J (W.at i).name d d.fixed (all_settled q db es g i d (inr k))))

  -- ---- setup

  after_setup : (P : List Fact → List Fact → Type 0) → ((u : ℕ) (r : RanBefore u es) (i : ℕ) → i ≢ u → P (shown_by u) (shown_by i)) → (u i : ℕ) (y x : Transcript) → setup ≡ Some u → At X u y → At X i x → i ≢ u → P (facts_of q y) (facts_of q x)
  after_setup P f u i y x is a b ne = subst (λ (z : List Fact × List Fact). P z.0 z.1) (λ k. (sym (facts_are u y a) k, sym (facts_are i x b) k)) (f u (subst (λ (o : Option ℕ). SetupRan o es) is whole.setup_ran) i ne)

  marks_of : (u : ℕ) (r : RanBefore u es) (i : ℕ) → i ≢ u → NoneBelow J (shown_by u) (shown_by i)
  marks_of u r i ne = subst (λ (fs : List Act). NoneBelow (run first fs).items (all_shown (of u fs)) (all_shown (of i fs))) (sym r.is) (setup_marks q db u r.earlier r.later (subst (Good q db first) r.is g) r.others r.gone i ne)

  images_of : (u : ℕ) (r : RanBefore u es) (i : ℕ) → i ≢ u → ImagesOfOthersHave J (shown_by u) (shown_by i)
  images_of u r i ne = subst (λ (fs : List Act). ImagesOfOthersHave (run first fs).items (all_shown (of u fs)) (all_shown (of i fs))) (sym r.is) (setup_images q db u r.earlier r.later (subst (Good q db first) r.is g) r.others r.gone i ne)

  lacks_of : (u : ℕ) (r : RanBefore u es) (i : ℕ) → i ≢ u → In no_digest (shown_by i) → NoneCounted J (shown_by u)
  lacks_of u r i ne = subst (λ (fs : List Act). In no_digest (all_shown (of i fs)) → NoneCounted (run first fs).items (all_shown (of u fs))) (sym r.is) (setup_lacks q db u r.earlier r.later (subst (Good q db first) r.is g) r.others r.gone i ne)

  -- ---- marks

  marks : MarksNeverFall q setup X J
  marks = record {
    rise = λ i x h. said_of (MarksRise J) i x h (rising q db i first es g);
    after_setup = after_setup (NoneBelow J) marks_of;
    images = λ i x h. said_of (ImagesHave J) i x h (images q db i first es g);
    images_after_setup = after_setup (ImagesOfOthersHave J) images_of;
  }

  -- ---- digests

  facts_from : (n : ℕ) (input : List InputSession) (Y : List Transcript) → AreOf W.at n input Y → FactsFrom q shown_by n Y
  facts_from n [] [] a = tt
  facts_from n [] (y ∷ Y) a = absurd a
  facts_from n (s ∷ input) [] a = absurd a
  facts_from n (s ∷ input) (y ∷ Y) a = (ap (facts_of q) a.1 ∙ facts_at_rest n a.2, facts_from (suc n) input Y a.3)

  first_lacks : (i : ℕ) (x : Transcript) (before after : List Fact) → At X i x → facts_of q x ≡ before ++ no_digest ∷ after → NoneCounted J before
  first_lacks i x before after h e = none_before q db es g i before after (sym (facts_are i x h) ∙ e)

  digests : DigestsAreOf q db setup X J W.issued
  digests = record {
    shown = λ i x h. said_of (Each (ShowsHash q J)) i x h (hashes q db i first es g);
    as_many = λ b. let a = digests_counted b (length X) first es whole.all in let c = sum_of_transcripts q shown_by b 0 X (facts_from 0 input X whole.sessions) in omega arith;
    each = issued q db first es g tt;
    rise = blocks_rise q db first es g tt tt;
    first = first_lacks;
    none_of_setup = λ u i y x is a b ne no. after_setup (λ ys xs. In no_digest xs → NoneCounted J ys) lacks_of u i y x is a b ne no;
  }

  -- ---- refusals

  known : Known q db es g setup X
  known = record {
    facts = λ t l. facts_are t (transcript_of (W.at t)) (there_at t l);
    there = there_at;
    book = λ t l. only_past t (transcript_of (W.at t)) (there_at t l);
    free = λ t l. ((of_at t (transcript_of (W.at t)) (there_at t l)).rest).free;
    below = whole.all;
  }

  -- a refusal that comes when setup is over
  setup_cut : (u : ℕ) (fs hs : List Act) → Good q db first (fs ++ hs) → ((s : ℕ) → s ≢ u → of s fs ≡ []) → ((run first fs).at u).phase ≡ gone → (s : ℕ) (text : Text) (holder : ℕ) (xs ys : List SessionAct) → of s (fs ++ hs) ≡ xs ++ meets text holder ∷ ys → CutWith u s (fs ++ hs) xs ys (meets text holder)
  setup_cut u fs hs k others over s text holder xs ys e = let ne = not_refused q db u fs hs k others over s text holder xs ys e in let c = cut_after q db u fs hs k others over s xs ys (meets text holder) ne e in record { at = c.at; over = c.over }

  its_cut : (o : Option ℕ) → setup ≡ o → (s : ℕ) (text : Text) (holder : ℕ) (xs ys : List SessionAct) → of s es ≡ xs ++ meets text holder ∷ ys → SafeCut es setup s xs ys (meets text holder)
  its_cut None none s text holder xs ys e = record { at = cut s es xs ys (meets text holder) e; safe = λ t d k is. cc }
  its_cut (Some u) some s text holder xs ys e = let r : RanBefore u es = subst (λ (o : Option ℕ). SetupRan o es) some whole.setup_ran in
      let c : CutWith u s es xs ys (meets text holder) = subst (λ (fs : List Act). Good q db first fs → of s fs ≡ xs ++ meets text holder ∷ ys → CutWith u s fs xs ys (meets text holder)) (sym r.is) (λ k a. setup_cut u r.earlier r.later k r.others r.gone s text holder xs ys a) g e in record {
        at = c.at;
        safe = λ t d k is. let same : u ≡ t = cc in
            let two = good_append q db first c.at.earlier (by s (meets text holder) ∷ c.at.later) (subst (Good q db first) c.at.is g) in
            let runs_now : ((run first c.at.earlier).at t).phase ≡ runs = alive_run q db first c.at.earlier two.0 (λ x d k. cc) t d k in
            let over_now : ((run first c.at.earlier).at t).phase ≡ gone = ap (λ (x : ℕ). ((run first c.at.earlier).at x).phase) (sym same) ∙ c.over in cc;
      }

  refusals : LockRefusals q setup X J
  refusals s x text holder earlier later h e = let f = find (of s es) earlier later (met text holder) (sym (facts_are s x h) ∙ e) in
      let is : of s es ≡ f.front ++ meets text holder ∷ f.back = f.is ∙ ap (λ (a : SessionAct). f.front ++ a ∷ f.back) (is_meets f.act text holder f.shows) in
      let c = its_cut setup refl s text holder f.front f.back is in
      subst (λ (z : List Fact × List Fact). NamesRightly q J setup X s text holder z.0 z.1) (λ k. (f.before k, f.after k)) (names_rightly q db es g setup X s text holder f.front f.back c.at known c.safe)

  -- ---- agreement

  pub agrees : Agree q db input setup X J W.issued
  agrees = record {
    statements_are_answered = all_in_order 0 input X whole.sessions;
    ids_are_assigned_once = ids;
    journal_is_theirs = theirs;
    ended_have_their_replies = ended_ones;
    marks_never_fall = marks;
    digests_are_the_journals = digests;
    lock_refusals_name_holders = refusals;
    control_is_refused_in_place = λ i x h. throughout_weaker (InPlace q) (IsControlled q) (λ o n e p. p.controlled) None 0 x.entries (in_place i x h);
    else_no_memory = λ i x h. throughout_weaker (InPlace q) (IsElseNoMemory q) (λ o n e p. p.else_no_memory) None 0 x.entries (in_place i x h);
  }
