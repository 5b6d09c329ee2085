-- Whose each session is: the past's seat has those that were before, and no other.
use Rattle.std.proofs.Common.{◌≡◌, ℕ, zero, suc, ◌+◌, ◌<◌, ◌≤◌, Bool, true, false, List, [], ◌∷◌, ◌++◌, map, flat_map, Option, None, refl, sym, ap, ◌∙◌, subst, ⊎_elim, inl, inr, arith, append-nil}
use Rattle.std.specs.Prelude.{◌==◌, if◌then◌else◌}
use Rattle.std.proofs.lemmas.Bool.{cases_lt}
use Rattle.spec_history.specs.Acts.{SessionAct, assigns_id, Act, by, closes, of, assigned_id, shown, all_shown}
use Rattle.spec_history.specs.Facts.{Fact, Shows, facts, facts_of, id_of}
use Rattle.spec_history.specs.Guards.{AtRest, Good}
use Rattle.spec_history.specs.Lists.{Text, Each, Some_of, In}
use Rattle.spec_history.specs.Sessions.{SessionState, gone, transcript_of}
use Rattle.spec_history.specs.Transactions.{listed}
use Rattle.spec_history.specs.Worlds.{World, first, run, step}
use Rattle.spec_history.proofs.Cuts.{good_append, of_append, run_append}
use Rattle.spec_history.proofs.Follow.{eqb_sym}
use Rattle.law_history.proofs.Owners.{all_owned, own_of, owned_facts}
use Rattle.spec_history.proofs.Settles.{in_append, in_left, in_right}
use Rattle.spec_history.proofs.Setup.{silent}
use Rattle.law_history.proofs.TranscriptsSoFar.{told}
use Rattle.spec_protocol.specs.Cells.{Cell}
use Rattle.spec_protocol.specs.Parts.{Numbers, Past}
use Rattle.spec_protocol.specs.Seats.{SeatState, Written}
use Rattle.spec_protocol.specs.Server.{Server}
use Rattle.spec_protocol.specs.StandTogether.{History, Stands}
use Rattle.law_protocol_end.proofs.GoneFree.{gone_rests}
use Rattle.law_protocol_end.proofs.JoinsStand.{rests_none}
use Rattle.law_continued.specs.Continued.{transcripts_from}
use Rattle.law_continued.specs.Start.{Start}

-- ---- who does nothing stays as it is

one_stays : (s t : ℕ) (a : SessionAct) (xs : List SessionAct) (x y : SessionState) (b : Bool) → (t == s) ≡ b → (if b then a ∷ xs else xs) ≡ [] → ((t == s) ≡ false) × (xs ≡ [])
one_stays s t a xs x y true e h = absurd cc
one_stays s t a xs x y false e h = (e, h)

flip_false : (s t : ℕ) → (t == s) ≡ false → (s == t) ≡ false
flip_false s t e = eqb_sym s t ∙ e

pub stays_so : (s : ℕ) (w : World) (es : List Act) → of s es ≡ [] → (run w es).at s ≡ w.at s
stays_so s w [] h = refl
stays_so s w (by t a ∷ es) h =
    let two = one_stays s t a (of s es) (w.at s) (w.at t) (t == s) refl h in
    stays_so s (step w (by t a)) es two.1 ∙ here (flip_false s t two.0)
  where
    here : (s == t) ≡ false → (step w (by t a)).at s ≡ w.at s
    here e = rw e refl
stays_so s w (closes k ∷ es) h = stays_so s (step w (closes k)) es h

-- ---- an id that is drawn is shown

shown_drawn : (id : ℕ) (a : SessionAct) (gs : List Fact) → In id (assigned_id a) → Some_of (λ g. In id (id_of g)) (shown a ++ gs)
shown_drawn id (assigns_id n explicit) gs i = inl i
shown_drawn id a gs i = absurd i

some_behind : (P : Fact → Type 0) (gs hs : List Fact) → Some_of P hs → Some_of P (gs ++ hs)
some_behind P [] hs h = h
some_behind P (g ∷ gs) hs h = inr (some_behind P gs hs h)

all_drawn : (id : ℕ) (xs : List SessionAct) → In id (flat_map assigned_id xs) → Some_of (λ g. In id (id_of g)) (all_shown xs)
all_drawn id [] i = absurd i
all_drawn id (a ∷ xs) i = ⊎_elim
    (λ (h : In id (assigned_id a)). shown_drawn id a (all_shown xs) h)
    (λ (h : In id (flat_map assigned_id xs)). some_behind (λ g. In id (id_of g)) (shown a) (all_shown xs) (all_drawn id xs h))
    (in_append id (assigned_id a) (flat_map assigned_id xs) i)

draws_front : (id : ℕ) (xs ys : List SessionAct) → In id (flat_map assigned_id xs) → In id (flat_map assigned_id (xs ++ ys))
draws_front id [] ys i = absurd i
draws_front id (a ∷ xs) ys i = ⊎_elim
    (λ (h : In id (assigned_id a)). in_left id (assigned_id a) (flat_map assigned_id (xs ++ ys)) h)
    (λ (h : In id (flat_map assigned_id xs)). in_right id (assigned_id a) (flat_map assigned_id (xs ++ ys)) (draws_front id xs ys h))
    (in_append id (assigned_id a) (flat_map assigned_id xs) i)

owner_one : (own : ℕ → ℕ) (s id : ℕ) (ns : List ℕ) → Each (λ n. own n ≡ s) ns → In id ns → own id ≡ s
owner_one own s id [] h i = absurd i
owner_one own s id (n ∷ ns) h i = ⊎_elim (λ (e : n ≡ id). ap own (sym e) ∙ h.0) (λ (k : In id ns). owner_one own s id ns h.1 k) i

owner_of : (own : ℕ → ℕ) (s id : ℕ) (gs : List Fact) → Shows id_of (λ n. own n ≡ s) gs → Some_of (λ g. In id (id_of g)) gs → own id ≡ s
owner_of own s id [] h i = absurd i
owner_of own s id (g ∷ gs) h (inl i) = owner_one own s id (id_of g) h.0 i
owner_of own s id (g ∷ gs) h (inr i) = owner_of own s id gs h.1 i

-- ---- numbers

abbrev numbers : ℕ → ℕ → List ℕ
numbers n zero = []
numbers n (suc k) = n ∷ numbers (suc n) k

among : (n k i : ℕ) → n ≤ i → i < n + k → In i (numbers n k)
among n zero i l m = absurd (omega (arith, l, m))
among n (suc k) i l m = ⊎_elim (λ (e : n < i). inr (among (suc n) k i (omega (arith, e)) (omega (arith, m)))) (λ e. inl (let same : n ≡ i = omega (arith, e, l) in same)) (cases_lt n i)

among_least : (n k i : ℕ) → In i (numbers n k) → i < n + k
among_least n zero i h = absurd h
among_least n (suc k) i h = ⊎_elim (λ (e : n ≡ i). omega (arith, e)) (λ (j : In i (numbers (suc n) k)). let l = among_least (suc n) k i j in omega (arith, l)) h

module _ (v : Server) (database : Text) (size : ℕ) (start : Start v database size) (events : History) (cells : List Cell) (seats : List SeatState) (st : Stands v (start.history ++ events) cells (start.seat ∷ seats)) where
  abbrev pub h : History
  h = start.history ++ events

  abbrev pub past_world : World
  past_world = run first start.history

  abbrev pub W : World
  W = run first h

  abbrev pub count : ℕ
  count = start.count

  abbrev db : Text
  db = st.ledger.database

  good : Good v.meaning db first h
  good = st.transcripts_agree.good

  pub parts : Good v.meaning db first start.history × Good v.meaning db past_world events
  parts = good_append v.meaning db first start.history events good

  pub splits : W ≡ run past_world events
  splits = run_append first start.history events

  -- ---- those that were before

  pub silent_then : (n : ℕ) → n < count → (of n events ≡ []) × (((run past_world events).at n).phase ≡ gone)
  silent_then n l = silent v.meaning db n past_world events (start.over.over n l) parts.1

  pub as_it_was : (n : ℕ) → n < count → W.at n ≡ past_world.at n
  as_it_was n l = ap (λ (w : World). w.at n) splits ∙ stays_so n past_world events (silent_then n l).0

  pub gone_then : (n : ℕ) → n < count → (W.at n).phase ≡ gone
  gone_then n l = ap (λ (x : SessionState). x.phase) (as_it_was n l) ∙ start.over.over n l

  -- a transcript of a session that is over shows all that it did
  shows_all : (n : ℕ) → (W.at n).phase ≡ gone → facts_of v.meaning (transcript_of (W.at n)) ≡ all_shown (of n h)
  shows_all n over =
      let rest : AtRest (W.at n) = gone_rests v.meaning db h good n over in
      let all = (told v.meaning db n first h [] good (record { shows = refl; in_order = refl; end_is_last = tt; in_place = tt })).shows in
      sym (append-nil (facts v.meaning None (W.at n).so_far.entries)) ∙ ap (λ (l : List Fact). facts v.meaning None (W.at n).so_far.entries ++ l) (sym rest.shown) ∙ all

  -- the one whose transcript shows this id is its owner
  its_owner : (n id : ℕ) → Some_of (λ g. In id (id_of g)) (all_shown (of n h)) → own_of h id ≡ n
  its_owner n id i = owner_of (own_of h) n id (all_shown (of n h)) (owned_facts (own_of h) n h (all_owned v.meaning db h good)) i

  drew_then : (k : ℕ) → k < count → Some_of (λ g. In (suc k) (id_of g)) (all_shown (of k h))
  drew_then k l = all_drawn (suc k) (of k h) (subst (λ (xs : List SessionAct). In (suc k) (flat_map assigned_id xs)) (sym (of_append k start.history events)) (draws_front (suc k) (of k start.history) (of k events) (start.drew k l)))

  -- who has its transcript is the same session
  pub same_one : (n k : ℕ) → k < count → (W.at n).phase ≡ gone → transcript_of (W.at n) ≡ transcript_of (past_world.at k) → n ≡ k
  same_one n k l over e =
      let facts_same : all_shown (of n h) ≡ all_shown (of k h) =
      sym (shows_all n over) ∙ ap (facts_of v.meaning) (e ∙ ap transcript_of (sym (as_it_was k l))) ∙ shows_all k (gone_then k l) in
      sym (its_owner n (suc k) (subst (Some_of (λ g. In (suc k) (id_of g))) (sym facts_same) (drew_then k l))) ∙ its_owner k (suc k) (drew_then k l)

  -- ---- the seat of the past

  abbrev its : Numbers
  its = st.transcripts_agree.of_seat 0

  past_numbers : (ns : List ℕ) (ws : List Written) (n k : ℕ) → n + k ≤ count → Past h ns ws → map (λ (w : Written). w.transcript) ws ≡ transcripts_from past_world n k → ns ≡ numbers n k
  past_numbers [] [] n zero l p e = refl
  past_numbers [] [] n (suc k) l p e = cc
  past_numbers [] (w ∷ ws) n k l p e = absurd p
  past_numbers (m ∷ ns) [] n k l p e = absurd p
  past_numbers (m ∷ ns) (w ∷ ws) n zero l p e = cc
  past_numbers (m ∷ ns) (w ∷ ws) n (suc k) l p e =
      let one : w.transcript ≡ transcript_of (past_world.at n) = cc in
      let others : map (λ (x : Written). x.transcript) ws ≡ transcripts_from past_world (suc n) k = cc in
      let first_is : m ≡ n = same_one m n (omega (arith, l)) p.0.over (p.0.is ∙ one) in
      let rest_are : ns ≡ numbers (suc n) k = past_numbers ns ws (suc n) k (omega (arith, l)) p.1 others in
      λ i. first_is i ∷ rest_are i

  numbers_are : its.past ≡ numbers 0 count
  numbers_are = past_numbers its.past start.seat.written 0 count (omega arith) (st.transcripts_agree.agree 0 start.seat refl).sessions.past start.wrote

  none_now : its.now ≡ None
  none_now = rests_none v.meaning h its.now start.seat.role start.rests (st.transcripts_agree.agree 0 start.seat refl).sessions.now

  all_are : its.past ++ listed its.now ≡ numbers 0 count
  all_are = ap (λ (o : Option ℕ). its.past ++ listed o) none_now ∙ append-nil its.past ∙ numbers_are

  each_in : (P : ℕ → Type 0) (ns : List ℕ) (n : ℕ) → Each P ns → In n ns → P n
  each_in P [] n e i = absurd i
  each_in P (m ∷ ns) n e i = ⊎_elim (λ (same : m ≡ n). subst P same e.0) (λ (j : In n ns). each_in P ns n e.1 j) i

  pub its_own : (n : ℕ) → n < count → st.transcripts_agree.owner n ≡ 0
  its_own n l = each_in (λ m. st.transcripts_agree.owner m ≡ 0) (its.past ++ listed its.now) n (st.transcripts_agree.own 0 start.seat refl) (subst (In n) (sym all_are) (among 0 count n (omega arith) (omega (arith, l))))

  -- a session that came since isn't the past's
  pub not_its : (n : ℕ) → count ≤ n → In n (its.past ++ listed its.now) → ⊥
  not_its n l i = let m = among_least 0 count n (subst (In n) all_are i) in absurd (omega (arith, l, m))
