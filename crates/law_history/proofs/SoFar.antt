-- At each moment of a good history the rules hold of all that was shown so far.
use Rattle.std.proofs.Common.{◌≡◌, ◌≢◌, ℕ, suc, ◌+◌, ◌<◌, ◌≤◌, List, [], ◌∷◌, ◌++◌, map, Option, Some, None, refl, sym, ap, ◌∙◌, subst, ⊎_elim, inl, inr, arith}
use Rattle.std.specs.Prelude.{◌==◌}
use Rattle.spec_history.specs.Lists.{Text, Each, Some_of, In, sum_from}
use Rattle.sql_types.specs.declared.journal.JournalItem.TheVariants.{Close}
use Rattle.spec_history.specs.Digests.{of_block, replies_of_block}
use Rattle.spec_history.specs.Meaning.{Meaning}
use Rattle.spec_history.specs.Facts.{Fact, met, id_of, Shows}
use Rattle.spec_history.specs.Transactions.{unfixed, TransactionLog, listed, transactions}
use Rattle.spec_history.specs.Marks.{MarksRise, IdsRise, ImagesHave}
use Rattle.spec_history.specs.Refusals.{Within}
use Rattle.spec_history.specs.Agree.{committed_ones, IsEndedOver, ShowsHash}
use Rattle.spec_history.specs.Acts.{SessionAct, assigns_id, meets, commits, Act, by, closes, of, all_shown, assigned_id}
use Rattle.spec_history.specs.Sessions.{Phase, unborn, runs, SessionTransaction, view, viewed, transaction_by}
use Rattle.spec_history.specs.Worlds.{World, first, item_of, items_by, step, run}
use Rattle.spec_history.specs.Guards.{Good, Meets, Commits}
use Rattle.spec_history.specs.Histories.{SessionsBelow}
use Rattle.spec_history.specs.SoFar.{facts_so_far, IsNamed, MetBetween, MetRightly, AgreeSoFar}
use Rattle.spec_history.proofs.Trace.{each_append}
use Rattle.spec_history.proofs.Cuts.{cut}
use Rattle.law_history.proofs.TranscriptsSoFar.{told}
use Rattle.spec_history.proofs.TransactionLogs.{has_book, within_of}
use Rattle.spec_history.proofs.Rising.{rising, ids_rise, images}
use Rattle.law_history.proofs.Owners.{own_of, OwnedBy, AllOwned, all_owned, owned_facts, assigned_by, within_ids}
use Rattle.law_history.proofs.Placed.{PicksAll, placed_run}
use Rattle.spec_history.proofs.Legal.{legal, came, was_there}
use Rattle.spec_history.proofs.Issued.{hashes, issued, blocks_rise, digests_counted}
use Rattle.spec_history.proofs.Finding.{find, is_meets}
use Rattle.law_history.proofs.Lacks.{none_before}
use Rattle.law_history.proofs.Names.{keeps_name}
use Rattle.spec_history.proofs.Follow.{shown_append}
use Rattle.spec_history.proofs.Refused.{all_settled, clash_stays, parts, met_between, its_cut, below_or_nil}
use Rattle.law_history.proofs.Agreed.{each_view, pairs, over_point}

-- ---- each transaction belongs to the session that drew its id

abbrev pub Owned : (ℕ → ℕ) → World → Type 0
Owned own w = (t : ℕ) (d : SessionTransaction) → (w.at t).transaction ≡ Some d → own d.id ≡ t

owns_drawn : (own : ℕ → ℕ) (s n : ℕ) (a : SessionAct) → OwnedBy own s a → In n (assigned_id a) → own n ≡ s
owns_drawn own s n (assigns_id id explicit) h i = ⊎_elim (λ (e : id ≡ n). ap own (sym e) ∙ h) (λ (j : ⊥). absurd j) i
owns_drawn own s n a h i = absurd i

module _ (q : Meaning) (db : Text) where
  owned_step : (own : ℕ → ℕ) (w : World) (s : ℕ) (a : SessionAct) → OwnedBy own s a → Owned own w → Owned own (step w (by s a))
  owned_step own w s a k h u d e = ⊎_elim
      (λ (m : (u ≡ s) × (transaction_by (w.at s).transaction a ≡ Some d)). ⊎_elim (λ (i : In d.id (assigned_id a)). owns_drawn own s d.id a k i ∙ sym m.0)
      (λ (o : (c : SessionTransaction) × ((w.at s).transaction ≡ Some c) × (d.id ≡ c.id) × (d.fixed ≡ unfixed → c.fixed ≡ unfixed)). ap own o.2 ∙ h s o.0 o.1 ∙ sym m.0) (came (w.at s).transaction a d m.1))
      (λ (m : (u ≢ s) × ((w.at u).transaction ≡ Some d)). h u d m.1)
      (was_there q db w s u a d (u == s) refl e)

  picks_own : (own : ℕ → ℕ) (s : ℕ) (w : World) (es : List Act) → Owned own w → AllOwned own es → PicksAll q db (λ id name. own id == s) s w es
  picks_own own s w [] h k = tt
  picks_own own s w (by t a ∷ es) h k = ((λ r d runs_now e. ap (λ (n : ℕ). n == s) (h r d e)), picks_own own s (step w (by t a)) es (owned_step own w t a k.0 h) k.1)
  picks_own own s w (closes n ∷ es) h k = ((λ r d runs_now e. ap (λ (n : ℕ). n == s) (h r d e)), picks_own own s (step w (closes n)) es h k)

  module _ (es : List Act) (g : Good q db first es) where
    abbrev W : World
    W = run first es

    -- what was shown is what the acts show
    shown_are : (s : ℕ) → facts_so_far q W s ≡ all_shown (of s es)
    shown_are s = (told q db s first es [] g (record { shows = refl; in_order = refl; end_is_last = tt; in_place = tt })).shows

    said_of : (P : List Fact → Type 0) (s : ℕ) → P (all_shown (of s es)) → P (facts_so_far q W s)
    said_of P s p = subst P (sym (shown_are s)) p

    books_are : (s : ℕ) → transactions (facts_so_far q W s) ≡ map view (W.at s).done ++ listed (viewed (W.at s).transaction)
    books_are s = ap transactions (shown_are s) ∙ ap (λ (b : TransactionLog). b.past ++ listed b.open_one) (has_book q db s first es [] g refl)

    open_ended : (s : ℕ) (o : Option SessionTransaction) → (W.at s).transaction ≡ o → Each (λ u. IsEndedOver q W.items u u.end) (listed (viewed o))
    open_ended s None e = tt
    open_ended s (Some d) e = (over_point q W.items (W.at s).name d d.fixed (all_settled q db es g s d (inl e)), tt)

    ended : (s : ℕ) → Each (λ u. IsEndedOver q W.items u u.end) (transactions (facts_so_far q W s))
    ended s = subst (Each (λ u. IsEndedOver q W.items u u.end)) (sym (books_are s)) (each_append (λ u. IsEndedOver q W.items u u.end) (map view (W.at s).done) (listed (viewed (W.at s).transaction))
        (each_view (λ u. IsEndedOver q W.items u u.end) (W.at s).done (λ d k. over_point q W.items (W.at s).name d d.fixed (all_settled q db es g s d (inr k))))
        (open_ended s (W.at s).transaction refl))

    met_rightly : (s : ℕ) (text : Text) (holder : ℕ) (earlier later : List Fact) → facts_so_far q W s ≡ earlier ++ met text holder ∷ later → MetRightly q W s text holder earlier later
    met_rightly s text holder earlier later e = let f = find (of s es) earlier later (met text holder) (sym (shown_are s) ∙ e) in
        let c = cut s es f.front f.back (meets text holder) (f.is ∙ ap (λ (a : SessionAct). f.front ++ a ∷ f.back) (is_meets f.act text holder f.shows)) in
        let two = parts q db es g None [] s text holder f.front f.back c in
        let m : Meets q (run first c.earlier) s text holder = two.1.0 in record {
          mine = m.mine.id;
          explicit = m.mine.explicit;
          within = subst (Within m.mine.id m.mine.explicit) (ap all_shown c.before ∙ f.before) (within_of q db first c.earlier s m.mine two.0 refl m.stands.has);
          other = m.other;
          differs = m.differs;
          between = let b = met_between q db es g None [] s text holder f.front f.back c in
              subst (λ (z : (List Fact × List Fact) × (ℕ × List Fact)). MetBetween W.items z.0.0 z.0.1 m.mine.id z.1.0 z.1.1)
              (λ i. (((ap all_shown c.before ∙ f.before) i, (ap all_shown c.after ∙ f.after) i), (m.is i, (sym (shown_append (of m.other c.earlier) (of m.other c.later)) ∙ ap all_shown (sym (its_cut q db es g None [] s text holder f.front f.back c)) ∙ sym (shown_are m.other)) i))) b;
          against = clash_stays q db es c.earlier c.later s text holder c.is two.0 m two.1.1;
        }

    -- ---- names

    its_name : (w : World) (fs : List Act) (s : ℕ) (a : SessionAct) → Good q db w (by s a ∷ fs) → run w (by s a ∷ fs) ≡ W → Owned (own_of es) w → Each (IsNamed (own_of es) W.at) (items_by (w.at s) a)
    its_name w fs s (commits time place) k e own = let c : Commits q w s time place = k.0 in
        let kept : (W.at s).name ≡ (w.at s).name = subst (λ (v : World). (v.at s).name ≡ (w.at s).name) e (keeps_name q db (w.at s).name s w (by s (commits time place) ∷ fs) k (begun (w.at s).phase c.stands.runs, refl)).1 in
        subst (λ (o : Option SessionTransaction). Each (IsNamed (own_of es) W.at) (item_of (w.at s) o time)) (sym c.stands.has)
        (sym kept ∙ ap (λ (t : ℕ). (W.at t).name) (sym (own s c.mine c.stands.has)), tt)
      where
        begun : (p : Phase) → p ≡ runs → p ≢ unborn
        begun p r = λ u. cc
    its_name w fs s a k e own = tt

    named : (w : World) (fs : List Act) → Good q db w fs → run w fs ≡ W → Owned (own_of es) w → AllOwned (own_of es) fs → Each (IsNamed (own_of es) W.at) w.items → Each (IsNamed (own_of es) W.at) (run w fs).items
    named w [] k e own all h = h
    named w (by s a ∷ fs) k e own all h = named (step w (by s a)) fs k.1 e (owned_step (own_of es) w s a all.0 own) all.1 (each_append (IsNamed (own_of es) W.at) w.items (items_by (w.at s) a) h (its_name w fs s a k e own))
    named w (closes n ∷ fs) k e own all h = named (step w (closes n)) fs k.1 e own all (each_append (IsNamed (own_of es) W.at) w.items (Close n ∷ []) h (tt, tt))

    -- ---- counts

    below_more : (k n : ℕ) (fs : List Act) → SessionsBelow k fs → SessionsBelow (k + n) fs
    below_more k n [] h = tt
    below_more k n (by s a ∷ fs) h = ((let l = h.0 in omega arith), below_more k n fs h.1)
    below_more k n (closes m ∷ fs) h = below_more k n fs h

    all_below : (fs : List Act) → (k : ℕ) × SessionsBelow k fs
    all_below [] = (0, tt)
    all_below (by s a ∷ fs) = let r = all_below fs in (r.0 + suc s, (omega arith, below_more r.0 (suc s) fs r.1))
    all_below (closes k ∷ fs) = all_below fs

    abbrev sessions : ℕ
    sessions = (all_below es).0

    silent : (s : ℕ) → sessions ≤ s → facts_so_far q W s ≡ []
    silent s l = shown_are s ∙ ap all_shown (⊎_elim (λ (m : s < sessions). absurd (omega (arith, l, m))) (λ (none : of s es ≡ []). none) (below_or_nil s sessions es (all_below es).1))

    counted : (b : ℕ) → of_block b W.issued ≡ sum_from 0 sessions (λ s. replies_of_block b (facts_so_far q W s))
    counted b =
        let all : of_block b W.issued ≡ of_block b first.issued + sum_from 0 sessions (λ s. replies_of_block b (all_shown (of s es))) = digests_counted b sessions first es (all_below es).1 in
        let same : sum_from 0 sessions (λ s. replies_of_block b (all_shown (of s es))) ≡ sum_from 0 sessions (λ s. replies_of_block b (facts_so_far q W s)) = ap (λ (f : ℕ → ℕ). sum_from 0 sessions f) (λ i s. replies_of_block b (sym (shown_are s) i)) in
        omega (arith, all, same)

    pub so_far : AgreeSoFar q db W
    so_far = record {
      session = own_of es;
      ids = λ s. said_of (Shows id_of (λ id. (1 ≤ id) × (id < W.next) × (own_of es id ≡ s))) s
          (pairs (λ id. (1 ≤ id) × (id < W.next)) (λ id. own_of es id ≡ s) (λ id. (1 ≤ id) × (id < W.next) × (own_of es id ≡ s)) (all_shown (of s es)) (λ n a b. (a.0, a.1, b)) (within_ids q db es s g) (owned_facts (own_of es) s es (all_owned q db es g)));
      all_ids_assigned = λ id l m. said_of (Some_of (λ f. In id (id_of f))) (own_of es id) (assigned_by q db es id g l m);
      ids_rise = λ s. said_of IdsRise s (ids_rise q db s first es g);
      legal = legal q db es g;
      items = λ s. placed_run q db (λ id name. own_of es id == s) s first es g (picks_own (own_of es) s first es (λ t d e. cc) (all_owned q db es g)) refl ∙ ap committed_ones (sym (books_are s));
      names = named first es g refl (λ t d e. cc) (all_owned q db es g) tt;
      ended = ended;
      marks_rise = λ s. said_of (MarksRise W.items) s (rising q db s first es g);
      images = λ s. said_of (ImagesHave W.items) s (images q db s first es g);
      shown = λ s. said_of (Each (ShowsHash q W.items)) s (hashes q db s first es g);
      issued = issued q db first es g tt;
      blocks_rise = blocks_rise q db first es g tt tt;
      count = sessions;
      no_others = silent;
      as_many = counted;
      none_counted = λ s before after e. none_before q db es g s before after (sym (shown_are s) ∙ e);
      in_place = λ s. (told q db s first es [] g (record { shows = refl; in_order = refl; end_is_last = tt; in_place = tt })).in_place;
      refusals = met_rightly;
    }
