-- The transactions that a transcript shows are those of its session.
use Rattle.std.proofs.Common.{◌≡◌, ℕ, Bool, true, false, List, [], ◌∷◌, ◌++◌, Option, Some, None, map, refl, sym, ap, ◌∙◌, subst, append_assoc}
use Rattle.spec_history.specs.Lists.{Text, Each}
use Rattle.spec_history.specs.Meaning.{Meaning}
use Rattle.spec_history.specs.Facts.{Fact, began}
use Rattle.spec_history.specs.Transactions.{committed, ended, Transaction, TransactionLog, on_some, listed, adds_line, adds_answer, ends_so, noted, read_facts, blank}
use Rattle.spec_history.specs.Refusals.{IsInside, Within}
use Rattle.spec_history.specs.Acts.{SessionAct, assigns_id, looks, says, fails, meets, commits, ends, releases_locks, issues, keeps, lacks, Act, by, of, shown, all_shown}
use Rattle.spec_history.specs.Sessions.{SessionTransaction, SessionState, view, viewed, asks, hears, scripts, fixes, acted, transaction_by}
use Rattle.spec_history.specs.Worlds.{World, run}
use Rattle.spec_history.specs.Guards.{IsEnabled, Good, IsAnswered}
use Rattle.spec_history.proofs.Trace.{each_append}
use Rattle.spec_history.proofs.Follow.{follow}

-- ---- the book of a session

abbrev pub book_of : SessionState → TransactionLog
book_of x = record { open_one = viewed x.transaction; past = map view x.done }

pub read_append : (b : TransactionLog) (gs hs : List Fact) → read_facts b (gs ++ hs) ≡ read_facts (read_facts b gs) hs
read_append b [] hs = refl
read_append b (g ∷ gs) hs = read_append (noted b g) gs hs

pub map_view_append : (xs ys : List SessionTransaction) → map view (xs ++ ys) ≡ map view xs ++ map view ys
map_view_append [] ys = refl
map_view_append (x ∷ xs) ys = ap (λ (l : List Transaction). view x ∷ l) (map_view_append xs ys)

on_view : (f : SessionTransaction → SessionTransaction) (g : Transaction → Transaction) → ((d : SessionTransaction) → view (f d) ≡ g (view d)) → (o : Option SessionTransaction) → on_some g (viewed o) ≡ viewed (on_some f o)
on_view f g e None = refl
on_view f g e (Some d) = ap Some (sym (e d))

same_view : (f : SessionTransaction → SessionTransaction) → ((d : SessionTransaction) → view (f d) ≡ view d) → (o : Option SessionTransaction) → viewed o ≡ viewed (on_some f o)
same_view f e None = refl
same_view f e (Some d) = ap Some (sym (e d))

turned : (x : SessionState) (o : Option Transaction) (p : List Transaction) → viewed x.transaction ≡ o → map view x.done ≡ p → record { open_one = o; past = p } ≡ book_of x
turned x o p a b = λ k. record { open_one = sym a k; past = sym b k }

pub listed_view : (o : Option SessionTransaction) → listed (viewed o) ≡ map view (listed o)
listed_view None = refl
listed_view (Some d) = refl

pub book_act : (x : SessionState) (a : SessionAct) → read_facts (book_of x) (shown a) ≡ book_of (acted x a)
book_act x (assigns_id id explicit) = refl
book_act x (looks text table) = turned (acted x (looks text table)) (viewed x.transaction) (map view x.done) (sym (same_view (asks text table) (λ d. refl) x.transaction)) refl
book_act x (says line) = turned (acted x (says line)) (on_some (adds_line line) (viewed x.transaction)) (map view x.done) (sym (on_view (scripts line) (adds_line line) (λ d. refl) x.transaction)) refl
book_act x (fails text) = turned (acted x (fails text)) (on_some (adds_answer text true) (viewed x.transaction)) (map view x.done) (sym (on_view (hears text true) (adds_answer text true) (λ d. refl) x.transaction)) refl
book_act x (meets text holder) = turned (acted x (meets text holder)) (on_some (adds_answer text false) (viewed x.transaction)) (map view x.done) (sym (on_view (hears text false) (adds_answer text false) (λ d. refl) x.transaction)) refl
book_act x (commits time place) = turned (acted x (commits time place)) (on_some (ends_so (committed place)) (viewed x.transaction)) (map view x.done) (sym (on_view (fixes (committed place)) (ends_so (committed place)) (λ d. refl) x.transaction)) refl
book_act x (ends n back) = turned (acted x (ends n back)) (on_some (ends_so (ended n back)) (viewed x.transaction)) (map view x.done) (sym (on_view (fixes (ended n back)) (ends_so (ended n back)) (λ d. refl) x.transaction)) refl
book_act x releases_locks = turned (acted x releases_locks) None (map view x.done ++ listed (viewed x.transaction)) refl (map_view_append x.done (listed x.transaction) ∙ ap (λ (l : List Transaction). map view x.done ++ l) (sym (listed_view x.transaction)))
book_act x a = refl

abbrev pub HasBook : SessionState → List Fact → Type 0
HasBook x gs = read_facts blank gs ≡ book_of x

module _ (q : Meaning) (db : Text) where
  pub has_book : (s : ℕ) (w : World) (es : List Act) (gs : List Fact) → Good q db w es → HasBook (w.at s) gs → HasBook ((run w es).at s) (gs ++ all_shown (of s es))
  has_book = follow q db HasBook (λ w s a gs k h. read_append blank gs (shown a) ∙ ap (λ (b : TransactionLog). read_facts b (shown a)) h ∙ book_act (w.at s) a)

-- ---- the open one's place among the facts

abbrev pub OpenIsWithin : Option SessionTransaction → List Fact → Type 0
OpenIsWithin None gs = Unit {0}
OpenIsWithin (Some d) gs = Within d.id d.explicit gs

within_more : (id : ℕ) (o : Bool) (gs hs : List Fact) → Each IsInside hs → Within id o gs → Within id o (gs ++ hs)
within_more id o gs hs h m = record {
  before = m.before;
  inside = m.inside ++ hs;
  is = ap (λ (l : List Fact). l ++ hs) m.is ∙ append_assoc m.before (began id o ∷ m.inside) hs;
  all_inside = each_append IsInside m.inside hs m.all_inside h;
}

within_on : (f : SessionTransaction → SessionTransaction) → ((d : SessionTransaction) → ((f d).id ≡ d.id) × ((f d).explicit ≡ d.explicit)) → (o : Option SessionTransaction) (gs hs : List Fact) → Each IsInside hs → OpenIsWithin o gs → OpenIsWithin (on_some f o) (gs ++ hs)
within_on f same None gs hs h m = tt
within_on f same (Some d) gs hs h m = let e = same d in rw (e.0, e.1) (within_more d.id d.explicit gs hs h m)

within_same : (o : Option SessionTransaction) (gs hs : List Fact) → Each IsInside hs → OpenIsWithin o gs → OpenIsWithin o (gs ++ hs)
within_same None gs hs h m = tt
within_same (Some d) gs hs h m = within_more d.id d.explicit gs hs h m

within_act : (o : Option SessionTransaction) (gs : List Fact) (a : SessionAct) → OpenIsWithin o gs → OpenIsWithin (transaction_by o a) (gs ++ shown a)
within_act o gs (assigns_id id explicit) m = record { before = gs; inside = []; is = refl; all_inside = tt }
within_act o gs (looks text table) m = within_on (asks text table) (λ d. (refl, refl)) o gs [] tt m
within_act o gs (says line) m = within_on (scripts line) (λ d. (refl, refl)) o gs (shown (says line)) (tt, tt) m
within_act o gs (fails text) m = within_on (hears text true) (λ d. (refl, refl)) o gs (shown (fails text)) (tt, tt) m
within_act o gs (meets text holder) m = within_on (hears text false) (λ d. (refl, refl)) o gs (shown (meets text holder)) (tt, tt) m
within_act o gs (commits time place) m = within_on (fixes (committed place)) (λ d. (refl, refl)) o gs (shown (commits time place)) (tt, tt) m
within_act o gs (ends n back) m = within_on (fixes (ended n back)) (λ d. (refl, refl)) o gs (shown (ends n back)) (tt, tt) m
within_act o gs releases_locks m = tt
within_act o gs (issues d mark) m = within_same o gs (shown (issues d mark)) (tt, tt) m
within_act o gs (keeps items mark) m = within_same o gs (shown (keeps items mark)) (tt, tt) m
within_act o gs lacks m = within_same o gs (shown lacks) (tt, tt) m
within_act o gs a m = within_same o gs [] tt m

module _ (q : Meaning) (db : Text) where
  pub open_is_within : (s : ℕ) (w : World) (es : List Act) (gs : List Fact) → Good q db w es → OpenIsWithin (w.at s).transaction gs → OpenIsWithin ((run w es).at s).transaction (gs ++ all_shown (of s es))
  open_is_within = follow q db (λ x gs. OpenIsWithin x.transaction gs) (λ w s a gs k h. within_act (w.at s).transaction gs a h)

  pub within_of : (w : World) (es : List Act) (s : ℕ) (d : SessionTransaction) → Good q db w es → (w.at s).transaction ≡ None → ((run w es).at s).transaction ≡ Some d → Within d.id d.explicit (all_shown (of s es))
  within_of w es s d g none has = subst (λ (o : Option SessionTransaction). OpenIsWithin o (all_shown (of s es))) has (open_is_within s w es [] g (subst (λ (o : Option SessionTransaction). OpenIsWithin o []) (sym none) tt))

-- ---- all that counts was answered

abbrev pub AllAnswered : SessionTransaction → Type 0
AllAnswered d = Each (IsAnswered d.answered) d.asked

module _ (q : Meaning) (db : Text) where
  answered_act : (w : World) (s : ℕ) (a : SessionAct) (gs : List Fact) → IsEnabled q db w (by s a) → Each AllAnswered (w.at s).done → Each AllAnswered (acted (w.at s) a).done
  answered_act w s releases_locks gs k h = subst (λ (o : Option SessionTransaction). Each AllAnswered ((w.at s).done ++ listed o)) (sym k.has) (each_append AllAnswered (w.at s).done (k.mine ∷ []) h (k.all_answered, tt))
  answered_act w s a gs k h = h

  pub all_answered : (s : ℕ) (w : World) (es : List Act) (gs : List Fact) → Good q db w es → Each AllAnswered (w.at s).done → Each AllAnswered ((run w es).at s).done
  all_answered = follow q db (λ x gs. Each AllAnswered x.done) answered_act
