-- The items behind the past are those that the sessions committed, in order and each at its place.
use Rattle.std.proofs.Common.{◌≡◌, ◌≢◌, ℕ, suc, ◌+◌, ◌<◌, ◌≤◌, Bool, true, false, List, [], ◌∷◌, ◌++◌, Option, Some, refl, sym, ap, ◌∙◌, subst, ⊎_elim, arith}
use Rattle.std.specs.Prelude.{if◌then◌else◌, ◌==◌, leb}
use Rattle.std.specs.Str.{bytes_eq}
use Rattle.std.proofs.lemmas.Bool.{le-leb, lt-leb}
use Rattle.sql_types.specs.declared.journal.JournalItem.{JournalItem}
use Rattle.sql_types.specs.declared.journal.JournalItem.TheVariants.{Tx, Close}
use Rattle.spec_model.specs.Journals.{tx_count}
use Rattle.spec_history.specs.Lists.{Text, Each, Some_of, In}
use Rattle.spec_history.specs.Inputs.{InputSession}
use Rattle.spec_history.specs.Journals.{ids_of}
use Rattle.spec_history.specs.Meaning.{Meaning}
use Rattle.spec_history.specs.Transactions.{unfixed}
use Rattle.spec_history.specs.Agree.{IsOneOfTheirs, Placed, picked}
use Rattle.spec_history.specs.Acts.{SessionAct, commits, Act, by, closes, assigned_id}
use Rattle.spec_history.specs.Sessions.{Phase, unborn, runs, SessionTransaction, transaction_by}
use Rattle.spec_history.specs.Worlds.{World, item_of, items_by, step, run}
use Rattle.spec_history.specs.Guards.{IsEnabled, Good, Commits}
use Rattle.spec_history.specs.Histories.{SessionsBelow}
use Rattle.law_history.proofs.Items.{added, items_are}
use Rattle.spec_history.proofs.Legal.{came, was_there}
use Rattle.law_history.proofs.Names.{keeps_name}
use Rattle.law_history.proofs.Placed.{PicksAll, committed_of, picked_append, placed_run}
use Rattle.spec_history.proofs.Trace.{each_append, id_is, next_step}
use Rattle.law_behind.specs.Past.{IsPast, Past, behind}

begun : (p : Phase) → p ≡ runs → p ≢ unborn
begun p r u = cc

-- ---- ids from a number on

-- the ids of open transactions are no less
abbrev pub OpenFrom : ℕ → World → Type 0
OpenFrom n w = (t : ℕ) (d : SessionTransaction) → (w.at t).transaction ≡ Some d → n ≤ d.id

each_in : (P : ℕ → Type 0) (ns : List ℕ) (n : ℕ) → Each P ns → In n ns → P n
each_in P [] n h i = absurd i
each_in P (m ∷ ns) n h i = ⊎_elim (λ (e : m ≡ n). subst P e h.0) (λ (j : In n ns). each_in P ns n h.1 j) i

ids_both : (P : ℕ → Type 0) (J K : List JournalItem) → Each P (ids_of J) → Each P (ids_of K) → Each P (ids_of (J ++ K))
ids_both P [] K h k = k
ids_both P (Tx id session time explicit script ∷ J) K h k = (h.0, ids_both P J K h.1 k)
ids_both P (Close n ∷ J) K h k = ids_both P J K h k

module _ (q : Meaning) (db : Text) (n : ℕ) where
  open_step : (w : World) (s : ℕ) (a : SessionAct) → IsEnabled q db w (by s a) → n ≤ w.next → OpenFrom n w → OpenFrom n (step w (by s a))
  open_step w s a k l h u d e = ⊎_elim
      (λ (m : (u ≡ s) × (transaction_by (w.at s).transaction a ≡ Some d)). ⊎_elim
      (λ (i : In d.id (assigned_id a)). let new = each_in (λ m. (m ≡ w.next) × (m < (step w (by s a)).next)) (assigned_id a) d.id (id_is q db w s a k) i in let is = new.0 in omega (arith, is, l))
      (λ (o : (c : SessionTransaction) × ((w.at s).transaction ≡ Some c) × (d.id ≡ c.id) × (d.fixed ≡ unfixed → c.fixed ≡ unfixed)). let is = o.2 in let low = h s o.0 o.1 in omega (arith, is, low)) (came (w.at s).transaction a d m.1))
      (λ (m : (u ≢ s) × ((w.at u).transaction ≡ Some d)). h u d m.1)
      (was_there q db w s u a d (u == s) refl e)

  next_more : (w : World) (e : Act) → n ≤ w.next → n ≤ (step w e).next
  next_more w e l = omega (arith, l, next_step q db w e)

  ids_by : (w : World) (s : ℕ) (a : SessionAct) → IsEnabled q db w (by s a) → OpenFrom n w → Each (λ i. n ≤ i) (ids_of (items_by (w.at s) a))
  ids_by w s (commits time place) k h = let c : Commits q w s time place = k in
      subst (λ (o : Option SessionTransaction). Each (λ i. n ≤ i) (ids_of (item_of (w.at s) o time))) (sym c.stands.has) (h s c.mine c.stands.has, tt)
  ids_by w s a k h = tt

  -- the ids of new items are no less
  pub ids_added : (w : World) (es : List Act) → Good q db w es → n ≤ w.next → OpenFrom n w → Each (λ i. n ≤ i) (ids_of (added w es))
  ids_added w [] g l h = tt
  ids_added w (by s a ∷ es) g l h = ids_both (λ i. n ≤ i) (items_by (w.at s) a) (added (step w (by s a)) es) (ids_by w s a g.0 h) (ids_added (step w (by s a)) es g.1 (next_more w (by s a) l) (open_step w s a g.0 l h))
  ids_added w (closes k ∷ es) g l h = ids_added (step w (closes k)) es g.1 (next_more w (closes k) l) h

  -- ---- picked by name among those

  abbrev pub by_name : Text → ℕ → Text → Bool
  by_name name id session = bytes_eq session name

  abbrev pub by_both : Text → ℕ → Text → Bool
  by_both name id session = if leb n id then bytes_eq session name else false

  both_from : (name : Text) (id : ℕ) (session : Text) → n ≤ id → by_both name id session ≡ by_name name id session
  both_from name id session l = rw (le-leb n id l) refl

  picks_both : (name : Text) (s : ℕ) (w : World) (es : List Act) → Good q db w es → n ≤ w.next → OpenFrom n w → PicksAll q db (by_name name) s w es → PicksAll q db (by_both name) s w es
  picks_both name s w [] g l h p = tt
  picks_both name s w (by t a ∷ es) g l h p = ((λ r d runs_now e. both_from name d.id (w.at r).name (h r d e) ∙ p.0 r d runs_now e), picks_both name s (step w (by t a)) es g.1 (next_more w (by t a) l) (open_step w t a g.0 l h) p.1)
  picks_both name s w (closes k ∷ es) g l h p = ((λ r d runs_now e. both_from name d.id (w.at r).name (h r d e) ∙ p.0 r d runs_now e), picks_both name s (step w (closes k)) es g.1 (next_more w (closes k) l) h p.1)

  if_none : (b : Bool) (p : Placed) (ps : List Placed) → b ≡ false → ps ≡ [] → (if b then p ∷ ps else ps) ≡ []
  if_none true p ps e f = absurd cc
  if_none false p ps e f = f

  none_low : (name : Text) (m : ℕ) (J : List JournalItem) → Each (λ i. i < n) (ids_of J) → picked (by_both name) m J ≡ []
  none_low name m [] h = refl
  none_low name m (Tx id session time explicit script ∷ J) h = if_none (by_both name id session) (record { place = suc m; id = id; explicit = explicit; script = script }) (picked (by_both name) (suc m) J) (let low = h.0 in rw (lt-leb n id low) refl) (none_low name (suc m) J h.1)
  none_low name m (Close k ∷ J) h = none_low name m J h

  if_same : (b c : Bool) (p : Placed) (ps qs : List Placed) → b ≡ c → ps ≡ qs → (if b then p ∷ ps else ps) ≡ (if c then p ∷ qs else qs)
  if_same b c p ps qs e f = λ i. if e i then p ∷ f i else f i

  same_high : (name : Text) (m : ℕ) (J : List JournalItem) → Each (λ i. n ≤ i) (ids_of J) → picked (by_both name) m J ≡ picked (by_name name) m J
  same_high name m [] h = refl
  same_high name m (Tx id session time explicit script ∷ J) h = if_same (by_both name id session) (by_name name id session) (record { place = suc m; id = id; explicit = explicit; script = script }) (picked (by_both name) (suc m) J) (picked (by_name name) (suc m) J) (both_from name id session h.0) (same_high name (suc m) J h.1)
  same_high name m (Close k ∷ J) h = same_high name m J h

module _ (q : Meaning) (db : Text) (past : Past) (is : IsPast q past) (es : List Act) (g : Good q db (behind past) es) where
  abbrev W : World
  W = run (behind past) es

  nobody : OpenFrom past.next (behind past)
  nobody t d h = cc

  low : past.next ≤ past.next
  low = omega arith

  -- the new items of a name are those that its session committed
  pub placed : (s : ℕ) (name : Text) → PicksAll q db (λ id session. bytes_eq session name) s (behind past) es
      → picked (λ id session. bytes_eq session name) (tx_count past.items) (added (behind past) es) ≡ committed_of (W.at s).transaction (W.at s).done
  placed s name p =
      let n : ℕ = past.next in
      let N : List JournalItem = added (behind past) es in
      let none : picked (by_both q db n name) 0 past.items ≡ [] = none_low q db n name 0 past.items is.ids in
      let all : picked (by_both q db n name) 0 W.items ≡ committed_of (W.at s).transaction (W.at s).done =
      placed_run q db (by_both q db n name) s (behind past) es g (picks_both q db n name s (behind past) es g low nobody p) none in
      let apart : picked (by_both q db n name) 0 W.items ≡ picked (by_both q db n name) (tx_count past.items) N =
      ap (picked (by_both q db n name) 0) (items_are (behind past) es) ∙ picked_append (by_both q db n name) 0 past.items N
      ∙ ap (λ (m : ℕ). picked (by_both q db n name) 0 past.items ++ picked (by_both q db n name) m N) (let e : 0 + tx_count past.items ≡ tx_count past.items = omega arith in e)
      ∙ ap (λ (l : List Placed). l ++ picked (by_both q db n name) (tx_count past.items) N) none in
      sym (same_high q db n name (tx_count past.items) N (ids_added q db n (behind past) es g low nobody)) ∙ sym apart ∙ all

-- ---- whose they are

module _ (q : Meaning) (db : Text) (input : List InputSession) (k : ℕ) (end : World) where
  abbrev There : Type 0
  There = (t : ℕ) → t < k → Some_of (λ s. s.name ≡ (end.at t).name) input

  name_at_end : (w : World) (es : List Act) (s : ℕ) → Good q db w es → run w es ≡ end → (w.at s).phase ≡ runs → (end.at s).name ≡ (w.at s).name
  name_at_end w es s g e r = subst (λ (v : World). (v.at s).name ≡ (w.at s).name) e (keeps_name q db (w.at s).name s w es g (begun (w.at s).phase r, refl)).1

  its_item : (w : World) (s time place : ℕ) (c : Commits q w s time place) → s < k → There → (end.at s).name ≡ (w.at s).name → Each (IsOneOfTheirs input) (item_of (w.at s) (w.at s).transaction time)
  its_item w s time place c l there e = subst (λ (o : Option SessionTransaction). Each (IsOneOfTheirs input) (item_of (w.at s) o time)) (sym c.stands.has) (subst (λ (n : Text). Some_of (λ z. z.name ≡ n) input) e (there s l), tt)

  its_items : (w : World) (s : ℕ) (a : SessionAct) (es : List Act) → Good q db w (by s a ∷ es) → run w (by s a ∷ es) ≡ end → s < k → There → Each (IsOneOfTheirs input) (items_by (w.at s) a)
  its_items w s (commits time place) es g e l there = its_item w s time place g.0 l there (name_at_end w (by s (commits time place) ∷ es) s g e (g.0).stands.runs)
  its_items w s a es g e l there = tt

  -- each item that is added has the name of a session of the input
  pub added_theirs : (w : World) (es : List Act) → Good q db w es → run w es ≡ end → SessionsBelow k es → There → Each (IsOneOfTheirs input) (added w es)
  added_theirs w [] g e b there = tt
  added_theirs w (by s a ∷ es) g e b there = each_append (IsOneOfTheirs input) (items_by (w.at s) a) (added (step w (by s a)) es) (its_items w s a es g e b.0 there) (added_theirs (step w (by s a)) es g.1 e b.1 there)
  added_theirs w (closes n ∷ es) g e b there = (tt, added_theirs (step w (closes n)) es g.1 e b there)
