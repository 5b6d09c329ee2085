-- A transaction whose end is fixed is in the journal where it is committed, and isn't where it ended otherwise.
use Rattle.std.proofs.Common.{◌≡◌, ◌≢◌, ℕ, Bool, true, false, List, [], ◌∷◌, ◌++◌, Option, Some, refl, sym, ap, ◌∙◌, subst, inl, ⊎_elim, append-nil}
use Rattle.std.proofs.lemmas.Bool.{eq-eqb, ne_eqb}
use Rattle.std.specs.Prelude.{◌==◌, ◌||◌}
use Rattle.std.specs.List.{list_any}
use Rattle.sql_types.specs.declared.journal.JournalItem.{JournalItem}
use Rattle.sql_types.specs.declared.journal.JournalItem.TheVariants.{Close}
use Rattle.spec_history.specs.Lists.{Text, Each, In}
use Rattle.spec_history.specs.Journals.{ids_of}
use Rattle.spec_history.specs.Meaning.{Meaning}
use Rattle.spec_history.specs.Transactions.{End, unfixed, committed, ended, on_some}
use Rattle.spec_history.specs.Acts.{SessionAct, assigns_id, looks, says, fails, meets, commits, ends, releases_locks, Act, by, closes}
use Rattle.spec_history.specs.Sessions.{SessionTransaction, drawn, asks, hears, scripts, fixes, transaction_by}
use Rattle.spec_history.specs.Worlds.{World, first, run, step, items_by, item_of}
use Rattle.spec_history.specs.Guards.{IsEnabled, Good}
use Rattle.spec_history.proofs.Legal.{IdsApart, apart_by, apart_close, ids_append, was_there}
use Rattle.spec_history.proofs.Settles.{in_left, in_right}
use Rattle.spec_history.proofs.Trace.{each_append}
use Rattle.spec_protocol.specs.Server.{Server}
use Rattle.spec_protocol.specs.Cells.{Cell}
use Rattle.spec_protocol.specs.Seats.{OpenTransaction, Session, SeatState}
use Rattle.spec_protocol.specs.OpenOnes.{HasOpen}
use Rattle.spec_protocol.specs.StandTogether.{History, Stands}
use Rattle.law_protocol_steps.proofs.Ids as ids
use Rattle.law_protocol_steps.proofs.OfCells.{in_journal}

-- a transaction with this end has its id among those of the journal, or not
abbrev pub Placing : End → ℕ → List ℕ → Type 0
Placing unfixed id ids = Unit {0}
Placing (committed n) id ids = In id ids
Placing (ended n back) id ids = Each (λ j. j ≢ id) ids

placing_more : (e : End) (id : ℕ) (ids js : List ℕ) → Each (λ j. j ≢ id) js → Placing e id ids → Placing e id (ids ++ js)
placing_more unfixed id ids js h k = tt
placing_more (committed n) id ids js h k = in_left id ids js k
placing_more (ended n back) id ids js h k = each_append (λ j. j ≢ id) ids js k h

no_end : (e : End) (id : ℕ) (ids : List ℕ) → e ≡ unfixed → Placing e id ids
no_end e id ids h = subst (λ (z : End). Placing z id ids) (sym h) tt

abbrev pub AllPlaced : World → Type 0
AllPlaced w = (t : ℕ) (d : SessionTransaction) → (w.at t).transaction ≡ Some d → Placing d.fixed d.id (ids_of w.items)

same_one : (f : SessionTransaction → SessionTransaction) (o : Option SessionTransaction) (c d : SessionTransaction) → o ≡ Some c → on_some f o ≡ Some d → f c ≡ d
same_one f o c d e h = let z : Some (f c) ≡ Some d = ap (on_some f) (sym e) ∙ h in cc

still_open : (f : SessionTransaction → SessionTransaction) (o : Option SessionTransaction) (c d : SessionTransaction) → o ≡ Some c → ((z : SessionTransaction) → (f z).fixed ≡ z.fixed) → c.fixed ≡ unfixed → on_some f o ≡ Some d → d.fixed ≡ unfixed
still_open f o c d e same u h = ap (λ (z : SessionTransaction). z.fixed) (sym (same_one f o c d e h)) ∙ same c ∙ u

module _ (q : Meaning) (db : Text) where
  placed_here : (w : World) (s : ℕ) (a : SessionAct) (d : SessionTransaction) → IsEnabled q db w (by s a) → IdsApart w → AllPlaced w → transaction_by (w.at s).transaction a ≡ Some d → Placing d.fixed d.id (ids_of (w.items ++ items_by (w.at s) a))
  placed_here w s (assigns_id id explicit) d k i h e = no_end d.fixed d.id _ (let z : drawn id explicit ≡ d = cc in ap (λ (z : SessionTransaction). z.fixed) (sym z))
  placed_here w s (looks text table) d k i h e = no_end d.fixed d.id _ (still_open (asks text table) (w.at s).transaction k.0 d k.1.has (λ z. refl) k.1.unfixed e)
  placed_here w s (says line) d k i h e = no_end d.fixed d.id _ (still_open (scripts line) (w.at s).transaction k.0 d k.1.has (λ z. refl) k.1.unfixed e)
  placed_here w s (fails text) d k i h e = no_end d.fixed d.id _ (still_open (hears text true) (w.at s).transaction k.0 d k.1.has (λ z. refl) k.1.unfixed e)
  placed_here w s (meets text holder) d k i h e = no_end d.fixed d.id _ (still_open (hears text false) (w.at s).transaction k.mine d k.stands.has (λ z. refl) k.stands.unfixed e)
  placed_here w s (commits time place) d k i h e =
      subst (λ (z : SessionTransaction). Placing z.fixed z.id (ids_of (w.items ++ item_of (w.at s) (w.at s).transaction time))) (same_one (fixes (committed place)) (w.at s).transaction k.mine d k.stands.has e)
      (subst (In k.mine.id) (sym (ids_append w.items (item_of (w.at s) (w.at s).transaction time)))
      (in_right k.mine.id (ids_of w.items) (ids_of (item_of (w.at s) (w.at s).transaction time)) (subst (λ (o : Option SessionTransaction). In k.mine.id (ids_of (item_of (w.at s) o time))) (sym k.stands.has) (inl refl))))
  placed_here w s (ends n back) d k i h e =
      subst (λ (z : SessionTransaction). Placing z.fixed z.id (ids_of (w.items ++ []))) (same_one (fixes (ended n back)) (w.at s).transaction k.mine d k.stands.has e)
      (subst (λ (l : List JournalItem). Each (λ j. j ≢ k.mine.id) (ids_of l)) (sym (append-nil w.items)) (i.outside s k.mine k.stands.has k.stands.unfixed))
  placed_here w s releases_locks d k i h e = cc
  placed_here w s a d k i h e = subst (λ (l : List JournalItem). Placing d.fixed d.id (ids_of l)) (sym (append-nil w.items)) (h s d e)

  not_new : (w : World) (s u : ℕ) (a : SessionAct) (d : SessionTransaction) → IsEnabled q db w (by s a) → IdsApart w → u ≢ s → (w.at u).transaction ≡ Some d → Each (λ j. j ≢ d.id) (ids_of (items_by (w.at s) a))
  not_new w s u (commits time place) d k i ne e = subst (λ (o : Option SessionTransaction). Each (λ j. j ≢ d.id) (ids_of (item_of (w.at s) o time))) (sym k.stands.has) (i.apart s u k.mine d (λ z. ne (sym z)) k.stands.has e, tt)
  not_new w s u a d k i ne e = tt

  placed_by : (w : World) (s : ℕ) (a : SessionAct) → IsEnabled q db w (by s a) → IdsApart w → AllPlaced w → AllPlaced (step w (by s a))
  placed_by w s a k i h u d e = ⊎_elim
      (λ (m : (u ≡ s) × (transaction_by (w.at s).transaction a ≡ Some d)). placed_here w s a d k i h m.1)
      (λ (m : (u ≢ s) × ((w.at u).transaction ≡ Some d)). subst (Placing d.fixed d.id) (sym (ids_append w.items (items_by (w.at s) a))) (placing_more d.fixed d.id (ids_of w.items) (ids_of (items_by (w.at s) a)) (not_new w s u a d k i m.0 m.1) (h u d m.1)))
      (was_there q db w s u a d (u == s) refl e)

  placed_close : (w : World) (k : ℕ) → AllPlaced w → AllPlaced (step w (closes k))
  placed_close w k h u d e = subst (Placing d.fixed d.id) (sym (ids_append w.items (Close k ∷ []) ∙ append-nil (ids_of w.items))) (h u d e)

  pub placed_run : (w : World) (es : List Act) → Good q db w es → IdsApart w → AllPlaced w → AllPlaced (run w es)
  placed_run w [] g i h = h
  placed_run w (by s a ∷ es) g i h = placed_run (step w (by s a)) es g.1 (apart_by q db w s a g.0 i) (placed_by w s a g.0 i h)
  placed_run w (closes k ∷ es) g i h = placed_run (step w (closes k)) es g.1 (apart_close q db w k i) (placed_close w k h)

among : (id : ℕ) (ids : List ℕ) → In id ids → list_any (λ i. i == id) ids ≡ true
among id [] h = absurd h
among id (i ∷ is) h = ⊎_elim
    (λ (e : i ≡ id). ap (λ (b : Bool). b || list_any (λ n. n == id) is) (eq-eqb i id e))
    (λ (k : In id is). ap (λ (b : Bool). (i == id) || b) (among id is k) ∙ or_true (i == id))
    h
  where
    or_true : (b : Bool) → (b || true) ≡ true
    or_true true = refl
    or_true false = refl

not_among : (id : ℕ) (ids : List ℕ) → Each (λ i. i ≢ id) ids → list_any (λ i. i == id) ids ≡ false
not_among id [] h = refl
not_among id (i ∷ is) h = ap (λ (b : Bool). b || list_any (λ n. n == id) is) (ne_eqb i id h.0) ∙ not_among id is h.1

abbrev pub is_committed : End → Bool
is_committed (committed n) = true
is_committed _ = false

module _ (v : Server) (cells : List Cell) (seats : List SeatState) {history : History} (S : Stands v history cells seats) (j : ℕ) (x : Session) (o : OpenTransaction) (h : HasOpen seats j x o) where
  abbrev mine : ids.InTransaction v.meaning history (S.transcripts_agree.of_seat j) x o
  mine = ids.in_transaction v history S.ledger seats S.transcripts_agree j x o h

  abbrev world : World
  world = run first history

  placing : Placing o.end o.id (ids_of S.ledger.items)
  placing = subst (λ (l : List JournalItem). Placing o.end o.id (ids_of l)) S.transcripts_agree.items
      (subst (λ (e : End). Placing e o.id (ids_of world.items)) mine.is.end
      (subst (λ (n : ℕ). Placing mine.transaction.fixed n (ids_of world.items)) mine.is.id
      (placed_run v.meaning S.ledger.database first history S.transcripts_agree.good (record { differ = tt; below = tt; drawn = λ t d e. cc; outside = λ t d e f. tt; apart = λ s t c d ne e k. cc }) (λ t d e. cc)
      mine.runs.number mine.transaction mine.has)))

  -- a transaction whose end is fixed is in the journal just where it is committed
  pub is_placed : o.end ≢ unfixed → (m : ℕ) → in_journal S.ledger.items (o.id, m) ≡ is_committed o.end
  is_placed ne m = by o.end refl placing
    where
      by : (e : End) → o.end ≡ e → Placing e o.id (ids_of S.ledger.items) → list_any (λ i. i == o.id) (ids_of S.ledger.items) ≡ is_committed e
      by unfixed q k = absurd (ne q)
      by (committed n) q k = among o.id (ids_of S.ledger.items) k
      by (ended n back) q k = not_among o.id (ids_of S.ledger.items) k
