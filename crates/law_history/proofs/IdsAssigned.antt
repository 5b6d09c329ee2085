-- Each transaction of the journal has the name of the session that drew its id.
use Rattle.std.proofs.Common.{◌≡◌, ◌≢◌, ℕ, Bool, true, false, List, [], ◌∷◌, Option, Some, refl, sym, subst, ⊎_elim}
use Rattle.std.specs.Prelude.{◌==◌, if◌then◌else◌, flat_map}
use Rattle.std.proofs.lemmas.Bool.{eq-eqb}
use Rattle.sql_types.specs.declared.journal.JournalItem.TheVariants.{Close}
use Rattle.spec_history.specs.Lists.{Text, Each, In}
use Rattle.spec_history.specs.Meaning.{Meaning}
use Rattle.spec_history.specs.Transactions.{unfixed}
use Rattle.spec_history.specs.Acts.{SessionAct, commits, Act, by, closes, of, assigned_id}
use Rattle.spec_history.specs.Sessions.{Phase, unborn, runs, SessionTransaction, transaction_by}
use Rattle.spec_history.specs.Worlds.{World, first, item_of, items_by, step, run}
use Rattle.spec_history.specs.Guards.{Good, Commits}
use Rattle.spec_history.specs.Histories.{HasItsName}
use Rattle.spec_history.proofs.Trace.{each_append}
use Rattle.spec_history.proofs.Settles.{in_left, in_right}
use Rattle.spec_history.proofs.Legal.{came, was_there}
use Rattle.law_history.proofs.Names.{keeps_name}

-- ---- the ids of a session's part

drew_first : (s id : ℕ) (a : SessionAct) (es : List Act) → In id (assigned_id a) → In id (flat_map assigned_id (of s (by s a ∷ es)))
drew_first s id a es i = rw (eq-eqb s s refl) (in_left id (assigned_id a) (flat_map assigned_id (of s es)) i)

drew_later : (b : Bool) (id : ℕ) (a : SessionAct) (xs : List SessionAct) → In id (flat_map assigned_id xs) → In id (flat_map assigned_id (if b then a ∷ xs else xs))
drew_later true id a xs i = in_right id (assigned_id a) (flat_map assigned_id xs) i
drew_later false id a xs i = i

begun : (p : Phase) → p ≡ runs → p ≢ unborn
begun p r u = cc

module _ (q : Meaning) (db : Text) (history : List Act) where
  abbrev Drew : ℕ → ℕ → Type 0
  Drew s id = In id (flat_map assigned_id (of s history))

  -- so far each open transaction is one whose id its session drew
  abbrev AllDrew : World → Type 0
  AllDrew w = (t : ℕ) (d : SessionTransaction) → (w.at t).transaction ≡ Some d → Drew t d.id

  -- the ids that are still to be drawn
  abbrev AreToCome : List Act → Type 0
  AreToCome es = (s id : ℕ) → In id (flat_map assigned_id (of s es)) → Drew s id

  drew_step : (w : World) (s : ℕ) (a : SessionAct) → ((id : ℕ) → In id (assigned_id a) → Drew s id) → AllDrew w → AllDrew (step w (by s a))
  drew_step w s a new h u d e = ⊎_elim
      (λ (m : (u ≡ s) × (transaction_by (w.at s).transaction a ≡ Some d)). subst (λ (t : ℕ). Drew t d.id) (sym m.0) (⊎_elim (λ (i : In d.id (assigned_id a)). new d.id i)
      (λ (o : (c : SessionTransaction) × ((w.at s).transaction ≡ Some c) × (d.id ≡ c.id) × (d.fixed ≡ unfixed → c.fixed ≡ unfixed)). subst (Drew s) (sym o.2) (h s o.0 o.1)) (came (w.at s).transaction a d m.1)))
      (λ (m : (u ≢ s) × ((w.at u).transaction ≡ Some d)). h u d m.1)
      (was_there q db w s u a d (u == s) refl e)

  its_name : (w : World) (s : ℕ) (a : SessionAct) (es : List Act) → Good q db w (by s a ∷ es) → run w (by s a ∷ es) ≡ run first history → AllDrew w → Each (HasItsName history) (items_by (w.at s) a)
  its_name w s (commits time place) es g e drew =
      let c : Commits q w s time place = g.0 in
      let name = (w.at s).name in
      let kept : ((run first history).at s).name ≡ name = subst (λ (v : World). (v.at s).name ≡ name) e (keeps_name q db name s w (by s (commits time place) ∷ es) g (begun (w.at s).phase c.stands.runs, refl)).1 in
      subst (λ (o : Option SessionTransaction). Each (HasItsName history) (item_of (w.at s) o time)) (sym c.stands.has)
      (record { session = s; drew = drew s c.mine c.stands.has; named = kept }, tt)
  its_name w s a es g e drew = tt

  each_named : (w : World) (es : List Act) → Good q db w es → run w es ≡ run first history → AreToCome es → AllDrew w → Each (HasItsName history) w.items → Each (HasItsName history) (run w es).items
  each_named w [] g e new drew h = h
  each_named w (by s a ∷ es) g e new drew h = each_named (step w (by s a)) es g.1 e (λ t id i. new t id (drew_later (s == t) id a (of t es) i)) (drew_step w s a (λ id i. new s id (drew_first s id a es i)) drew)
      (each_append (HasItsName history) w.items (items_by (w.at s) a) h (its_name w s a es g e drew))
  each_named w (closes k ∷ es) g e new drew h = each_named (step w (closes k)) es g.1 e new drew (each_append (HasItsName history) w.items (Close k ∷ []) h (tt, tt))

  pub all_named : Good q db first history → Each (HasItsName history) (run first history).items
  all_named g = each_named first history g refl (λ s id i. i) (λ t d e. cc) tt
