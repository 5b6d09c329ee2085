-- A session's transactions in the journal are those that it committed, in order and each at its place.
use Rattle.std.proofs.Common.{◌≡◌, ℕ, suc, ◌+◌, Bool, true, false, List, [], ◌∷◌, ◌++◌, map, Option, Some, None, refl, sym, ap, ◌∙◌, subst, arith, append-nil, append_assoc}
use Rattle.std.specs.Prelude.{if◌then◌else◌, ◌==◌}
use Rattle.std.proofs.lemmas.Bool.{eqb-true}
use Rattle.sql_types.specs.declared.journal.JournalItem.{JournalItem}
use Rattle.sql_types.specs.declared.journal.JournalItem.TheVariants.{Tx, Close}
use Rattle.spec_model.specs.Journals.{tx_count}
use Rattle.spec_history.specs.Lists.{Text}
use Rattle.spec_history.specs.Meaning.{Meaning}
use Rattle.spec_history.specs.Transactions.{End, unfixed, committed, ended, Transaction, on_some, listed}
use Rattle.spec_history.specs.Agree.{Placed, picked, committed_at_place, committed_ones}
use Rattle.spec_history.specs.Acts.{SessionAct, assigns_id, looks, says, fails, meets, commits, ends, releases_locks, Act, by, closes}
use Rattle.spec_history.specs.Sessions.{SessionTransaction, SessionState, view, viewed, runs, drawn, asks, hears, scripts, fixes, acted}
use Rattle.spec_history.specs.Worlds.{World, item_of, items_by, put, step, run}
use Rattle.spec_history.specs.Guards.{IsEnabled, Good, Commits}
use Rattle.spec_history.proofs.Follow.{eqb_sym}
use Rattle.spec_history.proofs.TransactionLogs.{map_view_append, listed_view}

front : (b : Bool) (p : Placed) (xs ys zs : List Placed) → zs ≡ xs ++ ys → (if b then p ∷ zs else zs) ≡ (if b then p ∷ xs else xs) ++ ys
front true p xs ys zs e = ap (λ (l : List Placed). p ∷ l) e
front false p xs ys zs e = e

pub picked_append : (pick : ℕ → Text → Bool) (n : ℕ) (J K : List JournalItem) → picked pick n (J ++ K) ≡ picked pick n J ++ picked pick (n + tx_count J) K
picked_append pick n [] K = ap (λ (m : ℕ). picked pick m K) (omega arith)
picked_append pick n (Tx id session time explicit script ∷ is) K = front (pick id session) (record { place = suc n; id = id; explicit = explicit; script = script }) (picked pick (suc n) is) (picked pick (n + suc (tx_count is)) K) (picked pick (suc n) (is ++ K))
    (picked_append pick (suc n) is K ∙ ap (λ (m : ℕ). picked pick (suc n) is ++ picked pick m K) (omega arith))
picked_append pick n (Close k ∷ is) K = picked_append pick n is K

picked_all : (pick : ℕ → Text → Bool) (J K : List JournalItem) → picked pick 0 (J ++ K) ≡ picked pick 0 J ++ picked pick (tx_count J) K
picked_all pick J K = picked_append pick 0 J K ∙ ap (λ (m : ℕ). picked pick 0 J ++ picked pick m K) (omega arith)

ones_append : (us vs : List Transaction) → committed_ones (us ++ vs) ≡ committed_ones us ++ committed_ones vs
ones_append [] vs = refl
ones_append (u ∷ us) vs = ap (λ (l : List Placed). committed_at_place u u.end ++ l) (ones_append us vs) ∙ sym (append_assoc (committed_at_place u u.end) (committed_ones us) (committed_ones vs))

-- the committed ones of a session
abbrev pub committed_of : Option SessionTransaction → List SessionTransaction → List Placed
committed_of o ds = committed_ones (map view ds ++ listed (viewed o))

-- ---- one act of the session

none_placed : (d : SessionTransaction) → d.fixed ≡ unfixed → committed_ones (listed (viewed (Some d))) ≡ []
none_placed d e = ap (λ (z : End). committed_at_place (view d) z ++ []) e

of_open : (o : Option SessionTransaction) (d : SessionTransaction) (ds : List SessionTransaction) → o ≡ Some d → d.fixed ≡ unfixed → committed_of o ds ≡ committed_ones (map view ds)
of_open o d ds e f = ones_append (map view ds) (listed (viewed o)) ∙ ap (λ (z : Option SessionTransaction). committed_ones (map view ds) ++ committed_ones (listed (viewed z))) e ∙ ap (λ (l : List Placed). committed_ones (map view ds) ++ l) (none_placed d f) ∙ append-nil (committed_ones (map view ds))

of_none : (o : Option SessionTransaction) (ds : List SessionTransaction) → o ≡ None → committed_of o ds ≡ committed_ones (map view ds)
of_none o ds e = ap (λ (z : Option SessionTransaction). committed_ones (map view ds ++ listed (viewed z))) e ∙ ap committed_ones (append-nil (map view ds))

changed : (o : Option SessionTransaction) (d : SessionTransaction) (f : SessionTransaction → SessionTransaction) (ds : List SessionTransaction) → o ≡ Some d → d.fixed ≡ unfixed → ((c : SessionTransaction) → (f c).fixed ≡ c.fixed) → committed_of (on_some f o) ds ≡ committed_of o ds
changed o d f ds e u same = of_open (on_some f o) (f d) ds (ap (on_some f) e) (same d ∙ u) ∙ sym (of_open o d ds e u)

freed : (o : Option SessionTransaction) (ds : List SessionTransaction) → committed_of None (ds ++ listed o) ≡ committed_of o ds
freed o ds = ap committed_ones (append-nil (map view (ds ++ listed o)) ∙ map_view_append ds (listed o) ∙ ap (λ (l : List Transaction). map view ds ++ l) (sym (listed_view o)))

ended_so : (o : Option SessionTransaction) (d : SessionTransaction) (n : ℕ) (back : Bool) (ds : List SessionTransaction) → o ≡ Some d → d.fixed ≡ unfixed → committed_of (on_some (fixes (ended n back)) o) ds ≡ committed_of o ds
ended_so o d n back ds e u = ones_append (map view ds) (listed (viewed (on_some (fixes (ended n back)) o))) ∙ ap (λ (z : Option SessionTransaction). committed_ones (map view ds) ++ committed_ones (listed (viewed (on_some (fixes (ended n back)) z)))) e ∙ append-nil (committed_ones (map view ds)) ∙ sym (of_open o d ds e u)

committed_so : (o : Option SessionTransaction) (d : SessionTransaction) (n : ℕ) (ds : List SessionTransaction) → o ≡ Some d → d.fixed ≡ unfixed → committed_of (on_some (fixes (committed n)) o) ds ≡ committed_of o ds ++ record { place = n; id = d.id; explicit = d.explicit; script = d.script } ∷ []
committed_so o d n ds e u = ones_append (map view ds) (listed (viewed (on_some (fixes (committed n)) o))) ∙ ap (λ (z : Option SessionTransaction). committed_ones (map view ds) ++ committed_ones (listed (viewed (on_some (fixes (committed n)) z)))) e
    ∙ ap (λ (l : List Placed). l ++ record { place = n; id = d.id; explicit = d.explicit; script = d.script } ∷ []) (sym (of_open o d ds e u))

module _ (q : Meaning) (db : Text) (pick : ℕ → Text → Bool) (s : ℕ) where
  -- the session's are picked, and no other's
  abbrev pub Picks : World → Type 0
  Picks w = (t : ℕ) (d : SessionTransaction) → (w.at t).phase ≡ runs → (w.at t).transaction ≡ Some d → pick d.id (w.at t).name ≡ (t == s)

  abbrev pub PicksAll : World → List Act → Type 0
  PicksAll w [] = Unit {0}
  PicksAll w (e ∷ es) = Picks w × PicksAll (step w e) es

  abbrev pub IsPlaced : List JournalItem → SessionState → Type 0
  IsPlaced J x = picked pick 0 J ≡ committed_of x.transaction x.done

  idle : (J : List JournalItem) (x y : SessionState) → committed_of y.transaction y.done ≡ committed_of x.transaction x.done → IsPlaced J x → IsPlaced (J ++ []) y
  idle J x y e h = ap (picked pick 0) (append-nil J) ∙ h ∙ sym e

  item_at : (w : World) (t time place : ℕ) (b : Bool) (k : Commits q w t time place) → pick k.mine.id (w.at t).name ≡ b → picked pick (tx_count w.items) (item_of (w.at t) (w.at t).transaction time) ≡ (if b then record { place = place; id = k.mine.id; explicit = k.mine.explicit; script = k.mine.script } ∷ [] else [])
  item_at w t time place true k e = ap (λ (o : Option SessionTransaction). picked pick (tx_count w.items) (item_of (w.at t) o time)) k.stands.has ∙ rw e (ap (λ (n : ℕ). record { place = n; id = k.mine.id; explicit = k.mine.explicit; script = k.mine.script } ∷ []) (omega (arith, k.last)))
  item_at w t time place false k e = ap (λ (o : Option SessionTransaction). picked pick (tx_count w.items) (item_of (w.at t) o time)) k.stands.has ∙ rw e refl

  mine : (w : World) (t : ℕ) (a : SessionAct) → (t == s) ≡ true → IsEnabled q db w (by t a) → Picks w → IsPlaced w.items (w.at t) → IsPlaced (w.items ++ items_by (w.at t) a) (acted (w.at t) a)
  mine w t (assigns_id id explicit) is k p h = idle w.items (w.at t) (acted (w.at t) (assigns_id id explicit)) (of_open (Some (drawn id explicit)) (drawn id explicit) (w.at t).done refl refl ∙ sym (of_none (w.at t).transaction (w.at t).done k.1)) h
  mine w t (looks text table) is k p h = idle w.items (w.at t) (acted (w.at t) (looks text table)) (changed (w.at t).transaction k.0 (asks text table) (w.at t).done k.1.has k.1.unfixed (λ d. refl)) h
  mine w t (says line) is k p h = idle w.items (w.at t) (acted (w.at t) (says line)) (changed (w.at t).transaction k.0 (scripts line) (w.at t).done k.1.has k.1.unfixed (λ d. refl)) h
  mine w t (fails text) is k p h = idle w.items (w.at t) (acted (w.at t) (fails text)) (changed (w.at t).transaction k.0 (hears text true) (w.at t).done k.1.has k.1.unfixed (λ d. refl)) h
  mine w t (meets text holder) is k p h = idle w.items (w.at t) (acted (w.at t) (meets text holder)) (changed (w.at t).transaction k.mine (hears text false) (w.at t).done k.stands.has k.stands.unfixed (λ d. refl)) h
  mine w t (ends n back) is k p h = idle w.items (w.at t) (acted (w.at t) (ends n back)) (ended_so (w.at t).transaction k.mine n back (w.at t).done k.stands.has k.stands.unfixed) h
  mine w t releases_locks is k p h = idle w.items (w.at t) (acted (w.at t) releases_locks) (freed (w.at t).transaction (w.at t).done) h
  mine w t (commits time place) is k p h = picked_all pick w.items (item_of (w.at t) (w.at t).transaction time)
      ∙ ap (λ (l : List Placed). l ++ picked pick (tx_count w.items) (item_of (w.at t) (w.at t).transaction time)) h
      ∙ ap (λ (l : List Placed). committed_of (w.at t).transaction (w.at t).done ++ l) (item_at w t time place true k (p t k.mine k.stands.runs k.stands.has ∙ is))
      ∙ sym (committed_so (w.at t).transaction k.mine place (w.at t).done k.stands.has k.stands.unfixed)
  mine w t a is k p h = idle w.items (w.at t) (acted (w.at t) a) refl h

  others : (w : World) (t : ℕ) (a : SessionAct) (x : SessionState) → (t == s) ≡ false → IsEnabled q db w (by t a) → Picks w → IsPlaced w.items x → IsPlaced (w.items ++ items_by (w.at t) a) x
  others w t (commits time place) x is k p h = picked_all pick w.items (item_of (w.at t) (w.at t).transaction time)
      ∙ ap (λ (l : List Placed). picked pick 0 w.items ++ l) (item_at w t time place false k (p t k.mine k.stands.runs k.stands.has ∙ is))
      ∙ append-nil (picked pick 0 w.items) ∙ h
  others w t a x is k p h = idle w.items x x refl h

  by_cases : (w : World) (t : ℕ) (a : SessionAct) (b : Bool) → (t == s) ≡ b → (s == t) ≡ b → IsEnabled q db w (by t a) → Picks w → IsPlaced w.items (w.at s) → IsPlaced (w.items ++ items_by (w.at t) a) (put w.at t (acted (w.at t) a) s)
  by_cases w t a true e f k p h = rw f (mine w t a e k p (subst (λ (u : ℕ). IsPlaced w.items (w.at u)) (eqb-true s t f) h))
  by_cases w t a false e f k p h = rw f (others w t a (w.at s) e k p h)

  pub placed_run : (w : World) (es : List Act) → Good q db w es → PicksAll w es → IsPlaced w.items (w.at s) → IsPlaced (run w es).items ((run w es).at s)
  placed_run w [] g p h = h
  placed_run w (by t a ∷ es) g p h = placed_run (step w (by t a)) es g.1 p.1 (by_cases w t a (t == s) refl (eqb_sym s t) g.0 p.0 h)
  placed_run w (closes k ∷ es) g p h = placed_run (step w (closes k)) es g.1 p.1 (picked_all pick w.items (Close k ∷ []) ∙ append-nil (picked pick 0 w.items) ∙ h)
