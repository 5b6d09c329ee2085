-- What locks were asked for stays asked for, as a history goes on.
use Rattle.std.proofs.Common.{◌≡◌, ◌≢◌, ◌⊎◌, ℕ, Bool, List, [], ◌∷◌, ◌++◌, Option, Some, None, refl, sym, ap, ◌∙◌, subst, inr, ⊎_elim}
use Rattle.std.proofs.lemmas.Bool.{cases_eq}
use Rattle.sql_types.specs.declared.lock.Hold.{Hold}
use Rattle.spec_model.specs.Catalog.{Defs, defs_of}
use Rattle.spec_history.specs.Lists.{Text, Each, In}
use Rattle.spec_history.specs.Transactions.{on_some}
use Rattle.spec_history.specs.Acts.{SessionAct, starts, takes, assigns_id, looks, says, fails, meets, commits, ends, releases_locks, issues, keeps, lacks, answers, stops, Act}
use Rattle.spec_history.specs.Sessions.{SessionTransaction, SessionState, acted, transaction_by}
use Rattle.spec_history.specs.Worlds.{World, first, run}
use Rattle.spec_history.proofs.Cuts.{run_append}
use Rattle.spec_history.proofs.Legal.{IdsApart}
use Rattle.spec_protocol.specs.Server.{Server}
use Rattle.spec_protocol.specs.Cells.{LedgerCell}
use Rattle.spec_protocol.specs.Contents.{Contents, known}
use Rattle.spec_protocol.specs.Seats.{SeatState}
use Rattle.spec_protocol.specs.LocksCover.{LocksCover}
use Rattle.spec_protocol.specs.LocksWereAsked.{IsAskedFor, LocksWereAsked, WasAsked}
use Rattle.spec_protocol.specs.TranscriptsAgree.{TranscriptsAgree}
use Rattle.law_protocol_steps.proofs.Ids.{in_transaction, apart}
use Rattle.law_protocol_steps.proofs.OneMore.{acted_all, by_each, run_else, run_now}

-- ---- a session whose transaction is open after acts that draw no id

abbrev pub AssignsNoId : SessionAct → Type 0
AssignsNoId (assigns_id id explicit) = ⊥
AssignsNoId _ = Unit {0}

-- it was open before, and has asked for no less
record WasOpen (o : Option SessionTransaction) (then_transaction : SessionTransaction) : Type 0 where
  transaction : SessionTransaction
  is : o ≡ Some transaction
  id : transaction.id ≡ then_transaction.id
  explicit : transaction.explicit ≡ then_transaction.explicit
  asked : (a : Text × Bool) → In a transaction.asked → In a then_transaction.asked

by_change : (f : SessionTransaction → SessionTransaction) → ((d : SessionTransaction) → d.id ≡ (f d).id) → ((d : SessionTransaction) → d.explicit ≡ (f d).explicit) → ((d : SessionTransaction) (a : Text × Bool) → In a d.asked → In a (f d).asked) → (o : Option SessionTransaction) (e : SessionTransaction) → on_some f o ≡ Some e → WasOpen o e
by_change f ids opens asks None e h = absurd cc
by_change f ids opens asks (Some d) e h = let same : f d ≡ e = cc in
    record { transaction = d; is = refl; id = ids d ∙ ap (λ (z : SessionTransaction). z.id) same; explicit = opens d ∙ ap (λ (z : SessionTransaction). z.explicit) same; asked = λ a i. subst (λ (z : SessionTransaction). In a z.asked) same (asks d a i) }

unchanged : (o : Option SessionTransaction) (e : SessionTransaction) → o ≡ Some e → WasOpen o e
unchanged o e h = record { transaction = e; is = h; id = refl; explicit = refl; asked = λ a i. i }

was_open : (o : Option SessionTransaction) (act : SessionAct) → AssignsNoId act → (e : SessionTransaction) → transaction_by o act ≡ Some e → WasOpen o e
was_open o (assigns_id id explicit) n e h = absurd n
was_open o (looks text table) n e h = by_change _ (λ d. refl) (λ d. refl) (λ d a i. inr i) o e h
was_open o (says line) n e h = by_change _ (λ d. refl) (λ d. refl) (λ d a i. inr i) o e h
was_open o (fails text) n e h = by_change _ (λ d. refl) (λ d. refl) (λ d a i. inr i) o e h
was_open o (meets text holder) n e h = by_change _ (λ d. refl) (λ d. refl) (λ d a i. inr i) o e h
was_open o (commits time place) n e h = by_change _ (λ d. refl) (λ d. refl) (λ d a i. i) o e h
was_open o (ends m back) n e h = by_change _ (λ d. refl) (λ d. refl) (λ d a i. i) o e h
was_open o releases_locks n e h = absurd cc
was_open o (starts name) n e h = unchanged o e h
was_open o (takes text) n e h = unchanged o e h
was_open o (issues g mark) n e h = unchanged o e h
was_open o (keeps items mark) n e h = unchanged o e h
was_open o lacks n e h = unchanged o e h
was_open o (answers entry) n e h = unchanged o e h
was_open o stops n e h = unchanged o e h

were_open : (x : SessionState) (anonymous_acts : List SessionAct) → Each AssignsNoId anonymous_acts → (e : SessionTransaction) → (acted_all x anonymous_acts).transaction ≡ Some e → WasOpen x.transaction e
were_open x [] n e h = unchanged x.transaction e h
were_open x (act ∷ anonymous_acts) n e h =
    let later = were_open (acted x act) anonymous_acts n.1 e h in
    let now = was_open x.transaction act n.0 later.transaction later.is in
    record { transaction = now.transaction; is = now.is; id = now.id ∙ later.id; explicit = now.explicit ∙ later.explicit; asked = λ a i. later.asked a (now.asked a i) }

-- ---- what a transaction asked for

-- two deals of one id are one, with what it asked for
module _ (w : World) (ids : IdsApart w) (id : ℕ) (explicit : Bool) (a : Text × Bool) (was : WasAsked w.at id explicit a) (n : ℕ) (d : SessionTransaction) (has : (w.at n).transaction ≡ Some d) (is : d.id ≡ id) where
  one_session : was.session ≡ n
  one_session = ⊎_elim (λ (e : was.session ≡ n). e) (λ (ne : was.session ≢ n). absurd (ids.apart was.session n was.transaction d ne was.has has (was.is ∙ sym is))) (cases_eq was.session n)

  one_transaction : was.transaction ≡ d
  one_transaction = let e : Some was.transaction ≡ Some d = sym was.has ∙ ap (λ (m : ℕ). (w.at m).transaction) one_session ∙ has in cc

  pub asked_it : In a d.asked
  asked_it = subst (λ (z : SessionTransaction). In a z.asked) one_transaction was.asked

  by_begin : d.explicit ≡ explicit
  by_begin = ap (λ (z : SessionTransaction). z.explicit) (sym one_transaction) ∙ was.by_begin

-- one that is open still has asked for it
pub still_asked : (h : List Act) → IdsApart (run first h) → (n : ℕ) (anonymous_acts : List SessionAct) → Each AssignsNoId anonymous_acts → (id : ℕ) (explicit : Bool) (a : Text × Bool) → WasAsked (run first h).at id explicit a
    → (m : ℕ) (d : SessionTransaction) → ((run first (h ++ by_each n anonymous_acts)).at m).transaction ≡ Some d → d.id ≡ id → WasAsked (run first (h ++ by_each n anonymous_acts)).at id explicit a
still_asked h ids n anonymous_acts none id explicit a was m d has is = ⊎_elim here other (cases_eq m n)
  where
    more : run first (h ++ by_each n anonymous_acts) ≡ run (run first h) (by_each n anonymous_acts)
    more = run_append first h (by_each n anonymous_acts)

    here : m ≡ n → WasAsked (run first (h ++ by_each n anonymous_acts)).at id explicit a
    here e = let now : ((run first (h ++ by_each n anonymous_acts)).at n).transaction ≡ Some d = ap (λ (i : ℕ). ((run first (h ++ by_each n anonymous_acts)).at i).transaction) (sym e) ∙ has in
        let old = were_open ((run first h).at n) anonymous_acts none d (sym (ap (λ (w : World). (w.at n).transaction) more ∙ ap (λ (x : SessionState). x.transaction) (run_now n (run first h) anonymous_acts)) ∙ now) in
        record {
          session = m;
          transaction = d;
          has = has;
          is = is;
          by_begin = sym old.explicit ∙ by_begin (run first h) ids id explicit a was n old.transaction old.is (old.id ∙ is);
          asked = old.asked a (asked_it (run first h) ids id explicit a was n old.transaction old.is (old.id ∙ is));
        }

    other : m ≢ n → WasAsked (run first (h ++ by_each n anonymous_acts)).at id explicit a
    other ne = let old : ((run first h).at m).transaction ≡ Some d = sym (ap (λ (w : World). (w.at m).transaction) more ∙ ap (λ (x : SessionState). x.transaction) (run_else n (run first h) anonymous_acts m ne)) ∙ has in
        record {
          session = m;
          transaction = d;
          has = has;
          is = is;
          by_begin = by_begin (run first h) ids id explicit a was m d old is;
          asked = asked_it (run first h) ids id explicit a was m d old is;
        }

-- ---- all locks

-- a lock is asked for over other definitions that are the same, and by other sessions that asked for no less
pub for_lock : (v : Server) (at then_at : ℕ → SessionState) (D E : Defs) (i : ℕ) (lock : Hold) → D ≡ E → IsAskedFor v at D i lock → ((explicit : Bool) (a : Text × Bool) → WasAsked at lock.tx explicit a → WasAsked then_at lock.tx explicit a) → IsAskedFor v then_at E i lock
for_lock v at then_at D E i lock same h f = subst (λ (ds : Defs). IsAskedFor v then_at ds i lock) same (record { explicit = h.explicit; statement = h.statement; asked = f h.explicit h.statement h.asked; wanted = h.wanted })

-- acts of a session that draw no id: locks that were there are asked for still
module _ (v : Server) (h : List Act) (ledger then_ledger : LedgerCell) (seats then_seats : List SeatState) (c then_c : Contents) (n : ℕ) (anonymous_acts : List SessionAct) (none : Each AssignsNoId anonymous_acts)
    (agree : TranscriptsAgree v h ledger seats) (then_agree : TranscriptsAgree v (h ++ by_each n anonymous_acts) then_ledger then_seats) (then_cover : LocksCover v then_c (known v.reads then_ledger.items) then_seats) where
  abbrev Then : ℕ → SessionState
  Then = (run first (h ++ by_each n anonymous_acts)).at

  pub was_asked : (i : ℕ) (lock : Hold) → In lock (then_c.holds i) → (explicit : Bool) (a : Text × Bool) → WasAsked (run first h).at lock.tx explicit a → WasAsked Then lock.tx explicit a
  was_asked i lock has explicit a was =
      let b = then_cover.belong i lock has in
      let d = in_transaction v (h ++ by_each n anonymous_acts) then_ledger then_seats then_agree b.j b.x b.o b.has in
      still_asked h (apart v h ledger seats agree) n anonymous_acts none lock.tx explicit a was d.runs.number d.transaction d.has (d.is.id ∙ b.mine)

  -- where each lock was there and is asked for over the journal's definitions then, or is a new one that is
  pub locks_stay : ((i : ℕ) (lock : Hold) → In lock (c.holds i) → IsAskedFor v (run first h).at (defs_of (known v.reads then_ledger.items).tables) i lock)
      → ((i : ℕ) (lock : Hold) → In lock (then_c.holds i) → In lock (c.holds i) ⊎ IsAskedFor v Then (defs_of (known v.reads then_ledger.items).tables) i lock)
      → LocksWereAsked v (h ++ by_each n anonymous_acts) then_c (known v.reads then_ledger.items)
  locks_stay were new i lock has = ⊎_elim
      (λ (k : In lock (c.holds i)). for_lock v (run first h).at Then _ _ i lock refl (were i lock k) (was_asked i lock has))
      (λ (k : IsAskedFor v Then (defs_of (known v.reads then_ledger.items).tables) i lock). k)
      (new i lock has)
