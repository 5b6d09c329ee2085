-- A refused statement gives the catalog's lock back: cells and seats stand together.
use Rattle.std.proofs.Common.{◌≡◌, ◌≢◌, ℕ, zero, suc, ◌≤◌, true, false, List, [], ◌++◌, map, set, Option, Some, None, refl, sym, ap, ◌∙◌, subst, inl, inr, ⊎_elim, Bool}
use Rattle.std.proofs.lemmas.Bool.{cases_eq, eq-eqb, ne_eqb}
use Rattle.std.specs.Prelude.{◌==◌, ◌&&◌, not}
use Rattle.std.specs.List.{AllByRecursion, filter}
use mathlib.Core.Option.{some}
use lib.ListN.{get_elem?}
use Rattle.sql_types.specs.declared.lock.Mode.TheVariants.{X}
use Rattle.sql_types.specs.declared.statement.Stmt.{Stmt}
use Rattle.sql_types.specs.declared.table.TableDef.{TableDef}
use Rattle.sql_types.specs.declared.version.Version.{Version}
use Rattle.spec_model.specs.Keys.{Key, of_key}
use Rattle.spec_model.specs.Catalog.{Tables, defs_of, versions_of}
use Rattle.spec_model.specs.Journals.{Line, serial, upto}
use Rattle.spec_model.specs.Locks.{whole}
use Rattle.spec_model.specs.Agreement.{columns_at}
use Rattle.spec_model.specs.ChangeSets.{change_set, defined}
use Rattle.spec_model.specs.Runs.{Rising, MadeBefore}
use Rattle.spec_model.specs.Undo.{versions_undone}
use Rattle.spec_history.specs.Lists.{Text, Each, In}
use Rattle.spec_history.specs.Refusals.{EndsAt}
use Rattle.spec_history.specs.Transactions.{unfixed}
use Rattle.spec_history.proofs.Trace.{each_weaker}
use Rattle.spec_protocol.specs.Server.{Server}
use Rattle.sql_types.specs.declared.lock.Hold.{Hold}
use Rattle.spec_protocol.specs.Cells.{Creator, TableCell, Cell, Rows, holds_at, versions_at, catalog_at, cell_of}
use Rattle.spec_protocol.specs.Seats.{OpenTransaction, made, answering, refused, SessionStatus, inside, Session, SeatState}
use Rattle.spec_protocol.specs.OpenOnes.{HasOpen, text_at, script_so_far, script_end}
use Rattle.spec_protocol.specs.OpenScripts.{counted}
use Rattle.spec_protocol.specs.Moves.{at_place, sits}
use Rattle.spec_protocol.specs.RequestsIn.{requests_in, Holds, of_catalog}
use Rattle.spec_protocol.specs.TablesAreSerial.{HasActed, def_at, ordinals_of, IsAdding, IsCarried}
use Rattle.spec_protocol.specs.LocksCover.{KeepsLocks, Belongs, HasIntent, LookedFirst, IsDropping}
use Rattle.spec_protocol.specs.StandTogether.{History, Stands}
use Rattle.law_protocol_steps.proofs.AfterSet.{set_here, set_else}
use Rattle.law_protocol_steps.proofs.SeatsAfter.{Goes, one_session, open_else, each_open}
use Rattle.law_protocol_steps.proofs.CellsAfter.{held_here, holds_here, holds_else}
use Rattle.law_protocol_steps.proofs.SameOne.{no_change}
use Rattle.law_protocol_changes.proofs.ChangedRows.{was_in}
use Rattle.law_protocol_steps.proofs.Takes.{tables_now}
use Rattle.sql_types.specs.declared.lock.LockRequest.{LockRequest}
use Rattle.spec_model.specs.Reach.{lets_change}
use Rattle.spec_protocol.specs.Cells.{CatalogCell, Catalog, versions_in}
use Rattle.law_protocol_steps.proofs.CellsAfter.{catalog_changed}
use Rattle.law_protocol_changes.proofs.ChangedRows.{in_passed}
use Rattle.law_protocol_changes.proofs.ChangeKeeps.{passes}
use Rattle.spec_protocol.specs.RowsAgree.{GoesBackTo, IsExplicitAt}
use Rattle.spec_model.specs.Rows.{EventId}
use Rattle.sql_types.specs.declared.reply.Reply.TheVariants as reply
use Rattle.spec_protocol.specs.CatalogVisits.{ReleasesCatalogLock}
use Rattle.spec_protocol.specs.OpenOnes.{lines_at}
use Rattle.spec_model.specs.Reach.{has_key, is_exclusive}
use Rattle.spec_model.specs.Script.{ScriptEnd}
use Rattle.law_protocol_steps.proofs.SameOne.{IsSame, same_end, script_stays, trees_stay}
use Rattle.law_protocol_steps.proofs.CellsAfter.{versions_kept}
use Rattle.sql_types.specs.declared.lock.Mode.TheVariants as mode
use Rattle.law_protocol_changes.proofs.ChangeKeeps.{passes}
use Rattle.std.proofs.Common.{append-nil}
use Rattle.law_protocol_steps.proofs.OfCells.{LookedAt, AreDefinitions, AreIndexes, Creates, EndLiesUnder, GoesBack, HasItsTrees, HasLock, HoldsInCatalog, IsGotAt, IsIndexed, IsOfItsScript, IsUnderLocks, IsUnderWay, LiesUnder, LocksAgree, LocksCover, RowsAgree, SeatHas, StandsAs, RequestsNone, committed, in_journal, looked_now, looked_so, table_there}
use Rattle.spec_protocol.specs.TranscriptsSoFar.{FitsWith, shown_with}
use Rattle.spec_protocol.specs.Contents.{HasAlone, contents, table_found}
use Rattle.law_protocol_steps.proofs.GotMore.{got_at_more}
use Rattle.law_protocol_steps.proofs.SeatIds.{one_seat}
use Rattle.law_protocol_steps.proofs.Taken.{released_is}
use Rattle.law_protocol_steps.proofs.VisitActs.{stage_act}
use Rattle.spec_model.specs.ScriptRequests.{text_requests}

shared_not : (key : Key) (w : LockRequest) → w.mode ≡ mode.S → lets_change key w ≡ false
shared_not key w e = ap (λ m. is_exclusive m && has_key key w.item) e

module _ (v : Server) (cells : List Cell) (seats : List SeatState) {history : History} (S : Stands v history cells seats) (j : ℕ) (s : SeatState) (there : get_elem? seats j ≡ some s) (c d : CatalogCell) (t : SeatState) (out : get_elem? cells catalog_at ≡ some (Catalog c)) (L : ReleasesCatalogLock v c s d t) where
  abbrev T : Tables
  T = tables_now S

  abbrev x : Session
  x = L.at.stands.x

  abbrev o : OpenTransaction
  o = L.o

  abbrev text : Text
  text = L.at.stands.text

  abbrev y : Session
  y = at_place (Some o) (inside text (answering (reply.Refused L.refusal) None)) x

  abbrev C' : List Cell
  C' = set cells catalog_at (Catalog d)

  abbrev seats' : List SeatState
  seats' = set seats j (sits s y)

  place : x.place ≡ inside text (refused (reply.Refused L.refusal))
  place = L.at.stands.place ∙ ap (inside text) L.refused

  has_open : HasOpen seats j x o
  has_open = record { seat = s; there = there; role = L.at.stands.role; open_one = L.at.open_one }

  goes : Goes seats j (sits s y) x o y o
  goes = record { before = has_open; role = refl; open_one = refl }

  is_catalog : c ≡ S.catalog
  is_catalog = let e : some (Catalog c) ≡ some (Catalog S.catalog) = sym out ∙ S.are_cells.has_catalog in cc

  rows_same : (id : ℕ) → versions_at C' id ≡ versions_at cells id
  rows_same = versions_kept cells catalog_at (Catalog c) (Catalog d) out (λ id. ap (λ (q : CatalogCell). versions_in id (Catalog q)) L.cell)

  holds_are : holds_at C' catalog_at ≡ filter (λ g. not (g.tx == o.id)) (holds_at cells catalog_at)
  holds_are = holds_here cells catalog_at (Catalog c) (Catalog d) out ∙ ap (λ (q : CatalogCell). q.holds) L.cell ∙ released_is c.holds o.id ∙ ap (filter (λ g. not (g.tx == o.id))) (sym (held_here cells catalog_at (Catalog c) (Catalog d) out))

  same_holds : (n : ℕ) → n ≢ catalog_at → holds_at C' n ≡ holds_at cells n
  same_holds = holds_else cells catalog_at (Catalog c) (Catalog d) out

  was_held : (n : ℕ) (h : Hold) → In h (holds_at C' n) → In h (holds_at cells n)
  was_held n h has = ⊎_elim
      (λ (e : n ≡ catalog_at). subst (λ (m : ℕ). In h (holds_at cells m)) (sym e) (was_in (λ g. not (g.tx == o.id)) h (holds_at cells catalog_at) (subst (In h) holds_are (subst (λ (m : ℕ). In h (holds_at C' m)) e has))))
      (λ (ne : n ≢ catalog_at). subst (In h) (same_holds n ne) has)
      (cases_eq n catalog_at)

  is_held : (n : ℕ) (h : Hold) → h.tx ≢ o.id → In h (holds_at cells n) → In h (holds_at C' n)
  is_held n h ne has = ⊎_elim
      (λ (e : n ≡ catalog_at). subst (λ (m : ℕ). In h (holds_at C' m)) (sym e) (subst (In h) (sym holds_are) (in_passed (λ g. not (g.tx == o.id)) h (holds_at cells catalog_at) (subst (λ (m : ℕ). In h (holds_at cells m)) e has) (ap not (ne_eqb h.tx o.id ne)))))
      (λ (nd : n ≢ catalog_at). subst (In h) (sym (same_holds n nd)) has)
      (cases_eq n catalog_at)

  not_mine_here : (h : Hold) → In h (holds_at C' catalog_at) → h.tx ≢ o.id
  not_mine_here h has m = let z : not (h.tx == o.id) ≡ true = passes (λ g. not (g.tx == o.id)) h (holds_at cells catalog_at) (subst (In h) holds_are has) in let q : not (h.tx == o.id) ≡ false = ap not (eq-eqb h.tx o.id m) in cc

  other_id : (n : ℕ) (z : Session) (r : OpenTransaction) → n ≢ j → HasOpen seats n z r → r.id ≢ o.id
  other_id n z r ne h e = ne (one_seat v cells seats S n j z x r o h has_open e)

  same : IsSame x o y o
  same = record {
    id = refl;
    explicit = refl;
    script = refl;
    seq = refl;
    trees = refl;
    open_savepoints = refl;
    end = refl;
    lines = ap lines_at (sym place);
    text = ap text_at (sym place);
    counts = λ tx id vs. ap (λ (q : SessionStatus). counted tx id q vs) (sym place);
    visited = λ i h. h;
    released = refl;
  }

  first : RequestsNone v cells T o
  first = S.locks_cover.looked_first j x o has_open L.at.unfixed (subst LookedFirst (sym place) tt)

  -- its locks in the catalog are S
  mine_shares : (h : Hold) → In h (holds_at cells catalog_at) → h.tx ≡ o.id → h.request.mode ≡ mode.S
  mine_shares = first.shares

  -- who lets rows change stays
  stays : (n : ℕ) (key : Key) (h : Hold) → In h (holds_at cells n) → lets_change key h.request ≡ true → In h (holds_at C' n)
  stays n key h has reach = ⊎_elim
      (λ (e : n ≡ catalog_at). is_held n h (λ m. (let z : lets_change key h.request ≡ false = shared_not key h.request (mine_shares h (subst (λ (q : ℕ). In h (holds_at cells q)) e has) m) in cc)) has)
      (λ (ne : n ≢ catalog_at). subst (In h) (sym (same_holds n ne)) has)
      (cases_eq n catalog_at)

  key_same : (id : ℕ) (key : Key) (q : List Version → List Version) → q (of_key (columns_at (defs_of T) id) key (versions_at C' id)) ≡ q (of_key (columns_at (defs_of T) id) key (versions_at cells id))
  key_same id key q = ap (λ (vs : List Version). q (of_key (columns_at (defs_of T) id) key vs)) (rows_same id)

  counts_same : (id : ℕ) (vs : List Version) → counted o.id id y.place vs ≡ counted o.id id x.place vs
  counts_same id vs = ap (λ (q : SessionStatus). counted o.id id q vs) (sym place)

  rows_agree : RowsAgree v C' S.ledger seats'
  rows_agree = record {
    free = λ id key l f. key_same id key (λ vs. vs) ∙ S.rows_agree.free id key l (λ h has r. f h (stays (cell_of id) key h has r) r);
    own = each_open seats j (sits s y) x o y o goes
        (λ n z r. r.end ≡ unfixed → (id : ℕ) (key : Key) → 1 ≤ id → (h : Hold) → In h (holds_at C' (cell_of id)) → h.tx ≡ r.id → lets_change key h.request ≡ true
        → counted r.id id z.place (of_key (columns_at (defs_of T) id) key (versions_at C' id)) ≡ of_key (columns_at (defs_of T) id) key (versions_of (script_end v T z r).state.tables id))
        (λ e id key l h has m r. counts_same id _ ∙ key_same id key (counted o.id id x.place) ∙ S.rows_agree.own j x o has_open L.at.unfixed id key l h (was_held (cell_of id) h has) m r ∙ ap (λ (q : ScriptEnd). of_key (columns_at (defs_of T) id) key (versions_of q.state.tables id)) (sym (same_end x o y o same v T)))
        (λ n z r ne g e id key l h has m q. key_same id key (counted r.id id z.place) ∙ S.rows_agree.own n z r g e id key l h (was_held (cell_of id) h has) m q);
    undone = λ id key l h has u r. key_same id key (versions_undone h.tx 0) ∙ S.rows_agree.undone id key l h (was_held (cell_of id) h has) u r;
    rising = λ id l. subst Rising (sym (rows_same id)) (S.rows_agree.rising id l);
    back = each_open seats j (sits s y) x o y o goes (λ n z r. GoesBackTo z.place r.seq) tt (λ n z r ne g. S.rows_agree.back n z r g);
    explicit = each_open seats j (sits s y) x o y o goes (λ n z r. IsExplicitAt z.place r.explicit) tt (λ n z r ne g. S.rows_agree.explicit n z r g);
    before = each_open seats j (sits s y) x o y o goes
        (λ n z r. r.end ≡ unfixed → (id : ℕ) → 1 ≤ id → AllByRecursion (MadeBefore r.id r.seq) (counted r.id id z.place (versions_at C' id)))
        (λ e id l. subst (AllByRecursion (MadeBefore o.id o.seq)) (sym (counts_same id _ ∙ ap (counted o.id id x.place) (rows_same id))) (S.rows_agree.before j x o has_open L.at.unfixed id l))
        (λ n z r ne g e id l. subst (λ (vs : List Version). AllByRecursion (MadeBefore r.id r.seq) (counted r.id id z.place vs)) (sym (rows_same id)) (S.rows_agree.before n z r g e id l));
  }

  -- ---- locks

  lock_was : (n id : ℕ) → HasLock C' n id → HasLock cells n id
  lock_was n id l = record { hold = l.hold; has = was_held n l.hold l.has; mine = l.mine }

  lock_is : (n id : ℕ) → id ≢ o.id → HasLock cells n id → HasLock C' n id
  lock_is n id ne l = record { hold = l.hold; has = is_held n l.hold (λ e. ne (sym l.mine ∙ e)) l.has; mine = l.mine }

  none_mine : HasLock C' catalog_at o.id → ⊥
  none_mine l = not_mine_here l.hold l.has l.mine

  still_held : (n id : ℕ) (w : LockRequest) → id ≢ o.id → Holds (holds_at cells n) id w → Holds (holds_at C' n) id w
  still_held n id w ne h = record { hold = h.hold; has = is_held n h.hold (λ e. ne (sym h.mine ∙ e)) h.has; mine = h.mine; item = h.item; mode = h.mode }

  never_mine : (n : ℕ) (h : Hold) → In h (holds_at C' n) → h.tx ≡ o.id → ⊥
  never_mine zero h has m = not_mine_here h has m
  never_mine (suc n) h has m = first.elsewhere n (record { hold = h; has = was_held (suc n) h has; mine = m })

  belongs_then : (n : ℕ) (h : Hold) → In h (holds_at C' n) → Belongs seats n h → Belongs seats' n h
  belongs_then n h has b = record { j = b.j; x = b.x; o = b.o; has = open_else seats j (sits s y) x o y o goes b.j b.x b.o not_j b.has; mine = b.mine; only = only; visited = b.visited; unreleased = b.unreleased }
    where
      not_j : b.j ≢ j
      not_j e = let same = one_session seats j b.x x b.o o (subst (λ (m : ℕ). HasOpen seats m b.x b.o) e b.has) has_open in never_mine n h has (sym b.mine ∙ ap (λ (q : OpenTransaction). q.id) same.1)

      only : (m : ℕ) (z : Session) (r : OpenTransaction) → HasOpen seats' m z r → r.id ≡ h.tx → m ≡ b.j
      only = each_open seats j (sits s y) x o y o goes (λ m z r. r.id ≡ h.tx → m ≡ b.j) (λ e. b.only j x o has_open e) (λ m z r ne g e. b.only m z r g e)

  intent_stays : (n : ℕ) (h : Hold) → In h (holds_at C' n) → HasIntent (holds_at cells n) h → HasIntent (holds_at C' n) h
  intent_stays n h has t = ⊎_elim
      (λ (e : n ≡ catalog_at). let ne : h.tx ≢ o.id = not_mine_here h (subst (λ (m : ℕ). In h (holds_at C' m)) e has) in
      record { hold = t.hold; has = is_held n t.hold (λ q. ne (sym t.mine ∙ q)) t.has; mine = t.mine; whole = t.whole; mode = t.mode })
      (λ (ne : n ≢ catalog_at). record { hold = t.hold; has = subst (In t.hold) (sym (same_holds n ne)) t.has; mine = t.mine; whole = t.whole; mode = t.mode })
      (cases_eq n catalog_at)

  looked_then : (place : SessionStatus) (r : OpenTransaction) → r.id ≢ o.id → HoldsInCatalog v cells T place r → HoldsInCatalog v C' T place r
  looked_then place r ne h = record { lock = lock_is catalog_at r.id ne h.lock; requests = λ u e. each_weaker (Holds (holds_at cells catalog_at) r.id) (Holds (holds_at C' catalog_at) r.id) (λ w. still_held catalog_at r.id w ne) (of_catalog (text_requests (defs_of T) r.explicit (v.reads u)).catalog) (h.requests u e) }

  cover_here : (n : ℕ) → KeepsLocks o n → Each (λ l. Each (Holds (holds_at C' n) o.id) (requests_in v (defs_of T) o.explicit n l.0)) (script_so_far y o)
  cover_here n u = subst (Each (λ l. Each (Holds (holds_at C' n) o.id) (requests_in v (defs_of T) o.explicit n l.0))) (sym (append-nil o.script)) (⊎_elim
      (λ (e : n ≡ catalog_at). subst (λ (m : ℕ). Each (λ l. Each (Holds (holds_at C' m) o.id) (requests_in v (defs_of T) o.explicit m l.0)) o.script) (sym e)
      (each_weaker (λ (l : Line). requests_in v (defs_of T) o.explicit catalog_at l.0 ≡ []) (λ (l : Line). Each (Holds (holds_at C' catalog_at) o.id) (requests_in v (defs_of T) o.explicit catalog_at l.0)) (λ l k. subst (Each (Holds (holds_at C' catalog_at) o.id)) (sym k) tt) o.script first.before))
      (λ (ne : n ≢ catalog_at). subst (λ (hs : List Hold). Each (λ l. Each (Holds hs o.id) (requests_in v (defs_of T) o.explicit n l.0)) o.script) (sym (same_holds n ne))
      (subst (Each (λ l. Each (Holds (holds_at cells n) o.id) (requests_in v (defs_of T) o.explicit n l.0))) (ap (λ (q : SessionStatus). o.script ++ lines_at q) place ∙ append-nil o.script) (S.locks_cover.cover j x o has_open n u)))
      (cases_eq n catalog_at))

  lies_then : (id : ℕ) (w : Version) (e : EventId) → LiesUnder cells T id w e → LiesUnder C' T id w e
  lies_then id w e u = record { hold = u.hold; has = stays (cell_of id) _ u.hold u.has u.reaches; mine = u.mine; reaches = u.reaches }

  end_then : (id : ℕ) (w : Version) (e : Option EventId) → EndLiesUnder v cells S.ledger id w e → EndLiesUnder v C' S.ledger id w e
  end_then id w None u = tt
  end_then id w (Some e) u = λ q. lies_then id w e (u q)

  covered : LocksCover v C' S.ledger seats'
  covered = record {
    belong = λ n h has. belongs_then n h has (S.locks_cover.belong n h (was_held n h has));
    unreleased = each_open seats j (sits s y) x o y o goes (λ n z r. r.end ≡ unfixed → r.released ≡ []) (λ e. S.locks_cover.unreleased j x o has_open L.at.unfixed) (λ n z r ne h. S.locks_cover.unreleased n z r h);
    intents = λ n h has m. intent_stays n h has (S.locks_cover.intents n h (was_held n h has) m);
    looked = each_open seats j (sits s y) x o y o goes (λ n z r. r.end ≡ unfixed → LookedAt v C' T z.place r) (λ e. tt) (λ n z r ne h e. looked_so v C' T r z.place (λ l. looked_then z.place r (other_id n z r ne h) (looked_now v cells T r z.place (S.locks_cover.looked n z r h e) l)));
    on_whole = λ h has. S.locks_cover.on_whole h (was_held catalog_at h has);
    looked_first = each_open seats j (sits s y) x o y o goes (λ n z r. r.end ≡ unfixed → LookedFirst z.place → RequestsNone v C' T r) (λ e h. absurd h)
        (λ n z r ne h e f. let was = S.locks_cover.looked_first n z r h e f in record { before = was.before; shares = λ h has m. was.shares h (was_held catalog_at h has) m; elsewhere = λ m l. was.elsewhere m (lock_was (suc m) r.id l) });
    cover = each_open seats j (sits s y) x o y o goes (λ n z r. (m : ℕ) → KeepsLocks r m → Each (λ l. Each (Holds (holds_at C' m) r.id) (requests_in v (defs_of T) r.explicit m l.0)) (script_so_far z r)) cover_here
        (λ n z r ne h m u. each_weaker (λ (l : Line). Each (Holds (holds_at cells m) r.id) (requests_in v (defs_of T) r.explicit m l.0)) (λ (l : Line). Each (Holds (holds_at C' m) r.id) (requests_in v (defs_of T) r.explicit m l.0))
        (λ l. each_weaker (Holds (holds_at cells m) r.id) (Holds (holds_at C' m) r.id) (λ w. still_held m r.id w (other_id n z r ne h)) (requests_in v (defs_of T) r.explicit m l.0)) (script_so_far z r) (S.locks_cover.cover n z r h m u));
    catalog = λ n id l. let was = lock_was (suc n) id l in lock_is catalog_at id (λ e. first.elsewhere n (subst (HasLock cells (suc n)) e was)) (S.locks_cover.catalog n id was);
    definitions = λ n z r m h e l. each_open seats j (sits s y) x o y o goes (λ n z r. (m : ℕ) → EndsAt r.end m → HasLock C' catalog_at r.id → defs_of T ≡ defs_of (serial v.reads (upto S.ledger.items m)))
        (λ m e l. absurd (none_mine l))
        (λ n z r ne h m e l. S.locks_cover.definitions n z r m h e (lock_was catalog_at r.id l)) n z r h m e l;
    got = each_open seats j (sits s y) x o y o goes (λ n z r. HasLock C' catalog_at r.id → IsGotAt v C' T r.id (not (in_journal S.ledger.items (r.id, 0))) z.place) (λ l. tt)
        (λ n z r ne h l. got_at_more v T (HasAlone (contents cells) r.id) (HasAlone (contents C') r.id) (not (in_journal S.ledger.items (r.id, 0))) (λ has. is_held catalog_at _ (other_id n z r ne h) has) z.place (S.locks_cover.got n z r h (lock_was catalog_at r.id l)));
    dropping = each_open seats j (sits s y) x o y o goes (λ n z r. IsDropping z.place r → In (record { tx = r.id; request = whole X }) (holds_at C' catalog_at)) (λ h. absurd h)
        (λ n z r ne g h. is_held catalog_at (record { tx = r.id; request = whole X }) (other_id n z r ne g) (S.locks_cover.dropping n z r g h));
    under = λ id l. subst (Each (IsUnderLocks v C' S.ledger id)) (sym (rows_same id))
        (each_weaker (IsUnderLocks v cells S.ledger id) (IsUnderLocks v C' S.ledger id) (λ w u. record { start = λ q. lies_then id w w.start (u.start q); end = end_then id w w.end u.end }) (versions_at cells id) (S.locks_cover.under id l));
  }

  agree : LocksAgree C' seats'
  agree m n k a b ne f g = S.locks_agree m n k a b ne (had m n a f) (had m k b g)
    where
      had : (m n : ℕ) (h : Hold) → SeatHas C' seats' m n h → SeatHas cells seats m n h
      had m n h q = each_open seats j (sits s y) x o y o goes (λ n z r. r.id ≡ h.tx → SeatHas cells seats m n h)
          (λ e. record { x = x; o = o; open_one = has_open; lock = was_held m h q.lock; mine = e })
          (λ n z r ne u e. record { x = z; o = r; open_one = u; lock = was_held m h q.lock; mine = e })
          n q.x q.o q.open_one q.mine

  -- ---- tables

  not_mine : (z : Session) (stmt : Stmt) (k : Creates v cells seats S.ledger z stmt) → k.j ≢ j
  not_mine z stmt k e = let same = one_session seats j z x k.o o (subst (λ (n : ℕ). HasOpen seats n z k.o) e k.has) has_open in subst HasActed (ap (λ (u : Session). u.place) same.0 ∙ place) k.acted

  creates_else : (z : Session) (stmt : Stmt) → Creates v cells seats S.ledger z stmt → Creates v C' seats' S.ledger z stmt
  creates_else z stmt k = record {
    j = k.j;
    o = k.o;
    has = open_else seats j (sits s y) x o y o goes k.j z k.o (not_mine z stmt k) k.has;
    own = k.own;
    outside = k.outside;
    text = k.text;
    stands = k.stands;
    is = k.is;
    creates = k.creates;
    acted = k.acted;
    exclusive = is_held catalog_at (record { tx = k.o.id; request = whole X }) (λ m. not_mine z stmt k (one_seat v cells seats S k.j j z x k.o o k.has has_open m)) k.exclusive;
  }

  definitions_then : AreDefinitions v C' seats' S.ledger d.defs d.creator
  unfolding creates_else
  definitions_then = ⊎_elim (λ (e : S.catalog.defs ≡ defs_of T). inl (ap (λ (q : CatalogCell). q.defs) L.cell ∙ ap (λ (q : CatalogCell). q.defs) is_catalog ∙ e))
      (λ (u : IsUnderWay v cells seats S.ledger S.catalog.defs S.catalog.creator). inr (record { x = u.x; stmt = u.stmt; by = creates_else u.x u.stmt u.by; has_creator = ap (λ (q : CatalogCell). q.creator) L.cell ∙ ap (λ (q : CatalogCell). q.creator) is_catalog ∙ u.has_creator; is = ap (λ (q : CatalogCell). q.defs) L.cell ∙ ap (λ (q : CatalogCell). q.defs) is_catalog ∙ u.is })) S.tables_are_serial.definitions

  creator_then : (k : Creator) → d.creator ≡ Some k → GoesBack v C' S.ledger k
  creator_then k e = let was = S.tables_are_serial.goes_back k (ap (λ (q : CatalogCell). q.creator) (sym is_catalog) ∙ ap (λ (q : CatalogCell). q.creator) (sym L.cell) ∙ e) in
      record { exclusive = is_held catalog_at (record { tx = k.tx; request = whole X }) (λ m. (let z : X ≡ mode.S = mine_shares (record { tx = k.tx; request = whole X }) was.exclusive m in cc)) was.exclusive; before = was.before }

  indexes_then : (def : TableDef) (xs : List (List ℕ)) → AreIndexes v cells seats S.ledger def xs → AreIndexes v C' seats' S.ledger def xs
  unfolding creates_else
  indexes_then def xs h = ⊎_elim (λ (e : xs ≡ ordinals_of def.indexes). inl e)
      (λ (k : (z : Session) × (st : Stmt) × (after : TableDef) × (by : Creates v cells seats S.ledger z st) × (def_at (defs_of (defined (change_set T st).definition T)) def.id ≡ Some after) × (xs ≡ ordinals_of after.indexes) × IsAdding z.place by.o after (cell_of def.id)).
      inr (k.0, k.1, k.2, creates_else k.0 k.1 k.3, k.4, k.5, k.6)) h

  table_was : (n : ℕ) (cell : TableCell) → table_found (get_elem? C' n) ≡ some cell → table_found (get_elem? cells n) ≡ some cell
  table_was n cell f = let e = table_there (get_elem? C' n) cell f in ⊎_elim
      (λ (q : n ≡ catalog_at). absurd (let f : some (Catalog d) ≡ some (Rows cell) = sym (set_here cells catalog_at (Catalog c) (Catalog d) out) ∙ ap (get_elem? C') (sym q) ∙ e in cc))
      (λ (ne : n ≢ catalog_at). ap table_found (sym (set_else cells catalog_at n (Catalog d) ne) ∙ e))
      (cases_eq n catalog_at)

  indexed_else : (place : SessionStatus) → IsIndexed cells place → IsIndexed C' place
  indexed_else (inside at (made def true)) was = λ m cell f k. was m cell (table_was m cell f) k
  indexed_else (inside at (made def false)) was = tt
  indexed_else place was = tt

  stands_then : (cell : TableCell) (def : Option TableDef) → StandsAs v cells seats S.ledger cell def → StandsAs v C' seats' S.ledger cell def
  stands_then cell None h = h
  stands_then cell (Some def) h = record { key = h.key; fit = h.fit; in_key_order = h.in_key_order; keys_differ = h.keys_differ; projections = h.projections; indexes = indexes_then def (map (λ q. q.ordinals) cell.indexes) h.indexes }

  carried_then : (left : Tables) → IsCarried S.catalog.defs T left → IsCarried d.defs T left
  carried_then left h = ⊎_elim (λ (e : S.catalog.defs ≡ defs_of left). inl (ap (λ (q : CatalogCell). q.defs) L.cell ∙ ap (λ (q : CatalogCell). q.defs) is_catalog ∙ e)) (λ (e : defs_of left ≡ defs_of T). inr e) h

  same_shown : (b : Bool) → shown_with v.meaning b o.id text (refused (reply.Refused L.refusal)) ≡ shown_with v.meaning b o.id text (answering (reply.Refused L.refusal) None)
  same_shown true = refl
  same_shown false = refl

  same_fits : (b : Bool) (n : ℕ) → FitsWith v.meaning b n text (refused (reply.Refused L.refusal)) o.id o.end → FitsWith v.meaning b n text (answering (reply.Refused L.refusal) None) o.id o.end
  same_fits true n f = f
  same_fits false n f = f

  -- a refused statement that gives the catalog's lock back keeps cells and seats together
  pub gives_back : Stands v history C' (set seats j t)
  gives_back = subst (λ (u : SeatState). Stands v history C' (set seats j u)) (sym L.seat) (record {
    catalog = d;
    ledger = S.ledger;
    are_cells = catalog_changed cells S.catalog S.ledger d S.are_cells;
    ledger_is_legal = S.ledger_is_legal;
    tables_are_serial = record {
      definitions = definitions_then;
      goes_back = creator_then;
      carried = each_open seats j (sits s y) x o y o goes (λ n z r. r.end ≡ unfixed → IsCarried d.defs T (script_end v T z r).state.tables)
          (λ e. carried_then _ (subst (λ (g : ScriptEnd). IsCarried S.catalog.defs T g.state.tables) (sym (same_end x o y o same v T)) (S.tables_are_serial.carried j x o has_open L.at.unfixed))) (λ n z r ne h e. carried_then _ (S.tables_are_serial.carried n z r h e));
      indexed = each_open seats j (sits s y) x o y o goes (λ n z r. r.end ≡ unfixed → IsIndexed C' z.place) (λ e. tt) (λ n z r ne h e. indexed_else z.place (S.tables_are_serial.indexed n z r h e));
      versions = λ id l. ap (committed S.ledger.items) (rows_same id) ∙ S.tables_are_serial.versions id l;
      tables = λ n cell e. stands_then cell (def_at (defs_of T) cell.id) (S.tables_are_serial.tables n cell (table_was n cell e));
    };
    rows_agree = rows_agree;
    open_scripts = each_open seats j (sits s y) x o y o goes (λ n z r. r.end ≡ unfixed → IsOfItsScript v C' T z r)
        (λ e. script_stays x o y o same v cells C' T rows_same (S.open_scripts j x o has_open L.at.unfixed))
        (λ n z r ne h e. script_stays z r z r (no_change z r) v cells C' T rows_same (S.open_scripts n z r h e));
    locks_cover = covered;
    locks_agree = agree;
    trees_are_of_events = each_open seats j (sits s y) x o y o goes (λ n z r. r.end ≡ unfixed → HasItsTrees v C' S.ledger z r)
        (λ e. trees_stay x o y o same v cells C' S.ledger rows_same (S.trees_are_of_events j x o has_open L.at.unfixed))
        (λ n z r ne h e. trees_stay z r z r (no_change z r) v cells C' S.ledger rows_same (S.trees_are_of_events n z r h e));
    transcripts_agree = stage_act v cells seats S j s there x L.at.stands.role o L.at.open_one text (refused (reply.Refused L.refusal)) (answering (reply.Refused L.refusal) None) place same_shown refl refl same_fits refl (λ answered a h. h) o (record { id = refl; explicit = refl; script = refl; end = refl });
  })
