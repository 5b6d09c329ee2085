-- A seat takes locks in a cell, for the statement in which it stands, and changes nothing else there.
use Rattle.std.proofs.Common.{◌≡◌, ◌≢◌, ◌⊎◌, ℕ, suc, ◌≤◌, Bool, true, false, List, [], map, set, Option, Some, None, refl, sym, ap, ◌∙◌, subst, inl, inr, ⊎_elim}
use Rattle.std.proofs.lemmas.Bool.{cases_eq}
use Rattle.std.specs.Prelude.{not}
use Rattle.std.specs.List.{AllByRecursion}
use mathlib.Core.Option.{some}
use lib.ListN.{get_elem?}
use Rattle.sql_types.specs.declared.lock.Mode.TheVariants.{IX, X}
use Rattle.sql_types.specs.declared.lock.Item.TheVariants.{Whole}
use Rattle.sql_types.specs.declared.lock.LockRequest.{LockRequest}
use Rattle.sql_types.specs.declared.statement.Stmt.{Stmt}
use Rattle.sql_types.specs.declared.table.TableDef.{TableDef}
use Rattle.sql_types.specs.declared.version.Version.{Version}
use Rattle.spec_model.specs.Rows.{EventId}
use Rattle.spec_model.specs.Keys.{Key, of_key}
use Rattle.spec_model.specs.Catalog.{Tables, defs_of, versions_of}
use Rattle.spec_model.specs.Journals.{Line, serial, upto}
use Rattle.spec_model.specs.Locks.{whole, same_item, requests_conflict}
use Rattle.spec_model.specs.Agreement.{columns_at}
use Rattle.spec_model.specs.ChangeSets.{change_set, defined}
use Rattle.spec_model.specs.Reach.{lets_change}
use Rattle.spec_model.specs.Runs.{Rising, MadeBefore}
use Rattle.spec_model.specs.Script.{ScriptEnd}
use Rattle.spec_model.specs.Undo.{versions_undone}
use Rattle.spec_history.specs.Lists.{Text, Each, In}
use Rattle.spec_history.specs.Refusals.{EndsAt}
use Rattle.spec_history.specs.Transactions.{End, unfixed}
use Rattle.spec_history.proofs.Trace.{each_weaker}
use Rattle.spec_protocol.specs.Server.{Server}
use Rattle.sql_types.specs.declared.lock.Hold.{Hold}
use Rattle.spec_protocol.specs.Cells.{Creator, CatalogCell, TableCell, Cell, Rows, holds_in, holds_at, versions_in, versions_at, catalog_at, cell_of}
use Rattle.spec_protocol.specs.Seats.{OpenTransaction, made, SessionStatus, inside, Session, SeatState}
use Rattle.spec_protocol.specs.OpenOnes.{HasOpen, text_at, script_so_far, script_end}
use Rattle.spec_protocol.specs.OpenScripts.{counted}
use Rattle.spec_protocol.specs.RequestsIn.{requests_in, Holds, of_catalog}
use Rattle.law_protocol_steps.proofs.Taken.{taken, AreFree}
use Rattle.spec_protocol.specs.TableVisits.{with_holds}
use Rattle.spec_protocol.specs.TablesAreSerial.{HasActed, IsCarried, def_at, ordinals_of, HasAdded, IsAdding}
use Rattle.spec_protocol.specs.LocksCover.{KeepsLocks, Belongs, HasIntent, LookedFirst, IsDropping}
use Rattle.spec_protocol.specs.RowsAgree.{GoesBackTo, IsExplicitAt}
use Rattle.spec_protocol.specs.StandTogether.{History, Stands}
use Rattle.law_protocol_steps.proofs.AfterSet.{each_at}
use Rattle.law_protocol_steps.proofs.SeatsAfter.{Goes, one_session, open_here, open_else, each_open, kept_open}
use Rattle.law_protocol_steps.proofs.CellsAfter.{holds_here, held_here, each_holds, versions_kept}
use Rattle.law_protocol_steps.proofs.Taken.{taken_keeps, taken_comes, taken_holds, held_longer, whole_alone, conflict_turned}
use Rattle.law_protocol_steps.proofs.SameOne.{IsSame, no_change, same_script, same_end, script_stays, trees_stay}
use Rattle.law_protocol_steps.proofs.SeatIds.{one_seat}
use Rattle.law_protocol_steps.proofs.OfCells.{AreDefinitions, AreIndexes, Creates, EndLiesUnder, GoesBack, HasItsTrees, HasLock, HasLooked, HoldsInCatalog, IsFree, IsGotAt, IsIndexed, IsOfItsScript, IsUnderLocks, IsUnderWay, LiesUnder, LocksAgree, LocksCover, OpenScripts, RowsAgree, SeatHas, StandsAs, TablesAreSerial, TreesAreOfEvents, RequestsNone, committed, in_journal, LookedAt, looked_now, looked_so, table_there}
use Rattle.spec_protocol.specs.Contents.{HasAlone, contents, table_found}
use Rattle.law_protocol_steps.proofs.GotMore.{got_at_more}
use Rattle.spec_model.specs.ScriptRequests.{text_requests}

-- the tables that the journal leads to
abbrev pub tables_now : {v : Server} {cells : List Cell} {seats : List SeatState} {history : History} → Stands v history cells seats → Tables
tables_now {v = v} S = serial v.reads S.ledger.items

pub record Takes (v : Server) (cells : List Cell) (seats : List SeatState) {history : History} (S : Stands v history cells seats) (j : ℕ) (t : SeatState) (x : Session) (o : OpenTransaction) (y : Session) (p : OpenTransaction)
    (k : ℕ) (old new : Cell) (requests : List LockRequest) (text : Text) : Type 0 where
  pub goes : Goes seats j t x o y p
  pub unfixed : o.end ≡ unfixed
  pub same : IsSame x o y p
  pub back : GoesBackTo x.place o.seq → GoesBackTo y.place o.seq
  pub out : get_elem? cells k ≡ some old
  pub rows : (id : ℕ) → versions_in id new ≡ versions_in id old
  pub locks : holds_in new ≡ taken o.id requests (holds_in old)
  pub free : AreFree (holds_in old) o.id requests
  pub place : text_at x.place ≡ Some text
  -- in the catalog it locks all of it
  pub on_whole : k ≡ catalog_at → (w : LockRequest) → In w requests → w.item ≡ Whole
  pub visited : In k p.visited
  -- it has changed no definition
  pub acted : HasActed x.place → HasActed y.place
  pub goes_on : IsDropping y.place p → ⊥
  pub no_index : (after : TableDef) → HasAdded x.place o after → ⊥
  pub stays_opened : IsExplicitAt y.place p.explicit
  -- in a table's cell it has the catalog's lock
  pub looked : (i : ℕ) → k ≡ suc i → HasLock cells catalog_at o.id
  -- who wants X on a row has said so on the whole table
  pub intents : (w : LockRequest) → In w requests → w.mode ≡ X → (u : LockRequest) × In u requests × (u.item ≡ Whole) × ((u.mode ≡ IX) ⊎ (u.mode ≡ X))
  -- on the rows on which it takes X nobody is in the way
  pub own : (id : ℕ) (key : Key) (w : LockRequest) → 1 ≤ id → cell_of id ≡ k → In w requests → lets_change key w ≡ true
      → counted o.id id x.place (of_key (columns_at (defs_of (tables_now S)) id) key (versions_at cells id))
      ≡ of_key (columns_at (defs_of (tables_now S)) id) key (versions_of (script_end v (tables_now S) x o).state.tables id)
  pub undone : (id : ℕ) (key : Key) (w : LockRequest) → 1 ≤ id → cell_of id ≡ k → In w requests → lets_change key w ≡ true
      → versions_undone o.id 0 (of_key (columns_at (defs_of (tables_now S)) id) key (versions_at cells id))
      ≡ of_key (columns_at (defs_of (tables_now S)) id) key (versions_of (tables_now S) id)

module _ (v : Server) (cells : List Cell) (seats : List SeatState) {history : History} (S : Stands v history cells seats) (j : ℕ) (t : SeatState) (x : Session) (o : OpenTransaction) (y : Session) (p : OpenTransaction)
    (k : ℕ) (old new : Cell) (requests : List LockRequest) (text : Text) (K : Takes v cells seats S j t x o y p k old new requests text) where
  abbrev pub cells_then : List Cell
  cells_then = set cells k new

  abbrev pub seats_then : List SeatState
  seats_then = set seats j t

  abbrev T : Tables
  T = tables_now S

  -- ---- locks

  pub came : (i : ℕ) (h : Hold) → In h (holds_at cells_then i) → In h (holds_at cells i) ⊎ ((i ≡ k) × (h.tx ≡ o.id) × In h.request requests)
  came i h = each_holds cells k old new K.out (λ n hs. In h hs → In h (holds_at cells n) ⊎ ((n ≡ k) × (h.tx ≡ o.id) × In h.request requests))
      (λ has. ⊎_elim
      (λ (was : In h (holds_in old)). inl (subst (In h) (sym (held_here cells k old new K.out)) was))
      (λ (is : (h.tx ≡ o.id) × In h.request requests). inr (refl, is.0, is.1))
      (taken_comes o.id requests (holds_in old) h (subst (In h) K.locks has)))
      (λ n has. inl has) i

  pub stayed : (i : ℕ) (h : Hold) → In h (holds_at cells i) → In h (holds_at cells_then i)
  stayed i h = each_holds cells k old new K.out (λ n hs. In h (holds_at cells n) → In h hs)
      (λ was. subst (In h) (sym K.locks) (taken_keeps o.id requests (holds_in old) h (subst (In h) (held_here cells k old new K.out) was)))
      (λ n has. has) i

  pub lock_came : (i id : ℕ) → HasLock cells_then i id → HasLock cells i id ⊎ ((i ≡ k) × (id ≡ o.id))
  lock_came i id l = ⊎_elim
      (λ (was : In l.hold (holds_at cells i)). inl (record { hold = l.hold; has = was; mine = l.mine }))
      (λ (is : (i ≡ k) × (l.hold.tx ≡ o.id) × In l.hold.request requests). inr (is.0, sym l.mine ∙ is.1))
      (came i l.hold l.has)

  pub lock_stayed : (i id : ℕ) → HasLock cells i id → HasLock cells_then i id
  lock_stayed i id l = record { hold = l.hold; has = stayed i l.hold l.has; mine = l.mine }

  -- a lock of another seat's transaction was there before
  others_lock : (i n : ℕ) (z : Session) (r : OpenTransaction) → n ≢ j → HasOpen seats n z r → HasLock cells_then i r.id → HasLock cells i r.id
  others_lock i n z r ne h l = ⊎_elim (λ (was : HasLock cells i r.id). was)
      (λ (is : (i ≡ k) × (r.id ≡ o.id)). absurd (ne (one_seat v cells seats S n j z x r o h K.goes.before is.1)))
      (lock_came i r.id l)

  pub same_rows : (id : ℕ) → versions_at cells_then id ≡ versions_at cells id
  same_rows = versions_kept cells k old new K.out K.rows

  open_now : HasOpen seats_then j y p
  open_now = open_here seats j t x o y p K.goes

  -- ---- each lock

  belongs_after : (i : ℕ) (h : Hold) → Belongs seats i h → Belongs seats_then i h
  belongs_after i h b = ⊎_elim
      (λ (e : b.j ≡ j).
      let same = one_session seats j b.x x b.o o (subst (λ (n : ℕ). HasOpen seats n b.x b.o) e b.has) K.goes.before in
      record {
        j = j;
        x = y;
        o = p;
        has = open_now;
        mine = K.same.id ∙ ap (λ (z : OpenTransaction). z.id) (sym same.1) ∙ b.mine;
        only = λ n z r g q. only n z r g q ∙ e;
        visited = K.same.visited i (subst (λ (z : OpenTransaction). In i z.visited) same.1 b.visited);
        unreleased = λ z. b.unreleased (subst (λ (u : OpenTransaction). In i u.released) (sym same.1) (subst (In i) K.same.released z));
      })
      (λ (ne : b.j ≢ j). record { j = b.j; x = b.x; o = b.o; has = open_else seats j t x o y p K.goes b.j b.x b.o ne b.has; mine = b.mine; only = only; visited = b.visited; unreleased = b.unreleased })
      (cases_eq b.j j)
    where
      only : (n : ℕ) (z : Session) (r : OpenTransaction) → HasOpen seats_then n z r → r.id ≡ h.tx → n ≡ b.j
      only = kept_open seats j t x o y p K.goes (λ n z r. r.id ≡ h.tx → n ≡ b.j) (λ was e. was (sym K.same.id ∙ e)) b.only

  taken_belongs : (i : ℕ) (h : Hold) → i ≡ k → h.tx ≡ o.id → In h.request requests → Belongs seats_then i h
  taken_belongs i h e mine is = record {
    j = j;
    x = y;
    o = p;
    has = open_now;
    mine = K.same.id ∙ sym mine;
    only = kept_open seats j t x o y p K.goes (λ n z r. r.id ≡ h.tx → n ≡ j) (λ was e. refl) (λ n z r g q. one_seat v cells seats S n j z x r o g K.goes.before (q ∙ mine));
    visited = subst (λ (n : ℕ). In n p.visited) (sym e) K.visited;
    unreleased = λ z. subst (In i) (K.same.released ∙ S.locks_cover.unreleased j x o K.goes.before K.unfixed) z;
  }

  belong : (i : ℕ) (h : Hold) → In h (holds_at cells_then i) → Belongs seats_then i h
  belong i h has = ⊎_elim
      (λ (was : In h (holds_at cells i)). belongs_after i h (S.locks_cover.belong i h was))
      (λ (is : (i ≡ k) × (h.tx ≡ o.id) × In h.request requests). taken_belongs i h is.0 is.1 is.2)
      (came i h has)

  -- ---- who says so on the whole table

  intent_stays : (i : ℕ) (h : Hold) → HasIntent (holds_at cells i) h → HasIntent (holds_at cells_then i) h
  intent_stays i h n = record { hold = n.hold; has = stayed i n.hold n.has; mine = n.mine; whole = n.whole; mode = n.mode }

  intents : (i : ℕ) (h : Hold) → In h (holds_at cells_then i) → h.request.mode ≡ X → HasIntent (holds_at cells_then i) h
  intents i h has m = ⊎_elim
      (λ (was : In h (holds_at cells i)). intent_stays i h (S.locks_cover.intents i h was m))
      (λ (is : (i ≡ k) × (h.tx ≡ o.id) × In h.request requests). taken_intent is.0 is.1 (K.intents h.request is.2 m))
      (came i h has)
    where
      taken_intent : i ≡ k → h.tx ≡ o.id → (u : LockRequest) × In u requests × (u.item ≡ Whole) × ((u.mode ≡ IX) ⊎ (u.mode ≡ X)) → HasIntent (holds_at cells_then i) h
      taken_intent e mine u =
          let held : Holds (taken o.id requests (holds_in old)) o.id u.0 = each_at (Holds (taken o.id requests (holds_in old)) o.id) requests u.0 (taken_holds o.id requests (holds_in old)) u.1 in
          record {
            hold = held.hold;
            has = subst (λ (n : ℕ). In held.hold (holds_at cells_then n)) (sym e) (subst (In held.hold) (sym (holds_here cells k old new K.out)) (subst (In held.hold) (sym K.locks) held.has));
            mine = held.mine ∙ sym mine;
            whole = whole_alone held.hold.request.item (ap (same_item held.hold.request.item) (sym u.2) ∙ held.item);
            mode = ⊎_elim (λ (z : (u.0).mode ≡ IX). inl (held.mode ∙ z)) (λ (z : (u.0).mode ≡ X). inr (held.mode ∙ z)) u.3;
          }

  -- ---- the wants of scripts

  longer : (r : OpenTransaction) (i : ℕ) (ls : List Line) → Each (λ l. Each (Holds (holds_at cells i) r.id) (requests_in v (defs_of T) r.explicit i l.0)) ls → Each (λ l. Each (Holds (holds_at cells_then i) r.id) (requests_in v (defs_of T) r.explicit i l.0)) ls
  longer r i ls = each_weaker (λ (l : Line). Each (Holds (holds_at cells i) r.id) (requests_in v (defs_of T) r.explicit i l.0)) (λ (l : Line). Each (Holds (holds_at cells_then i) r.id) (requests_in v (defs_of T) r.explicit i l.0))
      (λ l. each_weaker (Holds (holds_at cells i) r.id) (Holds (holds_at cells_then i) r.id) (λ w. held_longer r.id (holds_at cells i) (holds_at cells_then i) w (stayed i)) (requests_in v (defs_of T) r.explicit i l.0)) ls

  covers : (i : ℕ) → KeepsLocks p i → Each (λ l. Each (Holds (holds_at cells_then i) p.id) (requests_in v (defs_of T) p.explicit i l.0)) (script_so_far y p)
  covers i n =
      subst (λ (u : List Line). Each (λ l. Each (Holds (holds_at cells_then i) p.id) (requests_in v (defs_of T) p.explicit i l.0)) u) (sym (same_script x o y p K.same))
      (subst (λ (b : Bool). Each (λ l. Each (Holds (holds_at cells_then i) p.id) (requests_in v (defs_of T) b i l.0)) (script_so_far x o)) (sym K.same.explicit)
      (subst (λ (m : ℕ). Each (λ l. Each (Holds (holds_at cells_then i) m) (requests_in v (defs_of T) o.explicit i l.0)) (script_so_far x o)) (sym K.same.id)
      (longer o i (script_so_far x o) (S.locks_cover.cover j x o K.goes.before i (λ z. n.0 (subst (In i) (sym K.same.released) z), λ z. n.1 (subst (In catalog_at) (sym K.same.released) z))))))

  -- ---- what isn't committed

  lies_under : (id : ℕ) (w : Version) (event : EventId) → LiesUnder cells T id w event → LiesUnder cells_then T id w event
  lies_under id w event u = record { hold = u.hold; has = stayed (cell_of id) u.hold u.has; mine = u.mine; reaches = u.reaches }

  end_under : (id : ℕ) (w : Version) (e : Option EventId) → EndLiesUnder v cells S.ledger id w e → EndLiesUnder v cells_then S.ledger id w e
  end_under id w None u = tt
  end_under id w (Some event) u = λ z. lies_under id w event (u z)

  under : (id : ℕ) → 1 ≤ id → Each (IsUnderLocks v cells_then S.ledger id) (versions_at cells_then id)
  under id l = subst (Each (IsUnderLocks v cells_then S.ledger id)) (sym (same_rows id))
      (each_weaker (IsUnderLocks v cells S.ledger id) (IsUnderLocks v cells_then S.ledger id) (λ w u. record { start = λ z. lies_under id w w.start (u.start z); end = end_under id w w.end u.end }) (versions_at cells id) (S.locks_cover.under id l))

  pub looked_stays : (place : SessionStatus) (r : OpenTransaction) → HoldsInCatalog v cells T place r → HoldsInCatalog v cells_then T place r
  looked_stays place r h = record {
    lock = lock_stayed catalog_at r.id h.lock;
    requests = λ u e. each_weaker (Holds (holds_at cells catalog_at) r.id) (Holds (holds_at cells_then catalog_at) r.id) (λ w. held_longer r.id (holds_at cells catalog_at) (holds_at cells_then catalog_at) w (stayed catalog_at)) (of_catalog (text_requests (defs_of T) r.explicit (v.reads u)).catalog) (h.requests u e);
  }

  -- ---- all of it

  module _ (got_here : HasLock cells_then catalog_at p.id → IsGotAt v cells_then T p.id (not (in_journal S.ledger.items (p.id, 0))) y.place)
      (looked_here : HasLooked y.place → HoldsInCatalog v cells_then T y.place p) (first_here : LookedFirst y.place → RequestsNone v cells_then T p) where
    pub covered : LocksCover v cells_then S.ledger seats_then
    covered = record {
      belong = belong;
      unreleased = kept_open seats j t x o y p K.goes (λ n z r. r.end ≡ unfixed → r.released ≡ []) (λ was e. K.same.released ∙ was (sym K.same.end ∙ e)) S.locks_cover.unreleased;
      intents = intents;
      looked = each_open seats j t x o y p K.goes (λ n z r. r.end ≡ unfixed → LookedAt v cells_then T z.place r) (λ e. looked_so v cells_then T p y.place looked_here) (λ n z r ne h e. looked_so v cells_then T r z.place (λ l. looked_stays z.place r (looked_now v cells T r z.place (S.locks_cover.looked n z r h e) l)));
      on_whole = λ h has. ⊎_elim (λ (was : In h (holds_at cells catalog_at)). S.locks_cover.on_whole h was) (λ (is : (catalog_at ≡ k) × (h.tx ≡ o.id) × In h.request requests). K.on_whole (sym is.0) h.request is.2) (came catalog_at h has);
      looked_first = each_open seats j t x o y p K.goes (λ n z r. r.end ≡ unfixed → LookedFirst z.place → RequestsNone v cells_then T r) (λ e. first_here)
          (λ n z r ne h e f. let was = S.locks_cover.looked_first n z r h e f in record { before = was.before; shares = λ g has m. ⊎_elim (λ (k : In g (holds_at cells catalog_at)). was.shares g k m) (λ (q : (catalog_at ≡ k) × (g.tx ≡ o.id) × In g.request requests). absurd (ne (one_seat v cells seats S n j z x r o h K.goes.before (sym m ∙ q.1)))) (came catalog_at g has); elsewhere = λ i l. was.elsewhere i (others_lock (suc i) n z r ne h l) });
      cover = each_open seats j t x o y p K.goes (λ n z r. (i : ℕ) → KeepsLocks r i → Each (λ l. Each (Holds (holds_at cells_then i) r.id) (requests_in v (defs_of T) r.explicit i l.0)) (script_so_far z r)) covers
          (λ n z r ne h i u. longer r i (script_so_far z r) (S.locks_cover.cover n z r h i u));
      catalog = λ i id l. ⊎_elim (λ (was : HasLock cells (suc i) id). lock_stayed catalog_at id (S.locks_cover.catalog i id was))
          (λ (is : (suc i ≡ k) × (id ≡ o.id)). lock_stayed catalog_at id (subst (HasLock cells catalog_at) (sym is.1) (K.looked i (sym is.0)))) (lock_came (suc i) id l);
      definitions = λ n z r m h e l. each_open seats j t x o y p K.goes (λ n z r. (m : ℕ) → EndsAt r.end m → HasLock cells_then catalog_at r.id → defs_of T ≡ defs_of (serial v.reads (upto S.ledger.items m)))
          (λ m e l. absurd (subst (λ (u : End). EndsAt u m) (K.same.end ∙ K.unfixed) e))
          (λ n z r ne h m e l. S.locks_cover.definitions n z r m h e (others_lock catalog_at n z r ne h l)) n z r h m e l;
      got = each_open seats j t x o y p K.goes (λ n z r. HasLock cells_then catalog_at r.id → IsGotAt v cells_then T r.id (not (in_journal S.ledger.items (r.id, 0))) z.place) got_here
          (λ n z r ne h l. got_at_more v T (HasAlone (contents cells) r.id) (HasAlone (contents cells_then) r.id) (not (in_journal S.ledger.items (r.id, 0))) (stayed catalog_at _) z.place (S.locks_cover.got n z r h (others_lock catalog_at n z r ne h l)));
      dropping = each_open seats j t x o y p K.goes (λ n z r. IsDropping z.place r → In (record { tx = r.id; request = whole X }) (holds_at cells_then catalog_at)) (λ d. absurd (K.goes_on d))
          (λ n z r ne h d. stayed catalog_at _ (S.locks_cover.dropping n z r h d));
      under = under;
    }

  -- ---- no conflict

  was_had : (i n : ℕ) (h : Hold) → n ≢ j → SeatHas cells_then seats_then i n h → SeatHas cells seats i n h
  was_had i n h ne b = each_open seats j t x o y p K.goes (λ m z r. m ≡ n → r.id ≡ h.tx → SeatHas cells seats i m h)
      (λ e q. absurd (ne (sym e)))
      (λ m z r d g e q. record { x = z; o = r; open_one = g; lock = ⊎_elim (λ (was : In h (holds_at cells i)). was) (λ (is : (i ≡ k) × (h.tx ≡ o.id) × In h.request requests). absurd (d (one_seat v cells seats S m j z x r o g K.goes.before (q ∙ is.1)))) (came i h b.lock); mine = q })
      n b.x b.o b.open_one refl b.mine

  mine_had : (i : ℕ) (h : Hold) → SeatHas cells_then seats_then i j h → SeatHas cells seats i j h ⊎ ((i ≡ k) × In h.request requests)
  mine_had i h b = ⊎_elim
      (λ (was : In h (holds_at cells i)). inl (record { x = x; o = o; open_one = K.goes.before; lock = was; mine = sym K.same.id ∙ ap (λ (r : OpenTransaction). r.id) (one_session seats_then j y b.x p b.o open_now b.open_one).1 ∙ b.mine }))
      (λ (is : (i ≡ k) × (h.tx ≡ o.id) × In h.request requests). inr (is.0, is.2))
      (came i h b.lock)

  not_free : (i n : ℕ) (h : Hold) (w : LockRequest) → n ≢ j → i ≡ k → In w requests → SeatHas cells seats i n h → requests_conflict w h.request ≡ false
  not_free i n h w ne e is b =
      each_at (λ (g : Hold). g.tx ≢ o.id → requests_conflict w g.request ≡ false) (holds_in old) h (each_at (λ (u : LockRequest). Each (λ g. g.tx ≢ o.id → requests_conflict u g.request ≡ false) (holds_in old)) requests w K.free is)
      (subst (In h) (held_here cells k old new K.out) (subst (λ (m : ℕ). In h (holds_at cells m)) e b.lock))
      (λ q. ne (one_seat v cells seats S n j b.x x b.o o b.open_one K.goes.before (b.mine ∙ q)))

  -- as with this seat's, so with each
  one_is_mine : (i n : ℕ) (a b : Hold) → n ≢ j → SeatHas cells_then seats_then i j a → SeatHas cells_then seats_then i n b → requests_conflict a.request b.request ≡ false
  one_is_mine i n a b ne f g = ⊎_elim
      (λ (was : SeatHas cells seats i j a). S.locks_agree i j n a b (λ e. ne (sym e)) was (was_had i n b ne g))
      (λ (is : (i ≡ k) × In a.request requests). not_free i n b a.request ne is.0 is.1 (was_had i n b ne g))
      (mine_had i a f)

  pub agree : LocksAgree cells_then seats_then
  agree i m n a b ne f g = ⊎_elim
      (λ (e : m ≡ j). one_is_mine i n a b (λ q. ne (e ∙ sym q)) (subst (λ (u : ℕ). SeatHas cells_then seats_then i u a) e f) g)
      (λ (d : m ≢ j). ⊎_elim
      (λ (e : n ≡ j). conflict_turned b.request a.request ∙ one_is_mine i m b a d (subst (λ (u : ℕ). SeatHas cells_then seats_then i u b) e g) f)
      (λ (c : n ≢ j). S.locks_agree i m n a b ne (was_had i m a d f) (was_had i n b c g))
      (cases_eq n j))
      (cases_eq m j)

  -- ---- rows

  free_before : (i : ℕ) (key : Key) → IsFree (holds_at cells_then i) S.ledger key → IsFree (holds_at cells i) S.ledger key
  free_before i key f h has r = f h (stayed i h has) r

  rows_same : (id : ℕ) (key : Key) (q : List Version → List Version) → q (of_key (columns_at (defs_of T) id) key (versions_at cells_then id)) ≡ q (of_key (columns_at (defs_of T) id) key (versions_at cells id))
  rows_same id key q = ap (λ (vs : List Version). q (of_key (columns_at (defs_of T) id) key vs)) (same_rows id)

  -- what is said of the rows of a seat's transaction, where it had the lock before
  abbrev Owns : List Cell → Session → OpenTransaction → ℕ → Key → Type 0
  Owns cs z r id key = counted r.id id z.place (of_key (columns_at (defs_of T) id) key (versions_at cs id)) ≡ of_key (columns_at (defs_of T) id) key (versions_of (script_end v T z r).state.tables id)

  owns_here : (id : ℕ) (key : Key) → Owns cells x o id key → Owns cells_then y p id key
  owns_here id key h =
      ap (λ (n : ℕ). counted n id y.place (of_key (columns_at (defs_of T) id) key (versions_at cells_then id))) K.same.id ∙ K.same.counts o.id id (of_key (columns_at (defs_of T) id) key (versions_at cells_then id)) ∙ rows_same id key (counted o.id id x.place)
      ∙ h ∙ ap (λ (e : ScriptEnd). of_key (columns_at (defs_of T) id) key (versions_of e.state.tables id)) (sym (same_end x o y p K.same v T))

  owns_else : (z : Session) (r : OpenTransaction) (id : ℕ) (key : Key) → Owns cells z r id key → Owns cells_then z r id key
  owns_else z r id key h = rows_same id key (counted r.id id z.place) ∙ h

  pub rows : RowsAgree v cells_then S.ledger seats_then
  rows = record {
    free = λ id key l f. rows_same id key (λ vs. vs) ∙ S.rows_agree.free id key l (free_before (cell_of id) key f);
    own = each_open seats j t x o y p K.goes
        (λ n z r. r.end ≡ unfixed → (id : ℕ) (key : Key) → 1 ≤ id → (h : Hold) → In h (holds_at cells_then (cell_of id)) → h.tx ≡ r.id → lets_change key h.request ≡ true → Owns cells_then z r id key)
        (λ e id key l h has mine q. owns_here id key (⊎_elim
        (λ (was : In h (holds_at cells (cell_of id))). S.rows_agree.own j x o K.goes.before K.unfixed id key l h was (mine ∙ K.same.id) q)
        (λ (is : (cell_of id ≡ k) × (h.tx ≡ o.id) × In h.request requests). K.own id key h.request l is.0 is.2 q)
        (came (cell_of id) h has)))
        (λ n z r ne g e id key l h has mine q. owns_else z r id key (⊎_elim
        (λ (was : In h (holds_at cells (cell_of id))). S.rows_agree.own n z r g e id key l h was mine q)
        (λ (is : (cell_of id ≡ k) × (h.tx ≡ o.id) × In h.request requests). absurd (ne (one_seat v cells seats S n j z x r o g K.goes.before (sym mine ∙ is.1))))
        (came (cell_of id) h has)));
    undone = λ id key l h has u q. rows_same id key (versions_undone h.tx 0) ∙ ⊎_elim
        (λ (was : In h (holds_at cells (cell_of id))). S.rows_agree.undone id key l h was u q)
        (λ (is : (cell_of id ≡ k) × (h.tx ≡ o.id) × In h.request requests). ap (λ (n : ℕ). versions_undone n 0 (of_key (columns_at (defs_of T) id) key (versions_at cells id))) is.1 ∙ K.undone id key h.request l is.0 is.2 q)
        (came (cell_of id) h has);
    rising = λ id l. subst Rising (sym (same_rows id)) (S.rows_agree.rising id l);
    back = each_open seats j t x o y p K.goes (λ n z r. GoesBackTo z.place r.seq) (subst (GoesBackTo y.place) (sym K.same.seq) (K.back (S.rows_agree.back j x o K.goes.before))) (λ n z r ne g. S.rows_agree.back n z r g);
    explicit = each_open seats j t x o y p K.goes (λ n z r. IsExplicitAt z.place r.explicit) K.stays_opened (λ n z r ne g. S.rows_agree.explicit n z r g);
    before = each_open seats j t x o y p K.goes
        (λ n z r. r.end ≡ unfixed → (id : ℕ) → 1 ≤ id → AllByRecursion (MadeBefore r.id r.seq) (counted r.id id z.place (versions_at cells_then id)))
        (λ e id l. subst (AllByRecursion (MadeBefore p.id p.seq)) (sym (ap (λ (n : ℕ). counted n id y.place (versions_at cells_then id)) K.same.id ∙ K.same.counts o.id id (versions_at cells_then id) ∙ ap (counted o.id id x.place) (same_rows id)))
        (subst (λ (n : ℕ). AllByRecursion (MadeBefore n p.seq) (counted o.id id x.place (versions_at cells id))) (sym K.same.id)
        (subst (λ (n : ℕ). AllByRecursion (MadeBefore o.id n) (counted o.id id x.place (versions_at cells id))) (sym K.same.seq) (S.rows_agree.before j x o K.goes.before K.unfixed id l))))
        (λ n z r ne g e id l. subst (λ (vs : List Version). AllByRecursion (MadeBefore r.id r.seq) (counted r.id id z.place vs)) (sym (same_rows id)) (S.rows_agree.before n z r g e id l));
  }

  -- ---- scripts and trees

  pub scripts : OpenScripts v cells_then S.ledger seats_then
  scripts = each_open seats j t x o y p K.goes (λ n z r. r.end ≡ unfixed → IsOfItsScript v cells_then T z r)
      (λ e. script_stays x o y p K.same v cells cells_then T same_rows (S.open_scripts j x o K.goes.before K.unfixed))
      (λ n z r ne h e. script_stays z r z r (no_change z r) v cells cells_then T same_rows (S.open_scripts n z r h e))

  pub trees : TreesAreOfEvents v cells_then S.ledger seats_then
  trees = each_open seats j t x o y p K.goes (λ n z r. r.end ≡ unfixed → HasItsTrees v cells_then S.ledger z r)
      (λ e. trees_stay x o y p K.same v cells cells_then S.ledger same_rows (S.trees_are_of_events j x o K.goes.before K.unfixed))
      (λ n z r ne h e. trees_stay z r z r (no_change z r) v cells cells_then S.ledger same_rows (S.trees_are_of_events n z r h e))

  -- ---- tables

  pub creates_after : (z : Session) (stmt : Stmt) → (c : Creates v cells seats S.ledger z stmt) → (u : Session) × (d : Creates v cells_then seats_then S.ledger u stmt) × (d.o.id ≡ c.o.id)
  creates_after z stmt c = ⊎_elim
      (λ (e : c.j ≡ j).
      let same = one_session seats j z x c.o o (subst (λ (n : ℕ). HasOpen seats n z c.o) e c.has) K.goes.before in
      let id : p.id ≡ c.o.id = K.same.id ∙ ap (λ (r : OpenTransaction). r.id) (sym same.1) in (
        y,
        record {
          j = j;
          o = p;
          has = open_now;
          own = K.same.explicit ∙ ap (λ (r : OpenTransaction). r.explicit) (sym same.1) ∙ c.own;
          outside = subst (λ (n : ℕ). in_journal S.ledger.items (n, 0) ≡ false) (sym id) c.outside;
          text = c.text;
          stands = K.same.text ∙ ap (λ (u : Session). text_at u.place) (sym same.0) ∙ c.stands;
          is = c.is;
          creates = c.creates;
          acted = K.acted (subst (λ (u : Session). HasActed u.place) same.0 c.acted);
          exclusive = stayed catalog_at _ (subst (λ (n : ℕ). In (record { tx = n; request = whole X }) (holds_at cells catalog_at)) (sym id) c.exclusive);
        },
        id,
      ))
      (λ (ne : c.j ≢ j). (z, record { j = c.j; o = c.o; has = open_else seats j t x o y p K.goes c.j z c.o ne c.has; own = c.own; outside = c.outside; text = c.text; stands = c.stands; is = c.is; creates = c.creates; acted = c.acted; exclusive = stayed catalog_at _ c.exclusive }, refl))
      (cases_eq c.j j)

  -- the catalog's cell has the same definitions and the same creator
  pub record SameDefs (c d : CatalogCell) : Type 0 where
    pub defs : d.defs ≡ c.defs
    pub creator : d.creator ≡ c.creator

  pub definitions_after : (c d : CatalogCell) → SameDefs c d → AreDefinitions v cells seats S.ledger c.defs c.creator → AreDefinitions v cells_then seats_then S.ledger d.defs d.creator
  definitions_after c d same h = ⊎_elim (λ (e : c.defs ≡ defs_of T). inl (same.defs ∙ e))
      (λ (u : IsUnderWay v cells seats S.ledger c.defs c.creator).
      let n = creates_after u.x u.stmt u.by in
      inr (record { x = n.0; stmt = u.stmt; by = n.1; has_creator = same.creator ∙ u.has_creator ∙ ap (λ (m : ℕ). Some (record { tx = m; before = defs_of T })) (sym n.2); is = same.defs ∙ u.is })) h

  pub creator_after : (c d : CatalogCell) → SameDefs c d → ((k : Creator) → c.creator ≡ Some k → GoesBack v cells S.ledger k) → (k : Creator) → d.creator ≡ Some k → GoesBack v cells_then S.ledger k
  creator_after c d same h k e = let was = h k (sym same.creator ∙ e) in record { exclusive = stayed catalog_at _ was.exclusive; before = was.before }

  creates_else : (z : Session) (stmt : Stmt) (c : Creates v cells seats S.ledger z stmt) → c.j ≢ j → Creates v cells_then seats_then S.ledger z stmt
  creates_else z stmt c ne = record { j = c.j; o = c.o; has = open_else seats j t x o y p K.goes c.j z c.o ne c.has; own = c.own; outside = c.outside; text = c.text; stands = c.stands; is = c.is; creates = c.creates; acted = c.acted; exclusive = stayed catalog_at _ c.exclusive }

  not_here : (z : Session) (stmt : Stmt) (c : Creates v cells seats S.ledger z stmt) (after : TableDef) (id : ℕ) → IsAdding z.place c.o after (cell_of id) → c.j ≢ j
  not_here z stmt c after id a e = let same = one_session seats j z x c.o o (subst (λ (n : ℕ). HasOpen seats n z c.o) e c.has) K.goes.before in
      K.no_index after (subst (λ (u : Session). HasAdded u.place o after) same.0 (subst (λ (r : OpenTransaction). HasAdded z.place r after) same.1 a.added))

  pub indexes_after : (def : TableDef) (indexes : List (List ℕ)) → AreIndexes v cells seats S.ledger def indexes → AreIndexes v cells_then seats_then S.ledger def indexes
  unfolding creates_else
  indexes_after def indexes d = ⊎_elim (λ (e : indexes ≡ ordinals_of def.indexes). inl e)
      (λ (c : (z : Session) × (stmt : Stmt) × (after : TableDef) × (by : Creates v cells seats S.ledger z stmt) × (def_at (defs_of (defined (change_set T stmt).definition T)) def.id ≡ Some after) × (indexes ≡ ordinals_of after.indexes) × IsAdding z.place by.o after (cell_of def.id)).
      inr (c.0, c.1, c.2, creates_else c.0 c.1 c.3 (not_here c.0 c.1 c.3 c.2 def.id c.6), c.4, c.5, c.6)) d

  pub stands_after : (was : TableCell) (holds : List Hold) (def : Option TableDef) → StandsAs v cells seats S.ledger was def → StandsAs v cells_then seats_then S.ledger (with_holds holds was) def
  stands_after was holds None h = h
  stands_after was holds (Some def) h = record { key = h.key; fit = h.fit; in_key_order = h.in_key_order; keys_differ = h.keys_differ; projections = h.projections; indexes = indexes_after def (map (λ i. i.ordinals) was.indexes) h.indexes }

  -- a cell of a table that was there, with these locks
  abbrev pub WasTable : ℕ → TableCell → Type 0
  WasTable i cell = (was : TableCell) × (holds : List Hold) × (get_elem? cells i ≡ some (Rows was)) × (cell ≡ with_holds holds was)

  indexes_kept : ((i : ℕ) (cell : TableCell) → get_elem? cells_then i ≡ some (Rows cell) → WasTable i cell) → (place : SessionStatus) → IsIndexed cells place → IsIndexed cells_then place
  indexes_kept was (inside text (made def true)) h = λ i cell e m. let w = was i cell (table_there (get_elem? cells_then i) cell e) in ap (λ (c : TableCell). map (λ q. q.ordinals) c.indexes) w.3 ∙ h i w.0 (ap table_found w.2) (ap (λ (c : TableCell). c.id) (sym w.3) ∙ m)
  indexes_kept was (inside text (made def false)) h = tt
  indexes_kept was place h = tt

  pub carried_after : (c d : CatalogCell) → SameDefs c d → (left : Tables) → IsCarried c.defs T left → IsCarried d.defs T left
  carried_after c d same left h = ⊎_elim (λ (e : c.defs ≡ defs_of left). inl (same.defs ∙ e)) (λ (e : defs_of left ≡ defs_of T). inr e) h

  pub tables : (catalog : CatalogCell) → SameDefs S.catalog catalog → ((cs : List Cell) → IsIndexed cs x.place → IsIndexed cs y.place) → ((i : ℕ) (cell : TableCell) → get_elem? cells_then i ≡ some (Rows cell) → WasTable i cell) → TablesAreSerial v cells_then catalog.defs catalog.creator S.ledger seats_then
  tables catalog same indexed_on was = record {
    definitions = definitions_after S.catalog catalog same S.tables_are_serial.definitions;
    goes_back = creator_after S.catalog catalog same S.tables_are_serial.goes_back;
    carried = each_open seats j t x o y p K.goes (λ n z r. r.end ≡ unfixed → IsCarried catalog.defs T (script_end v T z r).state.tables)
        (λ e. carried_after S.catalog catalog same _ (subst (λ (g : ScriptEnd). IsCarried S.catalog.defs T g.state.tables) (sym (same_end x o y p K.same v T)) (S.tables_are_serial.carried j x o K.goes.before K.unfixed)))
        (λ n z r ne h e. carried_after S.catalog catalog same _ (S.tables_are_serial.carried n z r h e));
    indexed = each_open seats j t x o y p K.goes (λ n z r. r.end ≡ unfixed → IsIndexed cells_then z.place)
        (λ e. indexed_on cells_then (indexes_kept was x.place (S.tables_are_serial.indexed j x o K.goes.before K.unfixed)))
        (λ n z r ne h e. indexes_kept was z.place (S.tables_are_serial.indexed n z r h e));
    versions = λ id l. ap (committed S.ledger.items) (same_rows id) ∙ S.tables_are_serial.versions id l;
    tables = λ i cell e. let w = was i cell (table_there (get_elem? cells_then i) cell e) in
        subst (λ (c : TableCell). StandsAs v cells_then seats_then S.ledger c (def_at (defs_of T) c.id)) (sym w.3) (stands_after w.0 w.1 (def_at (defs_of T) w.0.id) (S.tables_are_serial.tables i w.0 (ap table_found w.2)));
  }
