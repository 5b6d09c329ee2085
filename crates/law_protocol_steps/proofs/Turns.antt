-- One seat turns into another, and the cells and what the journal says stay: what that owes, and what stands then.
use Rattle.std.proofs.Common.{◌≡◌, ◌≢◌, ℕ, false, not, List, [], Option, Some, slice_set, refl, sym, ap, ◌∙◌, subst, inl, inr, ⊎_elim, true, ◌≤◌}
use Rattle.std.proofs.lemmas.Bool.{cases_eq}
use mathlib.Core.Option.{some}
use lib.ListN.{get_elem?}
use Rattle.sql_types.specs.declared.statement.Stmt.{Stmt}
use Rattle.sql_types.specs.declared.table.TableDef.{TableDef}
use Rattle.spec_model.specs.Catalog.{Defs, defs_of, versions_of}
use Rattle.spec_history.specs.Lists.{Text, Each, In}
use Rattle.spec_history.specs.Refusals.{EndsAt}
use Rattle.spec_history.specs.Transactions.{unfixed}
use Rattle.spec_protocol.specs.Server.{Server}
use Rattle.sql_types.specs.declared.lock.Hold.{Hold}
use Rattle.spec_protocol.specs.Cells.{TableCell, catalog_at, Cell, Creator, cell_of}
use Rattle.spec_protocol.specs.Contents.{Contents, Known, HasAlone, contents, known}
use Rattle.spec_protocol.specs.Seats.{OpenTransaction, Session, SeatState}
use Rattle.spec_protocol.specs.OpenOnes.{HasOpen, text_at, script_so_far, script_end}
use Rattle.spec_protocol.specs.RequestsIn.{requests_in, Holds}
use Rattle.spec_protocol.specs.TablesAreSerial.{Creates, AreIndexes, StandsAs, TablesAreSerial, def_at, AreDefinitions, HasActed, IsAdding, IsCarried, IsIndexed, IsUnderWay}
use Rattle.spec_protocol.specs.OpenScripts.{IsOfItsScript, OpenScripts, counted}
use Rattle.spec_protocol.specs.LocksCover.{KeepsLocks, Belongs, LookedAt, HasLock, IsGotAt, LocksCover, IsDropping, LookedFirst, RequestsNone}
use Rattle.spec_protocol.specs.LocksAgree.{SeatHas, LocksAgree}
use Rattle.spec_protocol.specs.TreesAreOfEvents.{HasItsTrees, TreesAreOfEvents}
use Rattle.law_protocol_steps.proofs.OpenSeats.{Own, at_other, at_this, was_open, own_at}
use Rattle.std.specs.List.{AllByRecursion}
use Rattle.spec_protocol.specs.RowsAgree.{GoesBackTo, IsExplicitAt, RowsAgree, key_rows}
use Rattle.spec_model.specs.Keys.{Key}
use Rattle.spec_model.specs.Runs.{MadeBefore}
use Rattle.spec_protocol.specs.StandTogether.{History, Stands}
use Rattle.spec_model.specs.Reach.{lets_change}

-- the seat's transaction is one whose lock this may be
pub record MayHoldLock (s : SeatState) (i : ℕ) (h : Hold) : Type 0 where
  pub x : Session
  pub o : OpenTransaction
  pub own : Own s x o
  pub mine : o.id ≡ h.tx
  pub visited : In i o.visited
  pub unreleased : In i o.released → ⊥

-- its transaction has this id
pub record OwnId (s : SeatState) (id : ℕ) : Type 0 where
  pub x : Session
  pub o : OpenTransaction
  pub own : Own s x o
  pub is : o.id ≡ id

-- what is said of one transaction alone: of its script's definitions, its place and its rows
pub record Owes (v : Server) (c : Contents) (k : Known) (defs : Defs) (x : Session) (o : OpenTransaction) : Type 0 where
  pub carried : o.end ≡ unfixed → IsCarried defs k.tables (script_end v k.tables x o).state.tables
  pub indexed : o.end ≡ unfixed → IsIndexed c x.place
  pub looked_first : o.end ≡ unfixed → LookedFirst x.place → RequestsNone v c k.tables o
  pub dropping : IsDropping x.place o → HasAlone c o.id
  pub own : o.end ≡ unfixed → (id : ℕ) (key : Key) → 1 ≤ id → (h : Hold) → In h (c.holds (cell_of id)) → h.tx ≡ o.id → lets_change key h.request ≡ true
      → counted o.id id x.place (key_rows k.tables id key (c.versions id)) ≡ key_rows k.tables id key (versions_of (script_end v k.tables x o).state.tables id)
  pub before : o.end ≡ unfixed → (id : ℕ) → 1 ≤ id → AllByRecursion (MadeBefore o.id o.seq) (counted o.id id x.place (c.versions id))
  pub back : GoesBackTo x.place o.seq
  pub explicit : IsExplicitAt x.place o.explicit

pub owed : (v : Server) (cells : List Cell) (seats : List SeatState) {history : History} (st : Stands v history cells seats) (j : ℕ) (x : Session) (o : OpenTransaction) → HasOpen seats j x o → Owes v (contents cells) (known v.reads st.ledger.items) st.catalog.defs x o
owed v cells seats st j x o h = record {
  carried = λ e. st.tables_are_serial.carried j x o h e;
  indexed = λ e. st.tables_are_serial.indexed j x o h e;
  looked_first = λ e f. st.locks_cover.looked_first j x o h e f;
  dropping = λ d. st.locks_cover.dropping j x o h d;
  own = λ e. st.rows_agree.own j x o h e;
  before = λ e. st.rows_agree.before j x o h e;
  back = st.rows_agree.back j x o h;
  explicit = st.rows_agree.explicit j x o h;
}

-- the transaction o of its own still stands in this text, where it creates
pub record StillStands (t : SeatState) (x : Session) (o : OpenTransaction) (text : Text) : Type 0 where
  pub y : Session
  pub p : OpenTransaction
  pub own : Own t y p
  pub is : p.id ≡ o.id
  pub alone : p.explicit ≡ false
  pub stands : text_at y.place ≡ Some text
  pub acted : HasActed y.place
  pub adding : (after : TableDef) (i : ℕ) → IsAdding x.place o after i → IsAdding y.place p after i

-- what is owed where seat s turns into t
pub record Turns (v : Server) (c : Contents) (k : Known) (defs : Defs) (s t : SeatState) : Type 0 where
  -- its transaction had its locks
  pub came : (i : ℕ) (h : Hold) → In h (c.holds i) → OwnId t h.tx → OwnId s h.tx
  -- and they may still be its
  pub locks : (i : ℕ) (h : Hold) → In h (c.holds i) → MayHoldLock s i h → MayHoldLock t i h
  -- where it creates it stands in its statement as before
  pub stands : (x : Session) (o : OpenTransaction) (text : Text) → Own s x o → o.explicit ≡ false → k.has o.id ≡ false → HasAlone c o.id
      → text_at x.place ≡ Some text → HasActed x.place → StillStands t x o text
  -- what is said of its transaction alone
  pub script : (y : Session) (p : OpenTransaction) → Own t y p → p.end ≡ unfixed → IsOfItsScript v c k.tables y p
  pub trees : (y : Session) (p : OpenTransaction) → Own t y p → p.end ≡ unfixed → HasItsTrees v c k y p
  pub cover : (y : Session) (p : OpenTransaction) → Own t y p → (i : ℕ) → KeepsLocks p i
      → Each (λ l. Each (Holds (c.holds i) p.id) (requests_in v (defs_of k.tables) p.explicit i l.0)) (script_so_far y p)
  pub unreleased : (y : Session) (p : OpenTransaction) → Own t y p → p.end ≡ unfixed → p.released ≡ []
  pub looked : (y : Session) (p : OpenTransaction) → Own t y p → p.end ≡ unfixed → LookedAt v c (defs_of k.tables) p.id p.explicit y.place
  pub definitions : (y : Session) (p : OpenTransaction) (n : ℕ) → Own t y p → EndsAt p.end n → HasLock c catalog_at p.id → defs_of k.tables ≡ defs_of (k.after n)
  pub got : (y : Session) (p : OpenTransaction) → Own t y p → HasLock c catalog_at p.id → IsGotAt v k.tables (HasAlone c p.id) (not (k.has p.id)) y.place
  pub owes : (y : Session) (p : OpenTransaction) → Own t y p → Owes v c k defs y p

-- ---- tables

-- x still creates, in session y, with the same transaction
pub record StillCreates (v : Server) (c d : Contents) (k : Known) (seats after : List SeatState) (x : Session) (stmt : Stmt) (was : Creates v c k seats x stmt) : Type 0 where
  pub y : Session
  pub by : Creates v d k after y stmt
  pub is : by.o.id ≡ was.o.id
  pub adding : (def : TableDef) (i : ℕ) → IsAdding x.place was.o def i → IsAdding y.place by.o def i

module _ (v : Server) (c d : Contents) (k : Known) (seats after : List SeatState)
    (still : (x : Session) (stmt : Stmt) (was : Creates v c k seats x stmt) → StillCreates v c d k seats after x stmt was) where
  pub indexes_stand : (def : TableDef) (indexes : List (List ℕ)) → AreIndexes v c k seats def indexes → AreIndexes v d k after def indexes
  indexes_stand def indexes h = ⊎_elim (λ e. inl e) (λ e. let w = still e.0 e.1 e.3 in inr (w.y, e.1, e.2, w.by, e.4, e.5, w.adding e.2 (cell_of def.id) e.6)) h

  pub stands_as : (cell : TableCell) (def : Option TableDef) → StandsAs v c k seats cell def → StandsAs v d k after cell def
  stands_as cell Option.None h = h
  stands_as cell (Some def) h = record { key = h.key; fit = h.fit; in_key_order = h.in_key_order; keys_differ = h.keys_differ; projections = h.projections; indexes = indexes_stand def _ h.indexes }

  pub definitions_stand : (defs : Defs) (creator : Option Creator) → AreDefinitions v c k seats defs creator → AreDefinitions v d k after defs creator
  definitions_stand defs creator h = ⊎_elim (λ e. inl e)
      (λ (u : IsUnderWay v c k seats defs creator). let w = still u.x u.stmt u.by in
      inr (record { x = w.y; stmt = u.stmt; by = w.by; has_creator = u.has_creator ∙ ap (λ (n : ℕ). Some (record { tx = n; before = defs_of k.tables })) (sym w.is); is = u.is })) h

-- ---- all

module _ (v : Server) (c : Contents) (k : Known) (defs : Defs) (seats : List SeatState) (j : ℕ) (s t : SeatState) (there : get_elem? seats j ≡ some s) (turn : Turns v c k defs s t) where
  abbrev after : List SeatState
  after = slice_set seats j t

  still_creates : (x : Session) (stmt : Stmt) (h : Creates v c k seats x stmt) → StillCreates v c c k seats after x stmt h
  still_creates x stmt h = ⊎_elim
      (λ (e : h.j ≡ j). let w = turn.stands x h.o h.text (own_at seats j s t there x h.o (subst (λ i. HasOpen seats i x h.o) e h.has)) h.own h.outside h.exclusive h.stands h.acted in record {
        y = w.y;
        by = record {
          j = j;
          o = w.p;
          has = at_this seats j s t there w.y w.p w.own;
          own = w.alone;
          outside = ap k.has w.is ∙ h.outside;
          text = h.text;
          stands = w.stands;
          is = h.is;
          creates = h.creates;
          acted = w.acted;
          exclusive = subst (HasAlone c) (sym w.is) h.exclusive;
        };
        is = w.is;
        adding = w.adding;
      })
      (λ (e : h.j ≢ j). record {
        y = x;
        by = record { j = h.j; o = h.o; has = at_other seats j s t there h.j x h.o e h.has; own = h.own; outside = h.outside; text = h.text; stands = h.stands; is = h.is; creates = h.creates; acted = h.acted; exclusive = h.exclusive };
        is = refl;
        adding = λ def i a. a;
      })
      (cases_eq h.j j)

  pub tables_turn : (creator : Option Creator) → TablesAreSerial v c k defs creator seats → TablesAreSerial v c k defs creator after
  tables_turn creator h = record {
    definitions = definitions_stand v c c k seats after still_creates defs creator h.definitions;
    goes_back = h.goes_back;
    carried = λ i y p has u. ⊎_elim (λ e. (turn.owes y p e.1).carried u) (λ e. h.carried i y p e.1 u) (was_open seats j s t there i y p has);
    indexed = λ i y p has u. ⊎_elim (λ e. (turn.owes y p e.1).indexed u) (λ e. h.indexed i y p e.1 u) (was_open seats j s t there i y p has);
    versions = h.versions;
    tables = λ i cell e. stands_as v c c k seats after still_creates cell (def_at (defs_of k.tables) cell.id) (h.tables i cell e);
  }

  pub rows_turn : RowsAgree v c k seats → RowsAgree v c k after
  rows_turn h = record {
    free = h.free;
    own = λ i y p has u. ⊎_elim (λ e. (turn.owes y p e.1).own u) (λ e. h.own i y p e.1 u) (was_open seats j s t there i y p has);
    undone = h.undone;
    rising = h.rising;
    back = λ i y p has. ⊎_elim (λ e. (turn.owes y p e.1).back) (λ e. h.back i y p e.1) (was_open seats j s t there i y p has);
    explicit = λ i y p has. ⊎_elim (λ e. (turn.owes y p e.1).explicit) (λ e. h.explicit i y p e.1) (was_open seats j s t there i y p has);
    before = λ i y p has u. ⊎_elim (λ e. (turn.owes y p e.1).before u) (λ e. h.before i y p e.1 u) (was_open seats j s t there i y p has);
  }

  pub scripts_turn : OpenScripts v c k seats → OpenScripts v c k after
  scripts_turn h i y p has u = ⊎_elim (λ e. turn.script y p e.1 u) (λ e. h i y p e.1 u) (was_open seats j s t there i y p has)

  pub trees_turn : TreesAreOfEvents v c k seats → TreesAreOfEvents v c k after
  trees_turn h i y p has u = ⊎_elim (λ e. turn.trees y p e.1 u) (λ e. h i y p e.1 u) (was_open seats j s t there i y p has)

  -- ---- locks

  has_at : (x : Session) (o : OpenTransaction) → Own s x o → HasOpen seats j x o
  has_at x o h = record { seat = s; there = there; role = h.role; open_one = h.open_one }

  had : (i n : ℕ) (h : Hold) → SeatHas c after i n h → SeatHas c seats i n h
  had i n h a = ⊎_elim
      (λ (e : (n ≡ j) × Own t a.x a.o). let w = turn.came i h a.lock (record { x = a.x; o = a.o; own = e.1; is = a.mine }) in
      record { x = w.x; o = w.o; open_one = subst (λ m. HasOpen seats m w.x w.o) (sym e.0) (has_at w.x w.o w.own); lock = a.lock; mine = w.is })
      (λ (e : (n ≢ j) × HasOpen seats n a.x a.o). record { x = a.x; o = a.o; open_one = e.1; lock = a.lock; mine = a.mine })
      (was_open seats j s t there n a.x a.o a.open_one)

  pub agree_turn : LocksAgree c seats → LocksAgree c after
  agree_turn h i m n a b ne p q = h i m n a b ne (had i m a p) (had i n b q)

  only_one : (i : ℕ) (h : Hold) → In h (c.holds i) → (b : Belongs seats i h) → (n : ℕ) (y : Session) (p : OpenTransaction) → HasOpen after n y p → p.id ≡ h.tx → n ≡ b.j
  only_one i h has b n y p w e = ⊎_elim
      (λ (own : (n ≡ j) × Own t y p). let z = turn.came i h has (record { x = y; o = p; own = own.1; is = e }) in own.0 ∙ b.only j z.x z.o (has_at z.x z.o z.own) z.is)
      (λ (other : (n ≢ j) × HasOpen seats n y p). b.only n y p other.1 e)
      (was_open seats j s t there n y p w)

  belongs : (i : ℕ) (h : Hold) → In h (c.holds i) → Belongs seats i h → Belongs after i h
  belongs i h has b = ⊎_elim
      (λ (e : b.j ≡ j). let m = turn.locks i h has (record { x = b.x; o = b.o; own = own_at seats j s t there b.x b.o (subst (λ n. HasOpen seats n b.x b.o) e b.has); mine = b.mine; visited = b.visited; unreleased = b.unreleased }) in
      record { j = j; x = m.x; o = m.o; has = at_this seats j s t there m.x m.o m.own; mine = m.mine; only = λ n y p w f. only_one i h has b n y p w f ∙ e; visited = m.visited; unreleased = m.unreleased })
      (λ (e : b.j ≢ j). record { j = b.j; x = b.x; o = b.o; has = at_other seats j s t there b.j b.x b.o e b.has; mine = b.mine; only = only_one i h has b; visited = b.visited; unreleased = b.unreleased })
      (cases_eq b.j j)

  pub cover_turn : LocksCover v c k seats → LocksCover v c k after
  cover_turn h = record {
    belong = λ i l has. belongs i l has (h.belong i l has);
    cover = λ n y p w i r. ⊎_elim (λ e. turn.cover y p e.1 i r) (λ e. h.cover n y p e.1 i r) (was_open seats j s t there n y p w);
    unreleased = λ n y p w u. ⊎_elim (λ e. turn.unreleased y p e.1 u) (λ e. h.unreleased n y p e.1 u) (was_open seats j s t there n y p w);
    looked = λ n y p w u. ⊎_elim (λ e. turn.looked y p e.1 u) (λ e. h.looked n y p e.1 u) (was_open seats j s t there n y p w);
    looked_first = λ n y p w u. ⊎_elim (λ e. (turn.owes y p e.1).looked_first u) (λ e. h.looked_first n y p e.1 u) (was_open seats j s t there n y p w);
    intents = h.intents;
    on_whole = h.on_whole;
    dropping = λ n y p w. ⊎_elim (λ e. (turn.owes y p e.1).dropping) (λ e. h.dropping n y p e.1) (was_open seats j s t there n y p w);
    catalog = h.catalog;
    definitions = λ n y p m w e l. ⊎_elim (λ a. turn.definitions y p m a.1 e l) (λ a. h.definitions n y p m a.1 e l) (was_open seats j s t there n y p w);
    got = λ n y p w l. ⊎_elim (λ a. turn.got y p a.1 l) (λ a. h.got n y p a.1 l) (was_open seats j s t there n y p w);
    under = h.under;
  }
