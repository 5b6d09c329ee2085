-- A statement looks a name up in the catalog, under S: cells and seats stand together afterwards.
use Rattle.law_protocol_steps.proofs.ActedFor.{IsOf, StandsBy, its_session}
use Rattle.std.proofs.Common.{◌≡◌, ◌≢◌, ℕ, suc, Bool, true, false, List, [], ◌∷◌, ◌++◌, set, Option, Some, refl, sym, ap, ◌∙◌, subst, inl, inr, ⊎_elim, arith}
use Rattle.std.proofs.lemmas.Bool.{cases_eq, eqb-true}
use Rattle.std.specs.Prelude.{◌==◌, ◌||◌, not, if◌then◌else◌}
use Rattle.std.specs.List.{list_any}
use mathlib.Core.Option.{some}
use lib.ListN.{get_elem?}
use Rattle.sql_types.specs.declared.lock.Mode.TheVariants as mode
use Rattle.sql_types.specs.declared.lock.LockRequest.{LockRequest}
use Rattle.sql_types.specs.declared.statement.Stmt.{Stmt}
use Rattle.sql_types.specs.declared.statement.Stmt.TheVariants as st
use Rattle.spec_model.specs.Keys.{Key}
use Rattle.spec_model.specs.Catalog.{Defs, defs_of, find_part}
use Rattle.spec_model.specs.Journals.{Line}
use Rattle.spec_model.specs.Locks.{catalog_request, conflict, same_item, whole, requests_conflict}
use Rattle.spec_model.specs.Reach.{creates, lets_change}
use Rattle.spec_model.specs.ScriptRequests.{text_requests}
use Rattle.spec_history.specs.Lists.{Text, Each, In}
use Rattle.spec_history.proofs.Trace.{each_weaker}
use Rattle.spec_history.proofs.Refused.{each_left}
use Rattle.spec_protocol.specs.Server.{Server}
use Rattle.sql_types.specs.declared.lock.Hold.{Hold}
use Rattle.spec_protocol.specs.Cells.{CatalogCell, TableCell, Cell, Catalog, Rows, holds_at, versions_in, catalog_at}
use Rattle.spec_protocol.specs.Seats.{OpenTransaction, StatementProgress, begun, found, SessionStatus, inside, Session, SeatState}
use Rattle.spec_protocol.specs.OpenOnes.{HasOpen, text_at, lines_at}
use Rattle.spec_protocol.specs.OpenScripts.{counted}
use Rattle.spec_protocol.specs.TableVisits.{with_holds}
use Rattle.spec_protocol.specs.Moves.{put_in, visiting, at_place, sits}
use Rattle.spec_protocol.specs.RequestsIn.{requests_in, of_catalog, Holds}
use Rattle.law_protocol_steps.proofs.Taken.{holds_none, AreFree}
use Rattle.spec_protocol.specs.TablesAreSerial.{HasAdded, HasActed}
use Rattle.spec_protocol.specs.LocksCover.{IsNamed, LookedFirst}
use Rattle.spec_protocol.specs.CatalogVisits as c
use Rattle.spec_protocol.specs.StandTogether.{History, Stands}
use Rattle.law_protocol_steps.proofs.AfterSet.{set_here, set_else, each_at}
use Rattle.law_protocol_steps.proofs.SeatsAfter.{one_session}
use Rattle.law_protocol_steps.proofs.CellsAfter.{catalog_changed, holds_here, held_here}
use Rattle.law_protocol_steps.proofs.Taken.{held_nothing, taken_holds}
use Rattle.law_protocol_steps.proofs.SameOne.{IsSame}
use Rattle.law_protocol_steps.proofs.SeatIds.{one_seat}
use Rattle.law_protocol_steps.proofs.Takes.{tables_now, Takes, came, lock_came, covered, agree, rows, scripts, trees, tables}
use Rattle.law_protocol_steps.proofs.OfCells.{Creates, HasLock, IsGotAt, IsUnderWay, RequestsNone, in_journal}
use Rattle.spec_history.specs.Guards.{IsAnswered}
use Rattle.spec_protocol.specs.TranscriptsAgree.{TranscriptsAgree}
use Rattle.law_protocol_steps.proofs.TakenLocks.{all_free}
use Rattle.law_protocol_steps.proofs.VisitActs.{asks_act, asks_owner, asks_number}
use Rattle.law_protocol_steps.proofs.TranscriptProgress.{at_found, from_at, shares_rows}
use Rattle.spec_history.specs.Transcripts.{kind_of}
use Rattle.spec_history.specs.Acts.{looks}
use Rattle.spec_history.specs.Transcripts as told
use Rattle.spec_history.specs.Acts.{by}
use Rattle.law_protocol_steps.proofs.VisitActs.{g}

-- ---- cells visited

is_there : (i : ℕ) (is : List ℕ) → list_any (λ k. k == i) is ≡ true → In i is
is_there i [] e = cc
is_there i (k ∷ is) e = by (k == i) refl (is_there i is)
  where
    by : (b : Bool) → (k == i) ≡ b → (list_any (λ n. n == i) is ≡ true → In i is) → In i (k ∷ is)
    by true f later = inl (eqb-true k i f)
    by false f later = inr (later (ap (λ (c : Bool). c || list_any (λ n. n == i) is) (sym f) ∙ e))

-- a cell that is put in has its number among those visited
pub put_there : (i : ℕ) (is : List ℕ) → In i (put_in i is)
put_there i is = by (list_any (λ k. k == i) is) refl
  where
    by : (b : Bool) → list_any (λ k. k == i) is ≡ b → In i (if b then is else i ∷ is)
    by true e = is_there i is e
    by false e = inl refl

pub put_keeps : (i k : ℕ) (is : List ℕ) → In k is → In k (put_in i is)
put_keeps i k is h = by (list_any (λ n. n == i) is)
  where
    by : (b : Bool) → In k (if b then is else i ∷ is)
    by true = h
    by false = inr h

-- ---- statements that share the catalog

shares_not : (o : Bool) (stmt : Stmt) → catalog_request o stmt ≡ Some mode.S → creates stmt ≡ true → ⊥
shares_not true (st.Create q) e k = cc
shares_not true (st.Index q) e k = cc
shares_not true (st.Alter a) e k = cc
shares_not true (st.Drop name) e k = cc
shares_not false (st.Create q) e k = cc
shares_not false (st.Index q) e k = cc
shares_not false (st.Alter a) e k = cc
shares_not false (st.Drop name) e k = cc
shares_not o stmt e k = cc

s_against_x : requests_conflict (whole mode.S) (whole mode.X) ≡ true
unfolding same_item conflict
s_against_x = refl

none_requested : (holds : List Hold) (id : ℕ) (ws : List LockRequest) → ((h : Hold) → In h holds → h.tx ≢ id) → Each (Holds holds id) ws → ws ≡ []
none_requested holds id [] free h = refl
none_requested holds id (w ∷ ws) free h = absurd (free h.0.hold h.0.has h.0.mine)

module _ (v : Server) (cells : List Cell) (seats : List SeatState) {history : History} (S : Stands v history cells seats) (j : ℕ) (s : SeatState) (there : get_elem? seats j ≡ some s)
    (old new : CatalogCell) (t : SeatState) (out : get_elem? cells catalog_at ≡ some (Catalog old)) (L : c.Looks v old s new t) where
  abbrev o : OpenTransaction
  o = L.o

  abbrev p : OpenTransaction
  p = visiting catalog_at L.o

  abbrev x : Session
  x = L.at.stands.x

  abbrev text : Text
  text = L.at.stands.text

  abbrev stage : StatementProgress
  stage = found (find_part old.defs L.name) (holds_none L.o.id old.holds)

  abbrev y : Session
  y = at_place (Some p) (inside text stage) x

  is_catalog : old ≡ S.catalog
  is_catalog = let e : some (Catalog old) ≡ some (Catalog S.catalog) = sym out ∙ S.are_cells.has_catalog in cc

  place : x.place ≡ inside text begun
  place = L.at.stands.place ∙ ap (inside text) L.at_begin

  has_open : HasOpen seats j x o
  has_open = record { seat = s; there = there; role = L.at.stands.role; open_one = L.at.open_one }

  same : IsSame x o y p
  same = record {
    id = refl;
    explicit = refl;
    script = refl;
    seq = refl;
    trees = refl;
    open_savepoints = refl;
    end = refl;
    lines = ap lines_at (sym place);
    text = ap text_at (sym place);
    counts = λ tx id vs. ap (λ (q : SessionStatus). counted tx id q vs) (sym place);
    visited = λ i h. put_keeps catalog_at i L.o.visited h;
    released = refl;
  }

  shares : text_requests (defs_of (tables_now S)) o.explicit (v.reads text) ≡ text_requests (defs_of (tables_now S)) o.explicit (Some L.at.stands.stmt)
  shares = ap (text_requests (defs_of (tables_now S)) o.explicit) L.at.stands.is

  requests_here : of_catalog (text_requests (defs_of (tables_now S)) o.explicit (v.reads text)).catalog ≡ whole mode.S ∷ []
  requests_here = ap (λ w. of_catalog w.catalog) shares ∙ ap of_catalog L.shares

  no_x : (w : LockRequest) → In w (whole mode.S ∷ []) → w.mode ≡ mode.X → ⊥
  no_x w i m = ⊎_elim (λ (e : whole mode.S ≡ w). let z : mode.S ≡ mode.X = ap (λ (u : LockRequest). u.mode) e ∙ m in cc) (λ (z : ⊥). z) i

  no_change_here : (key : Key) (w : LockRequest) → In w (whole mode.S ∷ []) → lets_change key w ≡ true → ⊥
  no_change_here key w i m = ⊎_elim (λ (e : whole mode.S ≡ w). let z : lets_change key (whole mode.S) ≡ true = ap (lets_change key) e ∙ m in cc) (λ (z : ⊥). z) i

  free : AreFree old.holds o.id (whole mode.S ∷ [])
  free = all_free old.holds o.id (whole mode.S ∷ []) L.free

  takes : Takes v cells seats S j (sits s y) x o y p catalog_at (Catalog old) (Catalog new) (whole mode.S ∷ []) text
  takes = record {
    goes = record { before = has_open; role = refl; open_one = refl };
    unfixed = L.at.unfixed;
    same = same;
    back = λ h. tt;
    out = out;
    rows = λ id. ap (λ (z : CatalogCell). versions_in id (Catalog z)) L.cell;
    locks = ap (λ (z : CatalogCell). z.holds) L.cell;
    free = free;
    place = ap text_at place;
    on_whole = λ e w i. ⊎_elim (λ (f : whole mode.S ≡ w). ap (λ (u : LockRequest). u.item) (sym f)) (λ (z : ⊥). absurd z) i;
    visited = put_there catalog_at L.o.visited;
    acted = λ h. absurd (subst HasActed place h);
    goes_on = λ h. h;
    no_index = λ after h. subst (λ (q : SessionStatus). HasAdded q o after) place h;
    stays_opened = tt;
    looked = λ i e. absurd (omega arith);
    intents = λ w i m. absurd (no_x w i m);
    own = λ id key w l e i q. absurd (no_change_here key w i q);
    undone = λ id key w l e i q. absurd (no_change_here key w i q);
  }

  -- ---- what it got

  not_creating : (z : Session) (stmt : Stmt) → Creates v cells seats S.ledger z stmt → ⊥
  not_creating z stmt k = ⊎_elim
      (λ (e : k.j ≡ j).
      let alike = one_session seats j z x k.o o (subst (λ (n : ℕ). HasOpen seats n z k.o) e k.has) has_open in
      let texts : Some k.text ≡ Some text = sym k.stands ∙ ap (λ (u : Session). text_at u.place) alike.0 ∙ ap text_at place in
      let one : k.text ≡ text = cc in
      let stmts : Some stmt ≡ Some L.at.stands.stmt = sym k.is ∙ ap v.reads one ∙ L.at.stands.is in
      let two : stmt ≡ L.at.stands.stmt = cc in
      shares_not o.explicit stmt (ap (catalog_request o.explicit) two ∙ L.shares) k.creates)
      (λ (ne : k.j ≢ j).
      let free : requests_conflict (whole mode.S) (whole mode.X) ≡ false = each_at (λ (h : Hold). h.tx ≢ o.id → requests_conflict (whole mode.S) h.request ≡ false) old.holds (record { tx = k.o.id; request = whole mode.X }) free.0
      (subst (In (record { tx = k.o.id; request = whole mode.X })) (held_here cells catalog_at (Catalog old) (Catalog new) out) k.exclusive)
      (λ q. ne (one_seat v cells seats S k.j j z x k.o o k.has has_open q)) in
      let taken : requests_conflict (whole mode.S) (whole mode.X) ≡ true = s_against_x in cc)
      (cases_eq k.j j)

  pub same_definitions : old.defs ≡ defs_of (tables_now S)
  same_definitions = ⊎_elim
      (λ (e : S.catalog.defs ≡ defs_of (tables_now S)). ap (λ (z : CatalogCell). z.defs) is_catalog ∙ e)
      (λ (k : IsUnderWay v cells seats S.ledger S.catalog.defs S.catalog.creator). absurd (not_creating k.x k.stmt k.by))
      S.tables_are_serial.definitions

  is_named : (id : ℕ) (outside : Bool) → IsGotAt v (set cells catalog_at (Catalog new)) (tables_now S) id outside y.place
  is_named id outside = subst (λ (u : Option Stmt). IsNamed (tables_now S) u (find_part old.defs L.name)) (sym L.at.stands.is) (L.name, L.named, ap (λ (ds : Defs). find_part ds L.name) same_definitions)

  abbrev cells_after : List Cell
  cells_after = set cells catalog_at (Catalog new)

  has_lock : HasLock cells_after catalog_at p.id
  has_lock = let held = (taken_holds L.o.id (whole mode.S ∷ []) old.holds).0 in
      record { hold = held.hold; has = subst (In held.hold) (sym (holds_here cells catalog_at (Catalog old) (Catalog new) out)) (subst (λ (z : CatalogCell). In held.hold z.holds) (sym L.cell) held.has); mine = held.mine }

  held_requests : (u : Text) → Some text ≡ Some u → Each (Holds (holds_at cells_after catalog_at) p.id) (of_catalog (text_requests (defs_of (tables_now S)) p.explicit (v.reads u)).catalog)
  held_requests u e = let one : text ≡ u = cc in
      subst (λ (z : Text). Each (Holds (holds_at cells_after catalog_at) p.id) (of_catalog (text_requests (defs_of (tables_now S)) p.explicit (v.reads z)).catalog)) one
      (subst (Each (Holds (holds_at cells_after catalog_at) p.id)) (sym requests_here)
      (subst (λ (hs : List Hold). Each (Holds hs p.id) (whole mode.S ∷ [])) (sym (holds_here cells catalog_at (Catalog old) (Catalog new) out ∙ ap (λ (z : CatalogCell). z.holds) L.cell)) (taken_holds L.o.id (whole mode.S ∷ []) old.holds)))

  module _ (empty : holds_none L.o.id old.holds ≡ true) where
    not_held : HasLock cells catalog_at L.o.id → ⊥
    not_held l = held_nothing L.o.id old.holds empty l.hold (subst (In l.hold) (held_here cells catalog_at (Catalog old) (Catalog new) out) l.has) l.mine

    covered_before : Each (λ l. Each (Holds (holds_at cells catalog_at) L.o.id) (requests_in v (defs_of (tables_now S)) L.o.explicit catalog_at l.0)) L.o.script
    covered_before = each_left (λ (l : Line). Each (Holds (holds_at cells catalog_at) L.o.id) (requests_in v (defs_of (tables_now S)) L.o.explicit catalog_at l.0)) L.o.script (lines_at x.place)
        (S.locks_cover.cover j x o has_open catalog_at (λ r. subst (In catalog_at) (S.locks_cover.unreleased j x o has_open L.at.unfixed) r, λ r. subst (In catalog_at) (S.locks_cover.unreleased j x o has_open L.at.unfixed) r))

    looked_first : RequestsNone v cells_after (tables_now S) p
    looked_first = record {
      shares = λ h has m. ⊎_elim
          (λ (was : In h (holds_at cells catalog_at)). absurd (not_held (record { hold = h; has = was; mine = m })))
          (λ (is : (catalog_at ≡ catalog_at) × (h.tx ≡ L.o.id) × In h.request (whole mode.S ∷ [])). ⊎_elim (λ (e : whole mode.S ≡ h.request). ap (λ (w : LockRequest). w.mode) (sym e)) (λ (z : ⊥). absurd z) is.2)
          (came v cells seats S j (sits s y) x o y p catalog_at (Catalog old) (Catalog new) (whole mode.S ∷ []) text takes catalog_at h has);
      before = each_weaker (λ (l : Line). Each (Holds (holds_at cells catalog_at) L.o.id) (requests_in v (defs_of (tables_now S)) L.o.explicit catalog_at l.0)) (λ (l : Line). requests_in v (defs_of (tables_now S)) L.o.explicit catalog_at l.0 ≡ [])
          (λ l h. none_requested (holds_at cells catalog_at) L.o.id (requests_in v (defs_of (tables_now S)) L.o.explicit catalog_at l.0) (λ g i e. not_held (record { hold = g; has = i; mine = e })) h) L.o.script covered_before;
      elsewhere = λ i l. ⊎_elim (λ (was : HasLock cells (suc i) L.o.id). not_held (S.locks_cover.catalog i L.o.id was)) (λ (is : (suc i ≡ catalog_at) × (L.o.id ≡ L.o.id)). absurd (let e = is.0 in omega arith))
          (lock_came v cells seats S j (sits s y) x o y p catalog_at (Catalog old) (Catalog new) (whole mode.S ∷ []) text takes (suc i) L.o.id l);
    }

  first_by : (b : Bool) → holds_none L.o.id old.holds ≡ b → LookedFirst (inside text (found (find_part old.defs L.name) b)) → RequestsNone v cells_after (tables_now S) p
  first_by true e h = looked_first e
  first_by false e h = absurd h

  was_table : (i : ℕ) (cell : TableCell) → get_elem? cells_after i ≡ some (Rows cell) → (was : TableCell) × (holds : List Hold) × (get_elem? cells i ≡ some (Rows was)) × (cell ≡ with_holds holds was)
  was_table i cell e = ⊎_elim
      (λ (z : i ≡ catalog_at). absurd (let q : some (Catalog new) ≡ some (Rows cell) = sym (set_here cells catalog_at (Catalog old) (Catalog new) out) ∙ ap (get_elem? cells_after) (sym z) ∙ e in cc))
      (λ (ne : i ≢ catalog_at). (cell, cell.holds, sym (set_else cells catalog_at i (Catalog new) ne) ∙ e, refl))
      (cases_eq i catalog_at)

  kind : kind_of (v.meaning.reads text) ≡ told.rows
  kind = ap kind_of (v.real.reading text ∙ L.at.stands.is) ∙ shares_rows o.explicit L.at.stands.stmt L.shares

  act : TranscriptsAgree v (history ++ by (g v cells seats S j s there x L.at.stands.role o L.at.open_one).runs.number (looks text false) ∷ []) S.ledger (set seats j (sits s y))
  act = asks_act v cells seats S j s there x L.at.stands.role o L.at.open_one L.at.unfixed text begun place refl false stage p (record { id = refl; explicit = refl; script = refl; end = refl }) (inl refl) (λ f. cc)
      (λ answered a h. ⊎_elim (λ (k : IsAnswered answered a). inl k) (λ (k : ⊥). absurd k) h)
      (from_at v.meaning x y (inside text begun) (Some o) [] place L.at.open_one refl (λ m i f. at_found v.meaning m text o p (find_part old.defs L.name) (holds_none L.o.id old.holds) refl refl refl kind f))

  -- the number of its session in the history
  abbrev pub number : ℕ
  number = (g v cells seats S j s there x L.at.stands.role o L.at.open_one).runs.number

  pub stands_so : Stands v (history ++ by number (looks text false) ∷ []) cells_after (set seats j (sits s y))
  stands_so = record {
    catalog = new;
    ledger = S.ledger;
    are_cells = catalog_changed cells S.catalog S.ledger new S.are_cells;
    ledger_is_legal = S.ledger_is_legal;
    tables_are_serial = tables v cells seats S j (sits s y) x o y p catalog_at (Catalog old) (Catalog new) (whole mode.S ∷ []) text takes new (record { defs = ap (λ (z : CatalogCell). z.defs) L.cell ∙ ap (λ (z : CatalogCell). z.defs) is_catalog; creator = ap (λ (z : CatalogCell). z.creator) L.cell ∙ ap (λ (z : CatalogCell). z.creator) is_catalog }) (λ cs h. tt) was_table;
    rows_agree = rows v cells seats S j (sits s y) x o y p catalog_at (Catalog old) (Catalog new) (whole mode.S ∷ []) text takes;
    open_scripts = scripts v cells seats S j (sits s y) x o y p catalog_at (Catalog old) (Catalog new) (whole mode.S ∷ []) text takes;
    locks_cover = covered v cells seats S j (sits s y) x o y p catalog_at (Catalog old) (Catalog new) (whole mode.S ∷ []) text takes (λ l. is_named p.id (not (in_journal S.ledger.items (p.id, 0)))) (λ h. record { lock = has_lock; requests = λ u e. held_requests u e }) (first_by (holds_none L.o.id old.holds) refl);
    locks_agree = agree v cells seats S j (sits s y) x o y p catalog_at (Catalog old) (Catalog new) (whole mode.S ∷ []) text takes;
    trees_are_of_events = trees v cells seats S j (sits s y) x o y p catalog_at (Catalog old) (Catalog new) (whole mode.S ∷ []) text takes;
    transcripts_agree = act;
  }

  own_so : stands_so.transcripts_agree.owner number ≡ j
  unfolding stands_so act
  own_so = asks_owner _ _ _ _ _ _ _ _ _ _ _ _ _ _ _ _ _ _ _ _ _ _ _ _

  pub looks_up : StandsBy v j history o.id o.explicit (looks text false ∷ []) (set cells catalog_at (Catalog new)) (set seats j t)
  looks_up = subst (λ (u : SeatState). StandsBy v j history o.id o.explicit (looks text false ∷ []) cells_after (set seats j u)) (sym L.seat) (record { session = number; of = its_session v.meaning history (S.transcripts_agree.of_seat j) x o (g v cells seats S j s there x L.at.stands.role o L.at.open_one); stands = stands_so; mine = own_so })

  pub is_number : IsOf history number o.id o.explicit
  is_number = its_session v.meaning history (S.transcripts_agree.of_seat j) x o (g v cells seats S j s there x L.at.stands.role o L.at.open_one)

  pub same_ledger : stands_so.ledger ≡ S.ledger
  unfolding stands_so
  same_ledger = refl

  -- its number stays
  pub same_number : (stands_so.transcripts_agree.of_seat j).now ≡ Some number
  unfolding stands_so act
  same_number = asks_number v cells seats S j s there x L.at.stands.role o L.at.open_one L.at.unfixed text begun place refl false stage p (record { id = refl; explicit = refl; script = refl; end = refl }) (inl refl) (λ f. cc)
      (λ answered a h. ⊎_elim (λ (k : IsAnswered answered a). inl k) (λ (k : ⊥). absurd k) h)
      (from_at v.meaning x y (inside text begun) (Some o) [] place L.at.open_one refl (λ m i f. at_found v.meaning m text o p (find_part old.defs L.name) (holds_none L.o.id old.holds) refl refl refl kind f))
