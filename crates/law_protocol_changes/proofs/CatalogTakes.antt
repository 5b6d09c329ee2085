-- A statement that changes definitions takes the catalog's X: cells and seats stand together then, before anything is
-- changed or answered.
use Rattle.std.proofs.Common.{◌≡◌, ◌≢◌, ℕ, ◌≤◌, true, false, List, [], ◌∷◌, set, Some, refl, sym, ap, ◌∙◌, subst, inl, inr, ⊎_elim, append-nil, ◌++◌, arith}
use Rattle.std.proofs.lemmas.Bool.{cases_eq}
use Rattle.std.specs.Prelude.{not}
use mathlib.Core.Option.{some}
use lib.ListN.{get_elem?}
use Rattle.sql_types.specs.declared.lock.Mode.TheVariants as mode
use Rattle.sql_types.specs.declared.lock.LockRequest.{LockRequest}
use Rattle.sql_types.specs.declared.statement.Stmt.{Stmt}
use Rattle.sql_types.specs.declared.version.Version.{Version}
use Rattle.spec_model.specs.Keys.{Key, of_key, same_key, version_key}
use Rattle.spec_model.specs.Catalog.{Tables, defs_of, versions_of}
use Rattle.spec_model.specs.Locks.{catalog_request, whole, requests_conflict}
use Rattle.spec_model.specs.Agreement.{columns_at}
use Rattle.spec_model.specs.Reach.{lets_change}
use Rattle.spec_model.specs.Runs.{MadeBefore}
use Rattle.spec_model.specs.Undo.{versions_undone}
use Rattle.law_frame.proofs.Alls.{all_filter}
use Rattle.law_frame.proofs.AtTable.{before_at}
use Rattle.law_frame.proofs.UndoneVersions.{nothing_undone}
use Rattle.spec_history.specs.Lists.{Text, In}
use Rattle.spec_history.specs.Transactions.{unfixed}
use Rattle.spec_protocol.specs.Server.{Server}
use Rattle.sql_types.specs.declared.lock.Hold.{Hold}
use Rattle.spec_protocol.specs.Cells.{CatalogCell, TableCell, Cell, Catalog, Rows, holds_at, versions_at, catalog_at, cell_of}
use Rattle.spec_protocol.specs.Seats.{OpenTransaction, begun, SessionStatus, inside, Session, session, SeatState}
use Rattle.spec_protocol.specs.OpenOnes.{HasOpen, text_at, lines_at, script_so_far, script_end}
use Rattle.spec_protocol.specs.OpenScripts.{counted}
use Rattle.spec_protocol.specs.TableVisits.{with_holds}
use Rattle.spec_protocol.specs.Moves.{visiting, at_place, sits}
use Rattle.law_protocol_steps.proofs.Taken.{taken, AreFree}
use Rattle.spec_protocol.specs.TablesAreSerial.{HasAdded}
use Rattle.spec_protocol.specs.LocksCover.{IsDropping, LookedFirst}
use Rattle.spec_protocol.specs.RowsAgree.{IsExplicitAt}
use Rattle.spec_protocol.specs.CatalogVisits as c
use Rattle.spec_protocol.specs.StandTogether.{History, Stands}
use Rattle.law_protocol_steps.proofs.AfterSet.{set_here, set_else, each_at}
use Rattle.law_protocol_steps.proofs.CellsAfter.{catalog_changed, held_here}
use Rattle.law_protocol_steps.proofs.CatalogAlone.{on_all}
use Rattle.law_protocol_steps.proofs.Excluded.{HasX, HasNoX, has_x_or_not}
use Rattle.law_protocol_steps.proofs.SeatIds.{outside}
use Rattle.law_protocol_steps.proofs.Looks.{put_there, put_keeps}
use Rattle.law_protocol_steps.proofs.RowsFor.{sound, end_alone}
use Rattle.law_protocol_steps.proofs.SameOne.{IsSame}
use Rattle.law_protocol_steps.proofs.Takes.{tables_now, Takes, covered, agree, rows, scripts, trees, tables}
use Rattle.law_protocol_steps.proofs.OfCells.{HasLooked, IsGotAt, in_journal}
use Rattle.law_protocol_steps.proofs.VisitActs.{unmoved}

pub record Exclusive (v : Server) (cells : List Cell) (seats : List SeatState) {history : History} (S : Stands v history cells seats) (j : ℕ) (s : SeatState) (x : Session) (o : OpenTransaction) (text : Text) (stmt : Stmt) (old : CatalogCell) : Type 0 where
  pub there : get_elem? seats j ≡ some s
  pub role : s.role ≡ session x
  pub open_one : x.open_one ≡ Some o
  pub unfixed : o.end ≡ unfixed
  pub place : x.place ≡ inside text begun
  pub out : get_elem? cells catalog_at ≡ some (Catalog old)
  pub is : v.reads text ≡ Some stmt
  pub alone : o.explicit ≡ false
  pub wanted : catalog_request false stmt ≡ Some mode.X
  pub free : AreFree old.holds o.id (whole mode.X ∷ [])

module _ (v : Server) (cells : List Cell) (seats : List SeatState) {history : History} (S : Stands v history cells seats) (j : ℕ) (s : SeatState) (x : Session) (o : OpenTransaction) (text : Text) (stmt : Stmt) (old : CatalogCell) (K : Exclusive v cells seats S j s x o text stmt old) where
  abbrev T : Tables
  T = tables_now S

  abbrev pub then_open : OpenTransaction
  then_open = visiting catalog_at o

  abbrev pub then_session : Session
  then_session = at_place (Some then_open) x.place x

  abbrev pub then_catalog : CatalogCell
  then_catalog = c.with_holds (taken o.id (whole mode.X ∷ []) old.holds) old

  abbrev pub then_cells : List Cell
  then_cells = set cells catalog_at (Catalog then_catalog)

  abbrev pub then_seats : List SeatState
  then_seats = set seats j (sits s then_session)

  has_open : HasOpen seats j x o
  has_open = record { seat = s; there = K.there; role = K.role; open_one = K.open_one }

  is_catalog : old ≡ S.catalog
  is_catalog = let e : some (Catalog old) ≡ some (Catalog S.catalog) = sym K.out ∙ S.are_cells.has_catalog in cc

  same : IsSame x o then_session then_open
  same = record { id = refl; explicit = refl; script = refl; seq = refl; trees = refl; open_savepoints = refl; end = refl; lines = refl; text = refl; counts = λ tx id vs. refl; visited = λ i h. put_keeps catalog_at i o.visited h; released = refl }

  -- nobody else has any lock there
  none_else : (h : Hold) → In h (holds_at cells catalog_at) → h.tx ≡ o.id
  none_else h has = ⊎_elim (λ (e : h.tx ≡ o.id). e)
      (λ (ne : h.tx ≢ o.id).
      let no : requests_conflict (whole mode.X) h.request ≡ false = each_at (λ (g : Hold). g.tx ≢ o.id → requests_conflict (whole mode.X) g.request ≡ false) old.holds h K.free.0 (subst (In h) (held_here cells catalog_at (Catalog old) (Catalog old) K.out) has) ne in
      let yes : requests_conflict (whole mode.X) h.request ≡ true = on_all h.request (S.locks_cover.on_whole h has) in cc)
      (cases_eq h.tx o.id)

  no_count : (id : ℕ) (vs : List Version) → counted o.id id x.place vs ≡ vs
  no_count id vs = ap (λ (q : SessionStatus). counted o.id id q vs) K.place

  whole_script : script_so_far x o ≡ o.script
  whole_script = ap (λ (q : SessionStatus). o.script ++ lines_at q) K.place ∙ append-nil o.script

  not_free : (id : ℕ) (key : Key) → cell_of id ≡ catalog_at → HasNoX (holds_at cells (cell_of id)) o.id key → (h : Hold) → In h (holds_at cells (cell_of id)) → lets_change key h.request ≡ true → in_journal S.ledger.items (h.tx, 0) ≡ true
  not_free id key e free h has r = let m = none_else h (subst (λ (n : ℕ). In h (holds_at cells n)) e has) in let z : lets_change key h.request ≡ false = free h has m in cc

  own : (id : ℕ) (key : Key) (w : LockRequest) → 1 ≤ id → cell_of id ≡ catalog_at → In w (whole mode.X ∷ []) → lets_change key w ≡ true
      → counted o.id id x.place (of_key (columns_at (defs_of T) id) key (versions_at cells id)) ≡ of_key (columns_at (defs_of T) id) key (versions_of (script_end v T x o).state.tables id)
  own id key w l e is q = ⊎_elim
      (λ (k : HasX (holds_at cells (cell_of id)) o.id key). S.rows_agree.own j x o has_open K.unfixed id key l k.hold k.has k.mine k.reaches)
      (λ (free : HasNoX (holds_at cells (cell_of id)) o.id key). no_count id _ ∙ S.rows_agree.free id key l (not_free id key e free) ∙ ap (λ (U : Tables). of_key (columns_at (defs_of T) id) key (versions_of U id)) (sym (end_alone v cells seats S j x o has_open K.unfixed whole_script K.alone)))
      (has_x_or_not (holds_at cells (cell_of id)) o.id key)

  undone : (id : ℕ) (key : Key) (w : LockRequest) → 1 ≤ id → cell_of id ≡ catalog_at → In w (whole mode.X ∷ []) → lets_change key w ≡ true
      → versions_undone o.id 0 (of_key (columns_at (defs_of T) id) key (versions_at cells id)) ≡ of_key (columns_at (defs_of T) id) key (versions_of T id)
  undone id key w l e is q = ⊎_elim
      (λ (k : HasX (holds_at cells (cell_of id)) o.id key). ap (λ (n : ℕ). versions_undone n 0 (of_key (columns_at (defs_of T) id) key (versions_at cells id))) (sym k.mine)
      ∙ S.rows_agree.undone id key l k.hold k.has (ap (λ (n : ℕ). in_journal S.ledger.items (n, 0)) k.mine ∙ outside v cells seats S j x o 0 has_open K.unfixed) k.reaches)
      (λ (free : HasNoX (holds_at cells (cell_of id)) o.id key). ap (versions_undone o.id 0) (S.rows_agree.free id key l (not_free id key e free))
      ∙ nothing_undone o.id 0 _ (all_filter (MadeBefore o.id 0) (λ (w : Version). same_key (version_key (columns_at (defs_of T) id) w) key) (versions_of T id) (before_at o.id 0 id T (sound v cells seats S j x o has_open K.unfixed).each)))
      (has_x_or_not (holds_at cells (cell_of id)) o.id key)

  takes : Takes v cells seats S j (sits s then_session) x o then_session then_open catalog_at (Catalog old) (Catalog then_catalog) (whole mode.X ∷ []) text
  takes = record {
    goes = record { before = has_open; role = refl; open_one = refl };
    unfixed = K.unfixed;
    same = same;
    back = λ h. h;
    out = K.out;
    rows = λ id. refl;
    locks = refl;
    free = K.free;
    place = ap text_at K.place;
    on_whole = λ e w i. ⊎_elim (λ (f : whole mode.X ≡ w). ap (λ (u : LockRequest). u.item) (sym f)) (λ (z : ⊥). absurd z) i;
    visited = put_there catalog_at o.visited;
    acted = λ h. h;
    goes_on = λ h. subst (λ (q : SessionStatus). IsDropping q then_open) K.place h;
    no_index = λ after h. subst (λ (q : SessionStatus). HasAdded q o after) K.place h;
    stays_opened = subst (λ (q : SessionStatus). IsExplicitAt q o.explicit) (sym K.place) tt;
    looked = λ i e. absurd (omega arith);
    intents = λ w i m. (whole mode.X, inl refl, refl, inr refl);
    own = own;
    undone = undone;
  }

  was_table : (i : ℕ) (cell : TableCell) → get_elem? then_cells i ≡ some (Rows cell) → (was : TableCell) × (holds : List Hold) × (get_elem? cells i ≡ some (Rows was)) × (cell ≡ with_holds holds was)
  was_table i cell e = ⊎_elim
      (λ (z : i ≡ catalog_at). absurd (let q : some (Catalog then_catalog) ≡ some (Rows cell) = sym (set_here cells catalog_at (Catalog old) (Catalog then_catalog) K.out) ∙ ap (get_elem? then_cells) (sym z) ∙ e in cc))
      (λ (ne : i ≢ catalog_at). (cell, cell.holds, sym (set_else cells catalog_at i (Catalog then_catalog) ne) ∙ e, refl))
      (cases_eq i catalog_at)

  pub exclusive_there : Stands v history then_cells then_seats
  exclusive_there = record {
    catalog = then_catalog;
    ledger = S.ledger;
    are_cells = catalog_changed cells S.catalog S.ledger then_catalog S.are_cells;
    ledger_is_legal = S.ledger_is_legal;
    tables_are_serial = tables v cells seats S j (sits s then_session) x o then_session then_open catalog_at (Catalog old) (Catalog then_catalog) (whole mode.X ∷ []) text takes then_catalog (record { defs = ap (λ (z : CatalogCell). z.defs) is_catalog; creator = ap (λ (z : CatalogCell). z.creator) is_catalog }) (λ cs h. h) was_table;
    rows_agree = rows v cells seats S j (sits s then_session) x o then_session then_open catalog_at (Catalog old) (Catalog then_catalog) (whole mode.X ∷ []) text takes;
    open_scripts = scripts v cells seats S j (sits s then_session) x o then_session then_open catalog_at (Catalog old) (Catalog then_catalog) (whole mode.X ∷ []) text takes;
    locks_cover = covered v cells seats S j (sits s then_session) x o then_session then_open catalog_at (Catalog old) (Catalog then_catalog) (whole mode.X ∷ []) text takes
        (λ l. subst (IsGotAt v then_cells T o.id (not (in_journal S.ledger.items (o.id, 0)))) (sym K.place) tt)
        (λ h. absurd (subst HasLooked K.place h))
        (λ h. absurd (subst LookedFirst K.place h));
    locks_agree = agree v cells seats S j (sits s then_session) x o then_session then_open catalog_at (Catalog old) (Catalog then_catalog) (whole mode.X ∷ []) text takes;
    trees_are_of_events = trees v cells seats S j (sits s then_session) x o then_session then_open catalog_at (Catalog old) (Catalog then_catalog) (whole mode.X ∷ []) text takes;
    transcripts_agree = unmoved v cells seats S j s K.there x K.role o K.open_one then_open (record { id = refl; explicit = refl; script = refl; end = refl });
  }
