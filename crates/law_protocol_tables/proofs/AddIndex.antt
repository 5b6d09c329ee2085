-- CREATE INDEX adds its index in its table's cell: cells and seats stand together.
use Rattle.std.proofs.Common.{◌≡◌, ◌≢◌, ℕ, Bool, true, false, List, [], ◌∷◌, map, set, Option, Some, None, refl, sym, ap, ◌∙◌, subst, inr, ⊎_elim, arith}
use Rattle.std.proofs.lemmas.Bool.{cases_eq}
use Rattle.std.specs.Prelude.{not}
use mathlib.Core.Option.{some}
use lib.ListN.{get_elem?}
use Rattle.sql_value.specs.declared.column.ColumnDef.{ColumnDef}
use Rattle.sql_types.specs.declared.lock.Mode.TheVariants.{X}
use Rattle.sql_types.specs.declared.statement.Stmt.{Stmt}
use Rattle.sql_types.specs.declared.table.TableDef.{TableDef}
use Rattle.sql_types.specs.declared.table.IndexDef.{IndexDef}
use Rattle.sql_types.specs.declared.version.Version.{Version}
use Rattle.spec_model.specs.Keys.{key_places}
use Rattle.spec_model.specs.Catalog.{Tables, defs_of}
use Rattle.spec_model.specs.Locks.{whole}
use Rattle.spec_model.specs.ChangeSets.{change_set, defined}
use Rattle.spec_model.specs.Script.{ScriptEnd}
use Rattle.spec_history.specs.Lists.{Text, Each, In}
use Rattle.spec_history.specs.Transactions.{unfixed}
use Rattle.spec_protocol.specs.Server.{Server}
use Rattle.spec_protocol.specs.Cells.{TableCell, Cell, Rows, catalog_at, cell_of, AreCells}
use Rattle.spec_protocol.specs.Seats.{OpenTransaction, made, SessionStatus, inside, Session, SeatState}
use Rattle.spec_protocol.specs.OpenOnes.{HasOpen, text_at, lines_at, script_end}
use Rattle.spec_protocol.specs.OpenScripts.{counted}
use Rattle.spec_protocol.specs.TableVisits.{with_indexes, new_index, AddsIndex}
use Rattle.spec_protocol.specs.Moves.{visiting, at_place, sits}
use Rattle.spec_protocol.specs.TablesAreSerial.{HasAdded, IsAdding, IsSortedProjection, def_at, ordinals_of, HasIndexes, IsCarried}
use Rattle.spec_protocol.specs.RowsAgree.{IsExplicitAt}
use Rattle.spec_protocol.specs.LocksCover.{IsAfter}
use Rattle.spec_protocol.specs.StandTogether.{History, Stands}
use Rattle.law_protocol_steps.proofs.AfterSet.{set_here, set_else}
use Rattle.law_protocol_steps.proofs.SeatsAfter.{open_here, each_open}
use Rattle.law_protocol_steps.proofs.CellsAfter.{table_changed}
use Rattle.law_protocol_steps.proofs.CatalogAlone.{alone}
use Rattle.law_protocol_steps.proofs.DefsAfter.{found_id, IndexMade, index_made}
use Rattle.law_protocol_steps.proofs.SeatIds.{one_seat, outside}
use Rattle.law_protocol_steps.proofs.Looks.{put_there, put_keeps}
use Rattle.law_protocol_steps.proofs.RowsFor.{sound}
use Rattle.law_protocol_steps.proofs.SameOne.{IsSame, same_end}
use Rattle.law_protocol_steps.proofs.Takes.{tables_now, Takes, covered, agree, rows, scripts, trees, same_rows, looked_stays, stayed, definitions_after, creator_after, indexes_after}
use Rattle.law_protocol_steps.proofs.TakesInTable.{IsAtPlace, table_place, cell_at}
use Rattle.law_protocol_steps.proofs.OfCells.{Creates, HasLooked, HoldsInCatalog, IsGotAt, IsIndexed, StandsAs, TableStands, committed, in_journal, looked_now, table_there}
use Rattle.spec_protocol.specs.TranscriptsSoFar.{FitsWith, shown_with}
use Rattle.spec_protocol.specs.Contents.{HasAlone, contents, table_found}
use Rattle.law_protocol_steps.proofs.VisitActs.{stage_act}
use Rattle.spec_model.specs.Holds.{holds_after}
use Rattle.law_protocol_steps.proofs.Taken.{taken}

new_ordinals : (key : List ℕ) (vs : List Version) (is : List IndexDef) → map (λ q. q.ordinals) (map (new_index key vs) is) ≡ ordinals_of is
new_ordinals key vs [] = refl
new_ordinals key vs (x ∷ is) = ap (λ (l : List (List ℕ)). x.ordinals ∷ l) (new_ordinals key vs is)

new_sorted : (key : List ℕ) (vs : List Version) (is : List IndexDef) → Each (IsSortedProjection key vs) (map (new_index key vs) is)
new_sorted key vs [] = tt
new_sorted key vs (x ∷ is) = (refl, new_sorted key vs is)

module _ (v : Server) (cells : List Cell) (seats : List SeatState) {history : History} (S : Stands v history cells seats) (j : ℕ) (s : SeatState) (there : get_elem? seats j ≡ some s) (i : ℕ) (c d : TableCell) (t : SeatState) (out : get_elem? cells i ≡ some (Rows c)) (L : AddsIndex v c s d t) where
  abbrev T : Tables
  T = tables_now S

  abbrev o : OpenTransaction
  o = L.o

  abbrev x : Session
  x = L.at.stands.x

  abbrev text : Text
  text = L.at.stands.text

  abbrev def : TableDef
  def = L.def

  abbrev p : OpenTransaction
  p = visiting i o

  abbrev y : Session
  y = at_place (Some p) (inside text (made def true)) x

  abbrev e : TableCell
  e = with_indexes def c

  abbrev C' : List Cell
  C' = set cells i (Rows e)

  abbrev seats' : List SeatState
  seats' = set seats j (sits s y)

  place : x.place ≡ inside text (made def false)
  place = L.at.stands.place ∙ ap (inside text) L.at_made

  has_open : HasOpen seats j x o
  has_open = record { seat = s; there = there; role = L.at.stands.role; open_one = L.at.open_one }

  at : IsAtPlace i c
  at = table_place cells S.catalog S.ledger i c S.are_cells out

  is_alone : o.explicit ≡ false
  is_alone = subst (λ (q : SessionStatus). IsExplicitAt q o.explicit) place (S.rows_agree.explicit j x o has_open)

  looked : HoldsInCatalog v cells T (inside text (made def false)) o
  looked = subst (λ (q : SessionStatus). HoldsInCatalog v cells T q o) place (looked_now v cells T o x.place (S.locks_cover.looked j x o has_open L.at.unfixed) (subst HasLooked (sym place) tt))

  got : (not (in_journal S.ledger.items (o.id, 0)) ≡ true) × IsAfter T (v.reads text) def × HasAlone (contents cells) o.id
  got = subst (IsGotAt v cells T o.id (not (in_journal S.ledger.items (o.id, 0)))) place (S.locks_cover.got j x o has_open looked.lock)

  made_so : IndexMade T L.at.stands.stmt def
  made_so = index_made T L.at.stands.stmt def (sound v cells seats S j x o has_open L.at.unfixed).ids (subst (λ (q : Option Stmt). IsAfter T q def) L.at.stands.is got.1)

  exclusive : HasAlone (contents cells) o.id
  exclusive = got.2

  same : IsSame x o y p
  same = record {
    id = refl;
    explicit = refl;
    script = refl;
    seq = refl;
    trees = refl;
    open_savepoints = refl;
    end = refl;
    lines = ap lines_at (sym place);
    text = ap text_at (sym place);
    counts = λ tx id vs. ap (λ (q : SessionStatus). counted tx id q vs) (sym place);
    visited = λ n h. put_keeps i n o.visited h;
    released = refl;
  }

  none_taken : c.holds ≡ taken o.id [] c.holds
  unfolding holds_after
  none_taken = refl

  takes : Takes v cells seats S j (sits s y) x o y p i (Rows c) (Rows e) [] text
  takes = record {
    goes = record { before = has_open; role = refl; open_one = refl };
    unfixed = L.at.unfixed;
    same = same;
    back = λ h. tt;
    out = out;
    rows = λ id. refl;
    locks = none_taken;
    free = tt;
    place = ap text_at place;
    on_whole = λ e. absurd (let f = at.is in omega arith);
    visited = put_there i o.visited;
    acted = λ h. tt;
    goes_on = λ h. h;
    no_index = λ after h. subst (λ (q : SessionStatus). HasAdded q o after) place h;
    stays_opened = is_alone;
    looked = λ n q. looked.lock;
    intents = λ w h. absurd h;
    own = λ id key w l q h. absurd h;
    undone = λ id key w l q h. absurd h;
  }

  kept_alone : HasAlone (contents C') p.id
  kept_alone = stayed v cells seats S j (sits s y) x o y p i (Rows c) (Rows e) [] text takes catalog_at (record { tx = o.id; request = whole X }) exclusive

  -- ---- tables

  open_now : HasOpen seats' j y p
  open_now = open_here seats j (sits s y) x o y p (record { before = has_open; role = refl; open_one = refl })

  it_creates : Creates v C' seats' S.ledger y L.at.stands.stmt
  it_creates = record {
    j = j;
    o = p;
    has = open_now;
    own = is_alone;
    outside = outside v cells seats S j x o 0 has_open L.at.unfixed;
    text = text;
    stands = refl;
    is = L.at.stands.is;
    creates = made_so.creates;
    acted = tt;
    exclusive = stayed v cells seats S j (sits s y) x o y p i (Rows c) (Rows e) [] text takes catalog_at (record { tx = o.id; request = whole X }) exclusive;
  }

  old_here : def_at (defs_of T) c.id ≡ Some made_so.old
  old_here = ap (def_at (defs_of T)) (sym L.here) ∙ made_so.at

  old_id : made_so.old.id ≡ def.id
  old_id = found_id (defs_of T) def.id made_so.old made_so.at

  same_columns : def.columns ≡ made_so.old.columns
  same_columns = ap (λ (q : TableDef). q.columns) made_so.is

  adding : IsAdding y.place p def (cell_of made_so.old.id)
  adding = record {
    added = (refl, L.at.unfixed);
    visited = subst (λ (n : ℕ). In n p.visited) (sym (ap cell_of (old_id ∙ L.here) ∙ cell_at i c at)) (put_there i o.visited);
    unreleased = λ h. subst (In (cell_of made_so.old.id)) (S.locks_cover.unreleased j x o has_open L.at.unfixed) h;
  }

  stands_here : TableStands v C' seats' S.ledger e made_so.old
  unfolding it_creates
  stands_here = let h : TableStands v cells seats S.ledger c made_so.old = subst (StandsAs v cells seats S.ledger c) old_here (S.tables_are_serial.tables i c (ap table_found out)) in record {
    key = h.key;
    fit = h.fit;
    in_key_order = h.in_key_order;
    keys_differ = h.keys_differ;
    projections = subst (λ (cols : List ColumnDef). Each (IsSortedProjection (key_places cols) c.versions) (map (new_index (key_places def.columns) c.versions) def.indexes)) same_columns (new_sorted (key_places def.columns) c.versions def.indexes);
    indexes = inr (y, L.at.stands.stmt, def, it_creates, ap (def_at (defs_of (defined (change_set T L.at.stands.stmt).definition T))) old_id ∙ made_so.then_at, new_ordinals (key_places def.columns) c.versions def.indexes, adding);
  }

  stands_else : (cell : TableCell) (q : Option TableDef) → StandsAs v cells seats S.ledger cell q → StandsAs v C' seats' S.ledger cell q
  stands_else cell None h = h
  stands_else cell (Some q) h = record { key = h.key; fit = h.fit; in_key_order = h.in_key_order; keys_differ = h.keys_differ; projections = h.projections; indexes = indexes_after v cells seats S j (sits s y) x o y p i (Rows c) (Rows e) [] text takes q (map (λ q. q.ordinals) cell.indexes) h.indexes }

  at_cells : (n : ℕ) (cell : TableCell) → table_found (get_elem? C' n) ≡ some cell → StandsAs v C' seats' S.ledger cell (def_at (defs_of T) cell.id)
  at_cells n cell h = let f = table_there (get_elem? C' n) cell h in ⊎_elim
      (λ (q : n ≡ i). let found_it : some (Rows e) ≡ some (Rows cell) = sym (set_here cells i (Rows c) (Rows e) out) ∙ ap (get_elem? C') (sym q) ∙ f in
      let same : e ≡ cell = cc in subst (λ (u : TableCell). StandsAs v C' seats' S.ledger u (def_at (defs_of T) u.id)) same
      (subst (StandsAs v C' seats' S.ledger e) (sym old_here) stands_here))
      (λ (ne : n ≢ i). stands_else cell (def_at (defs_of T) cell.id) (S.tables_are_serial.tables n cell (ap table_found (sym (set_else cells i n (Rows e) ne) ∙ f))))
      (cases_eq n i)

  -- the cell of a table is one
  one_cell : (n : ℕ) (cell : TableCell) → get_elem? cells n ≡ some (Rows cell) → cell.id ≡ c.id → n ≡ i
  one_cell n cell f q = let b = table_place cells S.catalog S.ledger n cell S.are_cells f in sym (cell_at n cell b) ∙ ap cell_of q ∙ cell_at i c at

  has_indexes : HasIndexes (contents C') def true
  has_indexes n cell h q = let f = table_there (get_elem? C' n) cell h in ⊎_elim
      (λ (m : n ≡ i). let found_it : some (Rows e) ≡ some (Rows cell) = sym (set_here cells i (Rows c) (Rows e) out) ∙ ap (get_elem? C') (sym m) ∙ f in
      let same : e ≡ cell = cc in subst (λ (u : TableCell). map (λ r. r.ordinals) u.indexes ≡ ordinals_of def.indexes) same (new_ordinals (key_places def.columns) c.versions def.indexes))
      (λ (ne : n ≢ i). absurd (ne (one_cell n cell (sym (set_else cells i n (Rows e) ne) ∙ f) (q ∙ L.here))))
      (cases_eq n i)

  -- nobody else makes an index
  indexed_else : (n : ℕ) (z : Session) (r : OpenTransaction) → n ≢ j → HasOpen seats n z r → r.end ≡ unfixed → (q : SessionStatus) → z.place ≡ q → IsIndexed C' q
  indexed_else n z r ne h f (inside u (made k true)) is = absurd (ne (one_seat v cells seats S n j z x r o h has_open (alone v cells seats S o.id exclusive r.id (looked_now v cells T r z.place (S.locks_cover.looked n z r h f) (subst HasLooked (sym is) tt)).lock)))
  indexed_else n z r ne h f (inside u (made k false)) is = tt
  indexed_else n z r ne h f q is = tt

  same_shown : (b : Bool) → shown_with v.meaning b o.id text (made def false) ≡ shown_with v.meaning b o.id text (made def true)
  same_shown true = refl
  same_shown false = refl

  same_fits : (b : Bool) (n : ℕ) → FitsWith v.meaning b n text (made def false) o.id o.end → FitsWith v.meaning b n text (made def true) o.id o.end
  same_fits true n f = f
  same_fits false n f = f

  together : Stands v history C' seats'
  together = record {
    catalog = S.catalog;
    ledger = S.ledger;
    are_cells = subst (λ (m : ℕ). AreCells (set cells m (Rows e)) S.catalog S.ledger) (sym at.is) (table_changed cells S.catalog S.ledger at.n c e (ap (get_elem? cells) (sym at.is) ∙ out) refl S.are_cells);
    ledger_is_legal = S.ledger_is_legal;
    tables_are_serial = record {
      definitions = definitions_after v cells seats S j (sits s y) x o y p i (Rows c) (Rows e) [] text takes S.catalog S.catalog (record { defs = refl; creator = refl }) S.tables_are_serial.definitions;
      goes_back = creator_after v cells seats S j (sits s y) x o y p i (Rows c) (Rows e) [] text takes S.catalog S.catalog (record { defs = refl; creator = refl }) S.tables_are_serial.goes_back;
      carried = each_open seats j (sits s y) x o y p (record { before = has_open; role = refl; open_one = refl }) (λ n z r. r.end ≡ unfixed → IsCarried S.catalog.defs T (script_end v T z r).state.tables)
          (λ f. subst (λ (g : ScriptEnd). IsCarried S.catalog.defs T g.state.tables) (sym (same_end x o y p same v T)) (S.tables_are_serial.carried j x o has_open L.at.unfixed)) (λ n z r ne h f. S.tables_are_serial.carried n z r h f);
      indexed = each_open seats j (sits s y) x o y p (record { before = has_open; role = refl; open_one = refl }) (λ n z r. r.end ≡ unfixed → IsIndexed C' z.place) (λ f. has_indexes) (λ n z r ne h f. indexed_else n z r ne h f z.place refl);
      versions = λ id l. ap (committed S.ledger.items) (same_rows v cells seats S j (sits s y) x o y p i (Rows c) (Rows e) [] text takes id) ∙ S.tables_are_serial.versions id l;
      tables = at_cells;
    };
    rows_agree = rows v cells seats S j (sits s y) x o y p i (Rows c) (Rows e) [] text takes;
    open_scripts = scripts v cells seats S j (sits s y) x o y p i (Rows c) (Rows e) [] text takes;
    locks_cover = covered v cells seats S j (sits s y) x o y p i (Rows c) (Rows e) [] text takes (λ l. (got.0, got.1, kept_alone))
        (λ h. looked_stays v cells seats S j (sits s y) x o y p i (Rows c) (Rows e) [] text takes y.place p (record { lock = looked.lock; requests = looked.requests })) (λ h. absurd h);
    locks_agree = agree v cells seats S j (sits s y) x o y p i (Rows c) (Rows e) [] text takes;
    trees_are_of_events = trees v cells seats S j (sits s y) x o y p i (Rows c) (Rows e) [] text takes;
    transcripts_agree = stage_act v cells seats S j s there x L.at.stands.role o L.at.open_one text (made def false) (made def true) place same_shown refl refl same_fits refl (λ answered a h. h) p (record { id = refl; explicit = refl; script = refl; end = refl });
  }

  -- CREATE INDEX, in its table's cell
  pub adds_index : Stands v history (set cells i (Rows d)) (set seats j t)
  adds_index = subst (λ (u : TableCell). Stands v history (set cells i (Rows u)) (set seats j t)) (sym L.cell)
      (subst (λ (u : SeatState). Stands v history C' (set seats j u)) (ap (λ (n : ℕ). sits s (at_place (Some (visiting n o)) (inside text (made def true)) x)) (sym (cell_at i c at)) ∙ sym L.seat) together)
