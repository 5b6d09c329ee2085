-- A statement takes its locks in a table's cell: cells and seats stand together then, before anything is changed or answered.
use Rattle.std.proofs.Common.{◌≡◌, ◌≢◌, ◌⊎◌, ℕ, zero, suc, ◌≤◌, Bool, true, false, List, ◌++◌, set, Option, Some, refl, sym, ap, ◌∙◌, subst, inl, inr, ⊎_elim, append-nil, arith, []}
use Rattle.std.proofs.lemmas.Bool.{cases_eq, ne_eqb, eqb-false}
use Rattle.std.specs.Prelude.{◌==◌, ◌-◌, not, if◌then◌else◌}
use mathlib.Core.Option.{some}
use lib.ListN.{get_elem?}
use Rattle.sql_types.specs.declared.lock.Mode.{Mode}
use Rattle.sql_types.specs.declared.lock.Mode.TheVariants.{IX, X}
use Rattle.sql_types.specs.declared.lock.Item.TheVariants.{Whole}
use Rattle.sql_types.specs.declared.lock.LockRequest.{LockRequest}
use Rattle.sql_types.specs.declared.version.Version.{Version}
use Rattle.spec_model.specs.Keys.{Key, of_key, same_key, version_key}
use Rattle.spec_model.specs.Catalog.{NamedPart, defs_of, versions_of}
use Rattle.spec_model.specs.Agreement.{columns_at}
use Rattle.spec_model.specs.Reach.{is_exclusive, has_key, lets_change}
use Rattle.spec_model.specs.Runs.{MadeBefore}
use Rattle.spec_model.specs.Undo.{versions_undone}
use Rattle.law_frame.proofs.Alls.{all_filter}
use Rattle.law_frame.proofs.AtTable.{before_at}
use Rattle.law_frame.proofs.NoClash.{Relies}
use Rattle.law_frame.proofs.SameKeys.{and_true}
use Rattle.law_frame.proofs.UndoneVersions.{nothing_undone}
use Rattle.spec_history.specs.Lists.{Text, In}
use Rattle.spec_history.specs.Transactions.{unfixed}
use Rattle.spec_protocol.specs.Server.{Server}
use Rattle.sql_types.specs.declared.lock.Hold.{Hold}
use Rattle.spec_protocol.specs.Cells.{CatalogCell, LedgerCell, TableCell, Cell, Catalog, Ledger, Rows, holds_at, versions_at, catalog_at, cell_of, AreCells}
use Rattle.spec_protocol.specs.Seats.{OpenTransaction, found, SessionStatus, inside, Session, session, SeatState}
use Rattle.spec_protocol.specs.OpenOnes.{HasOpen, text_at, lines_at, script_so_far, script_end}
use Rattle.spec_protocol.specs.OpenScripts.{counted}
use Rattle.spec_protocol.specs.Moves.{visiting, at_place, sits}
use Rattle.spec_protocol.specs.Parts.{IsHeard}
use Rattle.spec_protocol.specs.TableVisits.{with_holds}
use Rattle.law_protocol_steps.proofs.Taken.{taken, AreFree}
use Rattle.spec_protocol.specs.TablesAreSerial.{HasAdded, HasActed}
use Rattle.spec_protocol.specs.LocksCover.{HasIntent}
use Rattle.spec_protocol.specs.StandTogether.{History, Stands}
use Rattle.law_protocol_steps.proofs.AfterSet.{set_here, set_else}
use Rattle.law_protocol_steps.proofs.CellsAfter.{table_changed, held_here}
use Rattle.law_protocol_steps.proofs.SameOne.{IsSame}
use Rattle.law_protocol_steps.proofs.SeatIds.{outside}
use Rattle.law_protocol_steps.proofs.Excluded.{HasX, HasNoX, has_x_or_not, excluded}
use Rattle.law_protocol_steps.proofs.RowsFor.{sound, rows_for}
use Rattle.law_protocol_steps.proofs.Looks.{put_there, put_keeps}
use Rattle.law_protocol_steps.proofs.Takes.{tables_now, Takes, looked_stays, covered, agree, rows, scripts, trees, tables}
use Rattle.law_protocol_steps.proofs.OfCells.{HasLock, HasLooked, HoldsInCatalog, IsGotAt, in_journal, looked_now}
use Rattle.spec_protocol.specs.TranscriptsAgree.{TranscriptsAgree}
use Rattle.law_protocol_steps.proofs.TranscriptProgress.{from_at}
use Rattle.law_protocol_steps.proofs.VisitActs.{still_act}
use Rattle.spec_history.specs.Facts.{Fact}
use Rattle.spec_protocol.specs.TranscriptsSoFar.{FitsWith, end_shown, shown_with}

-- ---- the place of a table's cell

pub record IsAtPlace (i : ℕ) (c : TableCell) : Type 0 where
  pub n : ℕ
  pub is : i ≡ suc (suc n)
  pub id : c.id ≡ suc (suc (suc n))

pub table_place : (cells : List Cell) (catalog : CatalogCell) (ledger : LedgerCell) (i : ℕ) (c : TableCell) → AreCells cells catalog ledger → get_elem? cells i ≡ some (Rows c) → IsAtPlace i c
table_place cells catalog ledger zero c h e = absurd (let z : some (Rows c) ≡ some (Catalog catalog) = sym e ∙ h.has_catalog in cc)
table_place cells catalog ledger (suc zero) c h e = absurd (let z : some (Rows c) ≡ some (Ledger ledger) = sym e ∙ h.has_ledger in cc)
table_place cells catalog ledger (suc (suc n)) c h e = let t = h.has_tables n (Rows c) e in let q : Rows c ≡ Rows t.0 = t.1 in let same : c ≡ t.0 = cc in record { n = n; is = refl; id = ap (λ (z : TableCell). z.id) same ∙ t.2 }

pub cell_at : (i : ℕ) (c : TableCell) → IsAtPlace i c → cell_of c.id ≡ i
cell_at i c p = rw (p.id, p.is, ne_eqb (suc (suc (suc p.n))) 1 (λ e. omega (arith, e)), ne_eqb (suc (suc (suc p.n))) 2 (λ e. omega (arith, e))) (omega arith)

pub users : (id n : ℕ) → 1 ≤ id → cell_of id ≡ suc (suc n) → 3 ≤ id
users id n l e = by (id == 1) (id == 2) refl refl
  where
    by : (b d : Bool) → (id == 1) ≡ b → (id == 2) ≡ d → 3 ≤ id
    by true d f g = absurd (let z : 0 ≡ suc (suc n) = ap (λ (q : Bool). if q then 0 else (if id == 2 then 0 else id - 1)) (sym f) ∙ e in omega arith)
    by false true f g = absurd (let z : 0 ≡ suc (suc n) = ap (λ (q : Bool). if q then 0 else id - 1) (sym g) ∙ ap (λ (q : Bool). if q then 0 else (if id == 2 then 0 else id - 1)) (sym f) ∙ e in omega arith)
    by false false f g = let ne = eqb-false id 1 f in let nd = eqb-false id 2 g in omega arith

-- a seat stands at what it found in the catalog, and takes these wants of its statement in the cell of its table
pub record TakesAt (v : Server) (cells : List Cell) (seats : List SeatState) {history : History} (S : Stands v history cells seats) (j : ℕ) (s : SeatState) (x : Session) (o : OpenTransaction) (text : Text) (named : Option NamedPart) (fresh : Bool) (i : ℕ) (c : TableCell) (requests : List LockRequest) : Type 0 where
  pub there : get_elem? seats j ≡ some s
  pub role : s.role ≡ session x
  pub open_one : x.open_one ≡ Some o
  pub unfixed : o.end ≡ unfixed
  pub place : x.place ≡ inside text (found named fresh)
  pub out : get_elem? cells i ≡ some (Rows c)
  pub free : AreFree c.holds o.id requests
  pub intents : (w : LockRequest) → In w requests → w.mode ≡ X → (u : LockRequest) × In u requests × (u.item ≡ Whole) × ((u.mode ≡ IX) ⊎ (u.mode ≡ X))
  pub announced : (w : LockRequest) → In w requests → (u : LockRequest) × In u requests × (u.item ≡ Whole)

module _ (v : Server) (cells : List Cell) (seats : List SeatState) {history : History} (S : Stands v history cells seats) (j : ℕ) (s : SeatState) (x : Session) (o : OpenTransaction) (text : Text) (named : Option NamedPart) (fresh : Bool) (i : ℕ) (c : TableCell) (requests : List LockRequest)
    (K : TakesAt v cells seats S j s x o text named fresh i c requests) where
  abbrev pub then_open : OpenTransaction
  then_open = visiting i o

  -- whether it was the first to look doesn't matter any more: it goes on at once
  abbrev pub then_session : Session
  then_session = at_place (Some then_open) (inside text (found named false)) x

  abbrev pub then_cell : TableCell
  then_cell = with_holds (taken o.id requests c.holds) c

  abbrev pub then_cells : List Cell
  then_cells = set cells i (Rows then_cell)

  abbrev pub then_seats : List SeatState
  then_seats = set seats j (sits s then_session)

  has_open : HasOpen seats j x o
  has_open = record { seat = s; there = K.there; role = K.role; open_one = K.open_one }

  at : IsAtPlace i c
  at = table_place cells S.catalog S.ledger i c S.are_cells K.out

  pub same : IsSame x o then_session then_open
  same = record {
    id = refl;
    explicit = refl;
    script = refl;
    seq = refl;
    trees = refl;
    open_savepoints = refl;
    end = refl;
    lines = ap lines_at (sym K.place);
    text = ap text_at (sym K.place);
    counts = λ tx id vs. ap (λ (q : SessionStatus). counted tx id q vs) (sym K.place);
    visited = λ n h. put_keeps i n o.visited h;
    released = refl;
  }

  whole_script : script_so_far x o ≡ o.script
  whole_script = ap (λ (q : SessionStatus). o.script ++ lines_at q) K.place ∙ append-nil o.script

  no_count : (id : ℕ) (vs : List Version) → counted o.id id x.place vs ≡ vs
  no_count id vs = ap (λ (q : SessionStatus). counted o.id id q vs) K.place

  -- nobody else has X on what it relies on
  others_none : (w : LockRequest) → In w requests → Relies w.mode → (key : Key) → has_key key w.item ≡ true → (h : Hold) → In h (holds_at cells i) → h.tx ≢ o.id → lets_change key h.request ≡ false
  others_none w is r key q h has ne = excluded c.holds o.id requests K.free
      (λ g k m. subst (λ (hs : List Hold). HasIntent hs g) (held_here cells i (Rows c) (Rows c) K.out) (S.locks_cover.intents i g (subst (In g) (sym (held_here cells i (Rows c) (Rows c) K.out)) k) m))
      K.announced key w is r q h (subst (In h) (held_here cells i (Rows c) (Rows c) K.out) has) ne

  relies_x : (w : LockRequest) (key : Key) → lets_change key w ≡ true → Relies w.mode × (has_key key w.item ≡ true)
  relies_x w key q = let p = and_true (is_exclusive w.mode) (has_key key w.item) q in (exclusive w.mode p.0, p.1)
    where
      exclusive : (m : Mode) → is_exclusive m ≡ true → Relies m
      exclusive X e = tt
      exclusive m e = cc

  held_catalog : HoldsInCatalog v cells (tables_now S) x.place o
  held_catalog = looked_now v cells (tables_now S) o x.place (S.locks_cover.looked j x o has_open K.unfixed) (subst HasLooked (sym K.place) tt)

  own : (id : ℕ) (key : Key) (w : LockRequest) → 1 ≤ id → cell_of id ≡ i → In w requests → lets_change key w ≡ true
      → counted o.id id x.place (of_key (columns_at (defs_of (tables_now S)) id) key (versions_at cells id)) ≡ of_key (columns_at (defs_of (tables_now S)) id) key (versions_of (script_end v (tables_now S) x o).state.tables id)
  own id key w l e is q = let p = relies_x w key q in
      no_count id (of_key (columns_at (defs_of (tables_now S)) id) key (versions_at cells id))
      ∙ rows_for v cells seats S j x o has_open K.unfixed whole_script id l (no_count id) key
      (λ h has ne. others_none w is p.0 key p.1 h (subst (λ (n : ℕ). In h (holds_at cells n)) e has) ne)

  undone : (id : ℕ) (key : Key) (w : LockRequest) → 1 ≤ id → cell_of id ≡ i → In w requests → lets_change key w ≡ true
      → versions_undone o.id 0 (of_key (columns_at (defs_of (tables_now S)) id) key (versions_at cells id)) ≡ of_key (columns_at (defs_of (tables_now S)) id) key (versions_of (tables_now S) id)
  undone id key w l e is q = by (has_x_or_not (holds_at cells (cell_of id)) o.id key)
    where
      not_free : HasNoX (holds_at cells (cell_of id)) o.id key → (h : Hold) → In h (holds_at cells (cell_of id)) → lets_change key h.request ≡ true → in_journal S.ledger.items (h.tx, 0) ≡ true
      not_free free h has r = absurd (⊎_elim
          (λ (m : h.tx ≡ o.id). let z : lets_change key h.request ≡ false = free h has m in cc)
          (λ (ne : h.tx ≢ o.id). let p = relies_x w key q in let z : lets_change key h.request ≡ false = others_none w is p.0 key p.1 h (subst (λ (n : ℕ). In h (holds_at cells n)) e has) ne in cc)
          (cases_eq h.tx o.id))

      by : HasX (holds_at cells (cell_of id)) o.id key ⊎ HasNoX (holds_at cells (cell_of id)) o.id key
          → versions_undone o.id 0 (of_key (columns_at (defs_of (tables_now S)) id) key (versions_at cells id)) ≡ of_key (columns_at (defs_of (tables_now S)) id) key (versions_of (tables_now S) id)
      by (inl k) = ap (λ (n : ℕ). versions_undone n 0 (of_key (columns_at (defs_of (tables_now S)) id) key (versions_at cells id))) (sym k.mine)
          ∙ S.rows_agree.undone id key l k.hold k.has (ap (λ (n : ℕ). in_journal S.ledger.items (n, 0)) k.mine ∙ outside v cells seats S j x o 0 has_open K.unfixed) k.reaches
      by (inr free) = ap (versions_undone o.id 0) (S.rows_agree.free id key l (not_free free))
          ∙ nothing_undone o.id 0 _ (all_filter (MadeBefore o.id 0) (λ (w : Version). same_key (version_key (columns_at (defs_of (tables_now S)) id) w) key) (versions_of (tables_now S) id)
          (before_at o.id 0 id (tables_now S) (sound v cells seats S j x o has_open K.unfixed).each))

  takes : Takes v cells seats S j (sits s then_session) x o then_session then_open i (Rows c) (Rows then_cell) requests text
  takes = record {
    goes = record { before = has_open; role = refl; open_one = refl };
    unfixed = K.unfixed;
    same = same;
    back = λ h. tt;
    out = K.out;
    rows = λ id. refl;
    locks = refl;
    free = K.free;
    place = ap text_at K.place;
    on_whole = λ e. absurd (let f = at.is in omega arith);
    visited = put_there i o.visited;
    acted = λ h. absurd (subst HasActed K.place h);
    goes_on = λ h. h;
    no_index = λ after h. subst (λ (q : SessionStatus). HasAdded q o after) K.place h;
    stays_opened = tt;
    looked = λ n e. held_catalog.lock;
    intents = K.intents;
    own = own;
    undone = undone;
  }

  was_table : (n : ℕ) (cell : TableCell) → get_elem? then_cells n ≡ some (Rows cell) → (was : TableCell) × (holds : List Hold) × (get_elem? cells n ≡ some (Rows was)) × (cell ≡ with_holds holds was)
  was_table n cell e = ⊎_elim
      (λ (z : n ≡ i). let q : some (Rows then_cell) ≡ some (Rows cell) = sym (set_here cells i (Rows c) (Rows then_cell) K.out) ∙ ap (get_elem? then_cells) (sym z) ∙ e in
      (c, taken o.id requests c.holds, ap (get_elem? cells) z ∙ K.out, cc))
      (λ (ne : n ≢ i). (cell, cell.holds, sym (set_else cells i n (Rows then_cell) ne) ∙ e, refl))
      (cases_eq n i)

  got_before : HasLock cells catalog_at o.id → IsGotAt v cells (tables_now S) o.id (not (in_journal S.ledger.items (o.id, 0))) (inside text (found named fresh))
  got_before l = subst (IsGotAt v cells (tables_now S) o.id (not (in_journal S.ledger.items (o.id, 0)))) K.place (S.locks_cover.got j x o has_open l)

  same_shown : (b : Bool) → shown_with v.meaning b o.id text (found named fresh) ≡ shown_with v.meaning b o.id text (found named false)
  same_shown true = refl
  same_shown false = refl

  same_fits : (b : Bool) (n : ℕ) → FitsWith v.meaning b n text (found named fresh) o.id o.end → FitsWith v.meaning b n text (found named false) o.id o.end
  same_fits true n f = f
  same_fits false n f = f

  act : TranscriptsAgree v history S.ledger then_seats
  act = still_act v cells seats S j s K.there x K.role o K.open_one then_session then_open (record { id = refl; explicit = refl; script = refl; end = refl }) refl (ap text_at (sym K.place)) (ap lines_at (sym K.place))
      (λ answered a h. subst (λ q. IsHeard q answered a) K.place h) refl (record { images = refl; moments = refl; earlier = refl })
      (from_at v.meaning x then_session (inside text (found named fresh)) (Some o) [] K.place K.open_one refl (λ m n f. record { shown = append-nil _ ∙ ap (λ (l : List Fact). l ++ end_shown o.end) (same_shown o.explicit); before = refl; images = refl; fits = same_fits o.explicit m f }))

  pub takes_there : Stands v history then_cells then_seats
  takes_there = record {
    catalog = S.catalog;
    ledger = S.ledger;
    are_cells = subst (λ (m : ℕ). AreCells (set cells m (Rows then_cell)) S.catalog S.ledger) (sym at.is) (table_changed cells S.catalog S.ledger at.n c then_cell (ap (get_elem? cells) (sym at.is) ∙ K.out) refl S.are_cells);
    ledger_is_legal = S.ledger_is_legal;
    tables_are_serial = tables v cells seats S j (sits s then_session) x o then_session then_open i (Rows c) (Rows then_cell) requests text takes S.catalog (record { defs = refl; creator = refl }) (λ cs h. tt) was_table;
    rows_agree = rows v cells seats S j (sits s then_session) x o then_session then_open i (Rows c) (Rows then_cell) requests text takes;
    open_scripts = scripts v cells seats S j (sits s then_session) x o then_session then_open i (Rows c) (Rows then_cell) requests text takes;
    locks_cover = covered v cells seats S j (sits s then_session) x o then_session then_open i (Rows c) (Rows then_cell) requests text takes
        (λ l. got_before held_catalog.lock)
        (λ h. looked_stays v cells seats S j (sits s then_session) x o then_session then_open i (Rows c) (Rows then_cell) requests text takes then_session.place then_open (record { lock = held_catalog.lock; requests = λ u e. held_catalog.requests u (ap text_at K.place ∙ e) }))
        (λ h. absurd h);
    locks_agree = agree v cells seats S j (sits s then_session) x o then_session then_open i (Rows c) (Rows then_cell) requests text takes;
    trees_are_of_events = trees v cells seats S j (sits s then_session) x o then_session then_open i (Rows c) (Rows then_cell) requests text takes;
    transcripts_agree = act;
  }

  pub same_ledger : takes_there.ledger ≡ S.ledger
  unfolding takes_there
  same_ledger = refl
