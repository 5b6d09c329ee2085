-- INSERT, UPDATE and DELETE in a table's cell: locks are taken, rows are changed, trees grow.
use Rattle.law_protocol_steps.proofs.ActedFor.{StandsBy}
use Rattle.std.proofs.Common.{◌≡◌, ◌≢◌, ◌⊎◌, ℕ, ◌+◌, false, List, [], ◌∷◌, map, length, set, Option, Some, None, Ok, refl, sym, ap, ap₂, ◌∙◌, subst, inl, inr, ⊎_elim, true}
use Rattle.std.specs.Prelude.{not}
use mathlib.Core.Option.{some}
use lib.ListN.{get_elem?}
use Rattle.sql_types.specs.declared.journal.JournalItem.{JournalItem}
use Rattle.sql_types.specs.declared.lock.Mode.TheVariants.{IX, X}
use Rattle.sql_types.specs.declared.lock.Item.TheVariants.{Whole}
use Rattle.sql_types.specs.declared.lock.LockRequest.{LockRequest}
use Rattle.sql_types.specs.declared.reply.Reply.TheVariants as reply
use Rattle.sql_types.specs.declared.statement.Stmt.{Stmt}
use Rattle.sql_types.specs.declared.statement.Stmt.TheVariants as stmt
use Rattle.sql_types.specs.declared.statement.RowStmt.{RowStmt}
use Rattle.sql_types.specs.declared.statement.RowStmt.TheVariants.{Insert, Update, Delete}
use Rattle.sql_types.specs.declared.table.TableDef.{TableDef}
use Rattle.spec_model.specs.Keys.{Key, key_places, live_by_key}
use Rattle.spec_model.specs.Catalog.{Defs, defs_of, find_part}
use Rattle.spec_model.specs.Checks.{table_of, row_statement_check}
use Rattle.spec_model.specs.Lists.{all_some}
use Rattle.spec_model.specs.Where.{key_fixed}
use Rattle.spec_model.specs.Journals.{serial}
use Rattle.spec_model.specs.Changes.{written_names}
use Rattle.spec_model.specs.Locks.{whole, by_keys, by_key_or_whole, key_inserted, row_requests, requests_conflict}
use Rattle.spec_model.specs.Agreement.{columns_at}
use Rattle.law_frame.proofs.AgreeAfter.{has_table}
use Rattle.law_frame.proofs.NamedPart.{found_is_listed}
use Rattle.law_journal.specs.Fits.{FitsSoFar}
use Rattle.spec_history.specs.Lists.{Text, Each, In}
use Rattle.spec_protocol.specs.Server.{Server}
use Rattle.sql_types.specs.declared.lock.Hold.{Hold}
use Rattle.spec_protocol.specs.Cells.{Index, TableCell, Cell, Rows, cell_of}
use Rattle.spec_protocol.specs.Seats.{OpenTransaction, found, SessionStatus, inside, Session, SeatState}
use Rattle.spec_protocol.specs.OpenOnes.{HasOpen}
use Rattle.spec_protocol.specs.Moves.{visiting, noting, sits}
use Rattle.law_protocol_steps.proofs.Taken.{AreFree}
use Rattle.spec_protocol.specs.TableVisits.{reordered, ChangesRows}
use Rattle.spec_protocol.specs.LocksCover.{name_of, IsNamed, HasIntent}
use Rattle.spec_protocol.specs.StandTogether.{History, Stands}
use Rattle.law_protocol_steps.proofs.AfterSet.{set_here, set_twice, each_at, all_at}
use Rattle.law_protocol_steps.proofs.CellsAfter.{held_here}
use Rattle.law_protocol_steps.proofs.Excluded.{HasX, HasNoX, has_x_or_not, excluded}
use Rattle.law_protocol_steps.proofs.Taken.{taken_comes, taken_holds}
use Rattle.law_journal.specs.Serial.{place_in}
use Rattle.spec_protocol.specs.OpenOnes.{texts_so_far, script_end}
use Rattle.spec_protocol.specs.Cells.{holds_at}
use Rattle.law_protocol_steps.proofs.Defined.{IsDefined, is_defined}
use Rattle.law_protocol_tables.proofs.KeptNow.{KeptRows, kept_script}
use Rattle.law_protocol_tables.proofs.LiveByKey.{ByKey, kept_by_key}
use Rattle.law_protocol_steps.proofs.RowsFor.{sound, elsewhere}
use Rattle.law_protocol_steps.proofs.NewLine.{same_check, has_found}
use Rattle.law_protocol_steps.proofs.Takes.{tables_now}
use Rattle.law_protocol_steps.proofs.TakesInTable as take
use Rattle.law_protocol_changes.proofs.ChangesAt.{Changing}
use Rattle.law_protocol_changes.proofs.ChangesAt as ch
use Rattle.law_protocol_changes.proofs.ChangeKeeps.{changes_there, indexes_then}
use Rattle.law_protocol_tables.proofs.ChangeTrees.{trees_then}
use Rattle.spec_protocol.specs.TablesAreSerial.{KeysDiffer, index_order, IsSortedProjection, def_at}
use Rattle.spec_model.specs.Rows.{live}
use Rattle.sql_value.specs.declared.column.ColumnDef.{ColumnDef}
use Rattle.spec_protocol.specs.Doing.{grown, events_from, done}
use Rattle.sql_types.specs.declared.version.Version.{Version}
use Rattle.law_protocol_steps.proofs.OfCells.{AreIndexes, HasLooked, IsGotAt, StandsAs, TableStands, in_journal, looked_now}
use Rattle.law_protocol_steps.proofs.TakenLocks.{all_free}
use Rattle.spec_protocol.specs.Contents.{table_found}
use Rattle.spec_protocol.specs.ActsOf.{done_acts}

-- ---- the wants of a row statement

abbrev Announces : List LockRequest → Type 0
Announces ws = (w : LockRequest) → In w ws → (u : LockRequest) × In u ws × (u.item ≡ Whole) × ((u.mode ≡ IX) ⊎ (u.mode ≡ X))

keys_announced : (o : Option (List Key)) → Announces (by_keys o)
keys_announced (Some keys) w i = (whole IX, inl refl, refl, inl refl)
keys_announced None w i = (whole X, inl refl, refl, inr refl)

key_announced : (o : Option Key) → Announces (by_key_or_whole IX X o)
key_announced (Some key) w i = (whole IX, inl refl, refl, inl refl)
key_announced None w i = (whole X, inl refl, refl, inr refl)

pub rows_announced : (def : TableDef) (row : RowStmt) → Announces (row_requests def row)
unfolding row_requests
rows_announced def (Insert table names rows) = keys_announced (all_some (map (key_inserted def.columns (written_names def names)) rows))
rows_announced def (Update table sets cond) = key_announced (key_fixed def.columns cond)
rows_announced def (Delete table cond) = key_announced (key_fixed def.columns cond)

module _ (v : Server) (cells : List Cell) (seats : List SeatState) {history : History} (S : Stands v history cells seats) (j : ℕ) (s : SeatState) (there : get_elem? seats j ≡ some s) (i : ℕ) (c d : TableCell) (t : SeatState) (out : get_elem? cells i ≡ some (Rows c)) (L : ChangesRows v c s d t) where
  abbrev o : OpenTransaction
  o = L.o

  abbrev x : Session
  x = L.at.at.stands.x

  abbrev text : Text
  text = L.at.at.stands.text

  abbrev D : Defs
  D = defs_of (tables_now S)

  place : x.place ≡ inside text (found (Some L.named) L.fresh)
  place = L.at.at.stands.place ∙ ap (inside text) L.at.at_found

  has_open : HasOpen seats j x o
  has_open = record { seat = s; there = there; role = L.at.at.stands.role; open_one = L.at.at.open_one }

  reads : v.reads text ≡ Some (stmt.Change L.row)
  reads = L.at.at.stands.is ∙ ap (λ (q : Stmt). Some q) L.is

  got : IsNamed (tables_now S) (Some (stmt.Change L.row)) (Some L.named)
  got = subst (λ (q : Option Stmt). IsNamed (tables_now S) q (Some L.named)) reads
      (subst (λ (q : SessionStatus). IsGotAt v cells (tables_now S) o.id (not (in_journal S.ledger.items (o.id, 0))) q) place (S.locks_cover.got j x o has_open ((looked_now v cells (tables_now S) o x.place (S.locks_cover.looked j x o has_open L.at.at.unfixed) (subst HasLooked (sym place) tt)).lock)))

  finds : find_part D (table_of L.row) ≡ Some L.named
  finds = by L.row got.1
    where
      by : (row : RowStmt) → name_of (stmt.Change row) ≡ Some got.0 → find_part D (table_of row) ≡ Some L.named
      by (Insert table names rows) e = let z : table ≡ got.0 = cc in ap (find_part D) z ∙ sym got.2
      by (Update table sets cond) e = let z : table ≡ got.0 = cc in ap (find_part D) z ∙ sym got.2
      by (Delete table cond) e = let z : table ≡ got.0 = cc in ap (find_part D) z ∙ sym got.2

  checked : row_statement_check D L.row ≡ Ok L.named.0
  checked = sym (same_check D L.row L.named finds) ∙ L.passes

  at : take.IsAtPlace i c
  at = take.table_place cells S.catalog S.ledger i c S.are_cells out

  here : cell_of L.named.0.id ≡ i
  here = ap cell_of L.at.here ∙ take.cell_at i c at

  -- ---- the locks

  free : AreFree c.holds o.id (row_requests L.named.0 L.row)
  free = all_free c.holds o.id (row_requests L.named.0 L.row) L.free

  pub takes_at : take.TakesAt v cells seats S j s x o text (Some L.named) L.fresh i c (row_requests L.named.0 L.row)
  takes_at = record {
    there = there;
    role = L.at.at.stands.role;
    open_one = L.at.at.open_one;
    unfixed = L.at.at.unfixed;
    place = place;
    out = out;
    free = free;
    intents = λ w h m. rows_announced L.named.0 L.row w h;
    announced = λ w h. let u = rows_announced L.named.0 L.row w h in (u.0, u.1, u.2);
  }

  abbrev cells1 : List Cell
  cells1 = take.then_cells v cells seats S j s x o text (Some L.named) L.fresh i c (row_requests L.named.0 L.row) takes_at

  abbrev seats1 : List SeatState
  seats1 = take.then_seats v cells seats S j s x o text (Some L.named) L.fresh i c (row_requests L.named.0 L.row) takes_at

  abbrev cell1 : TableCell
  cell1 = take.then_cell v cells seats S j s x o text (Some L.named) L.fresh i c (row_requests L.named.0 L.row) takes_at

  abbrev x1 : Session
  x1 = take.then_session v cells seats S j s x o text (Some L.named) L.fresh i c (row_requests L.named.0 L.row) takes_at

  abbrev o1 : OpenTransaction
  o1 = visiting i o

  pub stands_then : Stands v history cells1 seats1
  stands_then = take.takes_there v cells seats S j s x o text (Some L.named) L.fresh i c (row_requests L.named.0 L.row) takes_at

  same_ledger : stands_then.ledger ≡ S.ledger
  unfolding stands_then
  same_ledger = take.same_ledger v cells seats S j s x o text (Some L.named) L.fresh i c (row_requests L.named.0 L.row) takes_at

  same_defs : defs_of (tables_now stands_then) ≡ D
  same_defs = ap (λ (items : List JournalItem). defs_of (serial v.reads items)) (ap (λ l. l.items) same_ledger)

  cell_out : get_elem? cells1 i ≡ some (Rows cell1)
  cell_out = set_here cells i (Rows c) (Rows cell1) out

  free1 : AreFree cell1.holds o.id (row_requests L.named.0 L.row)
  free1 = all_at _ (row_requests L.named.0 L.row) (λ w is. all_at _ cell1.holds (λ h has ne. ⊎_elim
      (λ (was : In h c.holds). each_at (λ (g : Hold). g.tx ≢ o.id → requests_conflict w g.request ≡ false) c.holds h (each_at (λ (u : LockRequest). Each (λ g. g.tx ≢ o.id → requests_conflict u g.request ≡ false) c.holds) (row_requests L.named.0 L.row) w free is) was ne)
      (λ (new : (h.tx ≡ o.id) × In h.request (row_requests L.named.0 L.row)). absurd (ne new.0))
      (taken_comes o.id (row_requests L.named.0 L.row) c.holds h has)))

  intents1 : (h : Hold) → In h cell1.holds → h.request.mode ≡ X → HasIntent cell1.holds h
  intents1 h has m = subst (λ (hs : List Hold). HasIntent hs h) (held_here cells1 i (Rows cell1) (Rows cell1) cell_out)
      (stands_then.locks_cover.intents i h (subst (In h) (sym (held_here cells1 i (Rows cell1) (Rows cell1) cell_out)) has) m)

  pub changing : Changing v cells1 seats1 stands_then j (sits s x1) x1 o1 text L.named false i cell1 L.row L.changes L.count
  changing = record {
    there = set_here seats j s (sits s x1) there;
    role = refl;
    open_one = refl;
    unfixed = L.at.at.unfixed;
    place = refl;
    out = cell_out;
    is = reads;
    checked = ap (λ (ds : Defs). row_statement_check ds L.row) same_defs ∙ checked;
    here = L.at.here;
    columns = ap (λ (ds : Defs). columns_at ds c.id) same_defs ∙ ap (columns_at D) (sym L.at.here)
        ∙ (found_is_listed 1 D (table_of L.row) L.named (sound v cells seats S j x o has_open L.at.at.unfixed).ids finds).columns;
    defined = ap (λ (ds : Defs). has_table ds c.id) same_defs ∙ ap (has_table D) (sym L.at.here) ∙ has_found D (table_of L.row) L.named finds;
    held = taken_holds o.id (row_requests L.named.0 L.row) c.holds;
    others = λ w is r key q h has ne. excluded cell1.holds o.id (row_requests L.named.0 L.row) free1 intents1 (λ u k. let a = rows_announced L.named.0 L.row u k in (a.0, a.1, a.2)) key w is r q h has ne;
    changed = L.changed;
  }

  -- ---- the change

  abbrev cells2 : List Cell
  cells2 = ch.cells_then v cells1 seats1 stands_then j (sits s x1) x1 o1 text L.named false i cell1 L.row L.changes L.count changing

  abbrev seats2 : List SeatState
  seats2 = ch.seats_then v cells1 seats1 stands_then j (sits s x1) x1 o1 text L.named false i cell1 L.row L.changes L.count changing

  abbrev cell2 : TableCell
  cell2 = ch.cell_then v cells1 seats1 stands_then j (sits s x1) x1 o1 text L.named false i cell1 L.row L.changes L.count changing

  -- the table's cell stands as its definition says: its versions fit, and no two that stand have one key
  abbrev pub TableStandsThen : Type 0
  TableStandsThen = StandsAs v cells2 seats2 stands_then.ledger cell2 (def_at (defs_of (tables_now stands_then)) c.id)

  module _ (stands : TableStandsThen) where
    together : StandsBy v j history o.id o.explicit (done_acts o.explicit text true (reply.Changed L.count)) cells2 seats2
    together = changes_there v cells1 seats1 stands_then j (sits s x1) x1 o1 text L.named false i cell1 L.row L.changes L.count changing stands
        (trees_then v cells1 seats1 stands_then j (sits s x1) x1 o1 text L.named false i cell1 L.row L.changes L.count changing)

    same_cells : cells2 ≡ set cells i (Rows d)
    same_cells = set_twice cells i (Rows cell1) (Rows cell2) ∙ ap (λ (e : TableCell). set cells i (Rows e)) (sym L.cell)

    same_seats : seats2 ≡ set seats j t
    same_seats = set_twice seats j (sits s x1) _ ∙ ap (set seats j) (seat_is ∙ sym L.seat)
      where
        seat_is : ch.then_sits v cells1 seats1 stands_then j (sits s x1) x1 o1 text L.named false i cell1 L.row L.changes L.count changing ≡ done s L.at.at.stands (noting (o.seq + length L.changes) (grown c.id (events_from o.id o.seq c.id d.versions) o.trees) (visiting (cell_of c.id) o)) (reply.Changed L.count)
        seat_is = ap₂ (λ (n : ℕ) (vs : List Version). done s L.at.at.stands (noting (o.seq + length L.changes) (grown c.id (events_from o.id o.seq c.id vs) o.trees) (visiting n o)) (reply.Changed L.count))
            (sym (take.cell_at i c at)) (ap (λ (e : TableCell). e.versions) (sym L.cell))

    pub changes : StandsBy v j history o.id o.explicit (done_acts o.explicit text true (reply.Changed L.count)) (set cells i (Rows d)) (set seats j t)
    changes = subst (λ (u : List SeatState). StandsBy v j history o.id o.explicit (done_acts o.explicit text true (reply.Changed L.count)) (set cells i (Rows d)) u) same_seats (subst (λ (u : List Cell). StandsBy v j history o.id o.explicit (done_acts o.explicit text true (reply.Changed L.count)) u seats2) same_cells together)

  -- ---- the table's own form: what is left to be shown is a law on rows alone

  module _ (def : TableDef) (defines : def_at (defs_of (tables_now stands_then)) c.id ≡ Some def) (same_columns : def.columns ≡ L.named.0.columns)
      (fit : Each (λ u. FitsSoFar def.columns u.values) cell2.versions) (keys_differ : KeysDiffer (key_places def.columns) (live cell2.versions)) where
    was_so : TableStands v cells1 seats1 stands_then.ledger cell1 def
    was_so = subst (StandsAs v cells1 seats1 stands_then.ledger cell1) defines (stands_then.tables_are_serial.tables i cell1 (ap table_found cell_out))

    sorted_so : (xs : List Index) → Each (IsSortedProjection (key_places def.columns) cell2.versions) (map (reordered (key_places L.named.0.columns) cell2.versions) xs)
    sorted_so [] = tt
    sorted_so (x ∷ xs) = (ap (λ (cols : List ColumnDef). index_order (key_places cols) x.ordinals cell2.versions) (sym same_columns), sorted_so xs)

    same_ordinals : (xs : List Index) → map (λ q. q.ordinals) (map (reordered (key_places L.named.0.columns) cell2.versions) xs) ≡ map (λ q. q.ordinals) xs
    same_ordinals [] = refl
    same_ordinals (x ∷ xs) = ap (λ (l : List (List ℕ)). x.ordinals ∷ l) (same_ordinals xs)

    stands_so : TableStandsThen
    stands_so = subst (StandsAs v cells2 seats2 stands_then.ledger cell2) (sym defines) (record {
      key = inr (ap key_places (sym same_columns));
      fit = fit;
      in_key_order = ap (λ (cols : List ColumnDef). map (λ w. w.start) (live_by_key cols None cell2.versions)) (sym same_columns);
      keys_differ = keys_differ;
      projections = sorted_so c.indexes;
      indexes = subst (AreIndexes v cells2 seats2 stands_then.ledger def) (sym (same_ordinals c.indexes))
          (indexes_then v cells1 seats1 stands_then j (sits s x1) x1 o1 text L.named false i cell1 L.row L.changes L.count changing def (map (λ q. q.ordinals) c.indexes) was_so.indexes);
    })

    -- INSERT, UPDATE and DELETE keep cells and seats together, where the rows that they leave fit and have different keys
    pub changes_rows : StandsBy v j history o.id o.explicit (done_acts o.explicit text true (reply.Changed L.count)) (set cells i (Rows d)) (set seats j t)
    changes_rows = changes stands_so

  -- ---- fit and keys, by those of the script

  columns : List ColumnDef
  columns = columns_at (defs_of (tables_now stands_then)) c.id

  abbrev x2 : Session
  x2 = ch.session_then v cells1 seats1 stands_then j (sits s x1) x1 o1 text L.named false i cell1 L.row L.changes L.count changing

  abbrev o2 : OpenTransaction
  o2 = ch.open_then v cells1 seats1 stands_then j (sits s x1) x1 o1 text L.named false i cell1 L.row L.changes L.count changing

  has_open1 : HasOpen seats1 j x1 o1
  has_open1 = ch.has_open v cells1 seats1 stands_then j (sits s x1) x1 o1 text L.named false i cell1 L.row L.changes L.count changing

  abbrev script_rows_after : List Version
  script_rows_after = ch.W_then v cells1 seats1 stands_then j (sits s x1) x1 o1 text L.named false i cell1 L.row L.changes L.count changing

  kept_there : KeptRows (place_in stands_then.ledger.items) columns script_rows_after
  unfolding columns
  kept_there = subst (λ (cols : List ColumnDef). KeptRows (place_in stands_then.ledger.items) cols script_rows_after)
      (ap (λ (ds : Defs). columns_at ds c.id) (ch.then_defs v cells1 seats1 stands_then j (sits s x1) x1 o1 text L.named false i cell1 L.row L.changes L.count changing))
      (subst (KeptRows (place_in stands_then.ledger.items) (columns_at (defs_of (script_end v (tables_now stands_then) x2 o2).state.tables) c.id))
      (ch.script_rows v cells1 seats1 stands_then j (sits s x1) x1 o1 text L.named false i cell1 L.row L.changes L.count changing)
      (kept_script v.reads stands_then.ledger.items stands_then.ledger_is_legal.legal o.id (elsewhere v cells1 seats1 stands_then j x1 o1 has_open1 L.at.at.unfixed) o.explicit (texts_so_far x2 o2) c.id))

  each_key : ByKey columns cell2.versions c.versions script_rows_after
  unfolding columns
  each_key key = ⊎_elim
      (λ (k : HasX (holds_at cells1 (cell_of c.id)) o.id key). inr (ch.owned v cells1 seats1 stands_then j (sits s x1) x1 o1 text L.named false i cell1 L.row L.changes L.count changing key k.hold k.has k.mine k.reaches))
      (λ (k : HasNoX (holds_at cells1 (cell_of c.id)) o.id key). inl (ch.left v cells1 seats1 stands_then j (sits s x1) x1 o1 text L.named false i cell1 L.row L.changes L.count changing key k))
      (has_x_or_not (holds_at cells1 (cell_of c.id)) o.id key)

  defines : IsDefined (defs_of (tables_now stands_then)) c.id
  defines = is_defined (defs_of (tables_now stands_then)) c.id (ch.Changing.defined changing)

  defined_columns : defines.def.columns ≡ L.named.0.columns
  defined_columns = defines.columns ∙ ch.Changing.columns changing

  was : TableStands v cells1 seats1 stands_then.ledger cell1 defines.def
  was = subst (StandsAs v cells1 seats1 stands_then.ledger cell1) defines.is (stands_then.tables_are_serial.tables i cell1 (ap table_found cell_out))

  formed : Each (λ u. FitsSoFar defines.def.columns u.values) cell2.versions × KeysDiffer (key_places defines.def.columns) (live cell2.versions)
  unfolding columns
  formed = subst (λ (cols : List ColumnDef). Each (λ u. FitsSoFar cols u.values) cell2.versions × KeysDiffer (key_places cols) (live cell2.versions)) (sym defines.columns)
      (kept_by_key columns cell2.versions c.versions script_rows_after each_key (place_in stands_then.ledger.items) kept_there
      (subst (λ (cols : List ColumnDef). Each (λ u. FitsSoFar cols u.values) c.versions) defines.columns was.fit)
      (subst (λ (cols : List ColumnDef). KeysDiffer (key_places cols) (live c.versions)) defines.columns was.keys_differ))

  -- INSERT, UPDATE and DELETE keep cells and seats together
  pub changes_stand : StandsBy v j history o.id o.explicit (done_acts o.explicit text true (reply.Changed L.count)) (set cells i (Rows d)) (set seats j t)
  changes_stand = changes_rows defines.def defines.is defined_columns formed.0 formed.1
