-- A transaction whose end is fixed undoes what it did in a table's cell, unless it is committed, and gives its locks there up: cells and seats
-- stand together.
use Rattle.std.proofs.Common.{◌≡◌, ◌≢◌, ◌⊎◌, ℕ, zero, suc, ◌≤◌, Bool, true, false, List, [], ◌∷◌, ◌++◌, map, length, set, Option, Some, None, refl, sym, ap, ◌∙◌, subst, inl, inr, ⊎_elim, arith}
use Rattle.std.proofs.lemmas.Bool.{cases_eq, eq-eqb, ne_eqb}
use Rattle.std.proofs.lemmas.Bool.Decides.{nat_tests}
use Rattle.std.proofs.lemmas.List.{length-map}
use Rattle.std.specs.Prelude.{not, nat_lt, if◌then◌else◌}
use Rattle.std.specs.List.{AllByRecursion, filter}
use mathlib.Core.Option.{some}
use lib.ListN.{get_elem?}
use Rattle.sql_value.specs.declared.column.ColumnDef.{ColumnDef}
use Rattle.sql_types.specs.declared.lock.Mode.TheVariants.{X}
use Rattle.sql_types.specs.declared.reply.Reply.{Reply}
use Rattle.sql_types.specs.declared.statement.Stmt.{Stmt}
use Rattle.sql_types.specs.declared.table.TableDef.{TableDef}
use Rattle.sql_types.specs.declared.table.IndexDef.{IndexDef}
use Rattle.sql_types.specs.declared.version.Version.{Version}
use Rattle.spec_model.specs.Rows.{EventId, value_or_null}
use Rattle.spec_model.specs.Keys.{Key, key_of, key_places, of_key}
use Rattle.spec_model.specs.Catalog.{Tables, defs_of, versions_of}
use Rattle.spec_model.specs.Journals.{Line, serial, upto}
use Rattle.spec_model.specs.Locks.{whole}
use Rattle.spec_model.specs.Agreement.{columns_at, IdsFrom}
use Rattle.spec_model.specs.ChangeSets.{change_set, defined}
use Rattle.spec_model.specs.Runs.{Rising, EndsBefore, MadeBefore}
use Rattle.spec_model.specs.Undo.{is_undone, end_left, end_undone, versions_undone}
use Rattle.spec_history.specs.Lists.{Text, Each, In}
use Rattle.spec_history.specs.Refusals.{EndsAt}
use Rattle.spec_history.specs.Transactions.{unfixed}
use Rattle.spec_history.proofs.Trace.{each_weaker}
use Rattle.law_journal.specs.Serial.{place_in}
use Rattle.spec_protocol.specs.Server.{Server}
use Rattle.sql_types.specs.declared.lock.Hold.{Hold}
use Rattle.spec_protocol.specs.Cells.{Creator, Index, TableCell, Cell, Rows, holds_at, versions_at, catalog_at, cell_of, AreCells}
use Rattle.spec_protocol.specs.Seats.{OpenTransaction, begun, found, made, going_back, replied, answering, refused, SessionStatus, between, inside, leaving, Session, session, SeatState}
use Rattle.spec_protocol.specs.OpenOnes.{HasOpen, text_at, script_so_far, script_end}
use Rattle.spec_protocol.specs.OpenScripts.{counted}
use Rattle.spec_protocol.specs.EventsIn.{events_in}
use Rattle.spec_protocol.specs.Moves.{releasing, at_place, sits}
use Rattle.spec_protocol.specs.RequestsIn.{requests_in, Holds, of_catalog}
use Rattle.spec_protocol.specs.UndoVisits.{undone_unless, refused_def, without_last, index_dropped, unlocked}
use Rattle.spec_protocol.specs.TablesAreSerial.{HasActed, def_at, ordinals_of, HasAdded, IsAdding, IsCarried}
use Rattle.spec_protocol.specs.LocksCover.{KeepsLocks, Belongs, HasIntent, LookedFirst, IsDropping, IsAfter}
use Rattle.spec_protocol.specs.StandTogether.{History, Stands}
use Rattle.law_protocol_steps.proofs.AfterSet.{set_here, set_else, each_at, all_at}
use Rattle.law_protocol_steps.proofs.SeatsAfter.{Goes, one_session, open_here, open_else, each_open}
use Rattle.law_protocol_steps.proofs.CellsAfter.{holds_else, table_changed}
use Rattle.law_protocol_steps.proofs.SameOne.{no_change, trees_same}
use Rattle.law_protocol_steps.proofs.Excluded.{HasX, HasNoX, has_x_or_not}
use Rattle.law_protocol_steps.proofs.SeatIds.{one_seat, outside}
use Rattle.law_protocol_tables.proofs.FixedOnes.{is_placed}
use Rattle.law_protocol_tables.proofs.Formed.{Formed, Left, is_committed, left_unless, dropped_as, sorted_less, last_dropped}
use Rattle.law_protocol_steps.proofs.DefsAfter.{found_id, found_columns, IndexMade, index_made}
use Rattle.law_protocol_tables.proofs.KeptNow.{KeptRows, kept_serial}
use Rattle.law_protocol_tables.proofs.LiveByKey.{ByKey, kept_by_key}
use Rattle.law_protocol_changes.proofs.ChangedRows.{undone_of_key, rising_undone, undone_untouched, undone_before, touched_agree, IsCounted, all_count, some_undone, counted_is, was_in}
use Rattle.law_protocol_changes.proofs.ChangeKeeps.{untouched, at_in, absent_others}
use Rattle.law_protocol_steps.proofs.Takes.{tables_now}
use Rattle.law_protocol_tables.proofs.Releases.{left_by, ReleasesTableLocks}
use Rattle.law_protocol_tables.proofs.Releases as rel
use Rattle.law_protocol_steps.proofs.VisitActs.{unmoved}
use Rattle.law_protocol_steps.proofs.TakesInTable.{table_place, cell_at}
use Rattle.sql_types.specs.declared.lock.LockRequest.{LockRequest}
use Rattle.spec_model.specs.Reach.{lets_change}
use Rattle.law_protocol_steps.proofs.CatalogAlone.{none_besides, alone}
use Rattle.law_protocol_changes.proofs.CommittedRows.{committed_undone}
use Rattle.law_frame.proofs.LegalSound.{legal_sound}
use Rattle.law_protocol_steps.proofs.OfCells.{LookedAt, AreDefinitions, AreIndexes, Creates, EndLiesUnder, GoesBack, HasItsTrees, HasLock, HasLooked, HoldsInCatalog, IsGotAt, IsIndexed, IsOfItsScript, IsUnderLocks, IsUnderWay, LiesUnder, LocksAgree, LocksCover, OpenScripts, SeatHas, StandsAs, TreesAreOfEvents, RequestsNone, committed, events_counted, in_journal, looked_now, looked_so, table_there}
use Rattle.law_protocol_changes.proofs.Apart.{x_apart}
use Rattle.spec_protocol.specs.Contents.{HasAlone, contents, table_found}
use Rattle.law_protocol_steps.proofs.FreshIds.{events_of_touched}
use Rattle.law_protocol_steps.proofs.GotMore.{got_at_more}
use Rattle.spec_model.specs.Holds.{released}
use Rattle.spec_model.specs.ScriptRequests.{text_requests}
use Rattle.spec_model.specs.Touched.{touched}

pub record Releasing (v : Server) (cells : List Cell) (seats : List SeatState) {history : History} (S : Stands v history cells seats) (j : ℕ) (s : SeatState) (x : Session) (o : OpenTransaction) (i : ℕ) (c d : TableCell) : Type 0 where
  pub there : get_elem? seats j ≡ some s
  pub role : s.role ≡ session x
  pub open_one : x.open_one ≡ Some o
  pub fixed : o.end ≢ unfixed
  pub out : get_elem? cells i ≡ some (Rows c)
  pub visited : In i o.visited
  pub not_yet : In i o.released → ⊥
  pub cell : d ≡ unlocked o.id (index_dropped (refused_def x.place) (undone_unless o.end o.id c))

-- ---- the place of a refused CREATE INDEX

pub record IsRefusedAt (place : SessionStatus) (def : TableDef) : Type 0 where
  pub text : Text
  pub reply : Reply
  pub is : place ≡ inside text (answering reply (Some def))

of_refused : (place : SessionStatus) (def : TableDef) → refused_def place ≡ Some def → IsRefusedAt place def
of_refused (inside text (answering reply (Some d))) def e = let same : d ≡ def = cc in subst (IsRefusedAt (inside text (answering reply (Some d)))) same (record { text = text; reply = reply; is = refl })
of_refused (inside text (answering reply None)) def e = cc
of_refused (inside text begun) def e = cc
of_refused (inside text (found named fresh)) def e = cc
of_refused (inside text (made d indexed)) def e = cc
of_refused (inside text (going_back seq cells)) def e = cc
of_refused (inside text (replied reply)) def e = cc
of_refused (inside text (refused reply)) def e = cc
of_refused between def e = cc
of_refused leaving def e = cc

-- who has added an index, and whose end is fixed, is refused with it
added_is : (o : OpenTransaction) → (place : SessionStatus) (after : TableDef) → o.end ≢ unfixed → HasAdded place o after → refused_def place ≡ Some after
added_is o (inside text (made def true)) after f h = absurd (f h.1)
added_is o (inside text (made def false)) after f h = absurd h
added_is o (inside text (answering reply (Some def))) after f h = ap (λ (q : TableDef). Some q) h
added_is o (inside text (answering reply None)) after f h = absurd h
added_is o (inside text begun) after f h = absurd h
added_is o (inside text (found named fresh)) after f h = absurd h
added_is o (inside text (going_back seq cells)) after f h = absurd h
added_is o (inside text (replied reply)) after f h = absurd h
added_is o (inside text (refused reply)) after f h = absurd h
added_is o between after f h = absurd h
added_is o leaving after f h = absurd h

left_is : (b : Bool) (tx : ℕ) (vs : List Version) → (if b then vs else versions_undone tx 0 vs) ≡ left_by b tx vs
left_is true tx vs = refl
left_is false tx vs = refl

dropped_is : (def : TableDef) (c : TableCell) (b : Bool) → def.id ≡ c.id → nat_lt (length c.indexes) (length def.indexes) ≡ b → (index_dropped (Some def) c).indexes ≡ (if b then c.indexes else without_last c.indexes)
dropped_is def c true e f = rw (eq-eqb def.id c.id e, f) refl
dropped_is def c false e f = rw (eq-eqb def.id c.id e, f) refl

not_dropped : (def : TableDef) (c : TableCell) → def.id ≢ c.id → (index_dropped (Some def) c).indexes ≡ c.indexes
not_dropped def c ne = rw (ne_eqb def.id c.id ne) refl

more_by_one : (m n : ℕ) → n ≡ suc m → nat_lt m n ≡ true
more_by_one m n e = grind (arith, nat_tests, e)

as_many : (m n : ℕ) → m ≡ n → nat_lt m n ≡ false
as_many m n e = grind (arith, nat_tests, e)

many_ordinals : (xs : List Index) (is : List IndexDef) → map (λ q. q.ordinals) xs ≡ ordinals_of is → length xs ≡ length is
many_ordinals xs is e = sym (length-map xs (λ (q : Index). q.ordinals)) ∙ ap (λ (l : List (List ℕ)). length l) e ∙ length-map is (λ (q : IndexDef). q.ordinals)

one_longer : (is : List IndexDef) (x : IndexDef) → length (is ++ x ∷ []) ≡ suc (length is)
one_longer [] x = refl
one_longer (y ∷ is) x = ap suc (one_longer is x)

ordinals_more : (is : List IndexDef) (x : IndexDef) → ordinals_of (is ++ x ∷ []) ≡ ordinals_of is ++ x.ordinals ∷ []
ordinals_more [] x = refl
ordinals_more (y ∷ is) x = ap (λ (l : List (List ℕ)). y.ordinals ∷ l) (ordinals_more is x)

module _ (v : Server) (cells : List Cell) (seats : List SeatState) {history : History} (S : Stands v history cells seats) (j : ℕ) (s : SeatState) (x : Session) (o : OpenTransaction) (i : ℕ) (c d : TableCell) (R : Releasing v cells seats S j s x o i c d) where
  abbrev T : Tables
  T = tables_now S

  abbrev placed : Bool
  placed = is_committed o.end

  abbrev undone_cell : TableCell
  undone_cell = undone_unless o.end o.id c

  left : Left o.id placed c undone_cell
  left = left_unless o.end o.id c

  -- what holds of the cell with and without its last index holds of what is left
  left_as : (P : TableCell → Type 0) → P undone_cell → ((xs : List Index) → P (record { id = undone_cell.id; key = undone_cell.key; versions = undone_cell.versions; order = undone_cell.order; indexes = xs; holds = undone_cell.holds })) → P (index_dropped (refused_def x.place) undone_cell)
  left_as P h k = dropped_as P undone_cell h (k _) (refused_def x.place)

  versions_left : d.versions ≡ left_by placed o.id c.versions
  versions_left = ap (λ (e : TableCell). e.versions) R.cell ∙ left_as (λ (e : TableCell). e.versions ≡ left_by placed o.id c.versions) (left.versions ∙ left_is placed o.id c.versions) (λ xs. left.versions ∙ left_is placed o.id c.versions)

  holds_left : d.holds ≡ released c.holds o.id
  holds_left = ap (λ (e : TableCell). e.holds) R.cell ∙ ap (λ (hs : List Hold). released hs o.id) (left_as (λ (e : TableCell). e.holds ≡ c.holds) left.holds (λ xs. left.holds))

  id_left : d.id ≡ c.id
  id_left = ap (λ (e : TableCell). e.id) R.cell ∙ left_as (λ (e : TableCell). e.id ≡ c.id) left.id (λ xs. left.id)

  has_open : HasOpen seats j x o
  has_open = record { seat = s; there = R.there; role = R.role; open_one = R.open_one }

  K : ReleasesTableLocks v cells seats S j s x o i c d placed
  K = record { there = R.there; role = R.role; open_one = R.open_one; fixed = R.fixed; out = R.out; is_placed = is_placed v cells seats S j x o has_open R.fixed; versions = versions_left; holds = holds_left }

  abbrev columns : List ColumnDef
  columns = columns_at (defs_of T) c.id

  abbrev p : OpenTransaction
  p = releasing i o

  abbrev y : Session
  y = at_place (Some p) x.place x

  abbrev C' : List Cell
  C' = set cells i (Rows d)

  abbrev seats' : List SeatState
  seats' = set seats j (sits s y)

  goes : Goes seats j (sits s y) x o y p
  goes = rel.goes v cells seats S j s x o i c d placed K

  here : cell_of c.id ≡ i
  here = rel.here v cells seats S j s x o i c d placed K

  not_catalog : catalog_at ≢ i
  not_catalog e = let q = (rel.at v cells seats S j s x o i c d placed K).is in omega arith

  rows_were : versions_at cells c.id ≡ c.versions
  rows_were = rel.rows_were v cells seats S j s x o i c d placed K

  rows_are : versions_at C' c.id ≡ d.versions
  rows_are = rel.rows_are v cells seats S j s x o i c d placed K ∙ sym versions_left

  rows_else : (id : ℕ) → cell_of id ≢ i → versions_at C' id ≡ versions_at cells id
  rows_else = rel.rows_else v cells seats S j s x o i c d placed K

  one_le : 1 ≤ c.id
  one_le = rel.one_le v cells seats S j s x o i c d placed K

  by_table : (P : ℕ → Type 0) → P c.id → ((id : ℕ) → 1 ≤ id → cell_of id ≢ i → P id) → (id : ℕ) → 1 ≤ id → P id
  by_table = rel.by_table v cells seats S j s x o i c d placed K

  was_held : (n : ℕ) (h : Hold) → In h (holds_at C' n) → In h (holds_at cells n)
  was_held = rel.was_held v cells seats S j s x o i c d placed K

  is_held : (n : ℕ) (h : Hold) → h.tx ≢ o.id → In h (holds_at cells n) → In h (holds_at C' n)
  is_held = rel.is_held v cells seats S j s x o i c d placed K

  same_holds : (n : ℕ) → n ≢ i → holds_at C' n ≡ holds_at cells n
  same_holds = holds_else cells i (Rows c) (Rows d) R.out

  catalog_holds : holds_at C' catalog_at ≡ holds_at cells catalog_at
  catalog_holds = same_holds catalog_at not_catalog

  not_mine_here : (h : Hold) → In h (holds_at C' i) → h.tx ≢ o.id
  not_mine_here h has = rel.not_mine v cells seats S j s x o i c d placed K h (subst (λ (n : ℕ). In h (holds_at C' n)) (sym here) has)

  -- another seat's transaction has another id
  other_id : (n : ℕ) (z : Session) (r : OpenTransaction) → n ≢ j → HasOpen seats n z r → r.id ≢ o.id
  other_id n z r ne h e = ne (one_seat v cells seats S n j z x r o h has_open e)

  -- ---- the rows of a key

  by_keys : ByKey columns d.versions c.versions (versions_of T c.id)
  by_keys key = ⊎_elim
      (λ (k : HasX (holds_at cells (cell_of c.id)) o.id key). inr (ap (of_key columns key) (versions_left ∙ ap (left_by placed o.id) (sym rows_were)) ∙ rel.given v cells seats S j s x o i c d placed K placed (is_placed v cells seats S j x o has_open R.fixed) key k))
      (λ (k : HasNoX (holds_at cells (cell_of c.id)) o.id key). inl (ap (of_key columns key) versions_left ∙ rel.kept v cells seats S j s x o i c d placed K placed (is_placed v cells seats S j x o has_open R.fixed) key k))
      (has_x_or_not (holds_at cells (cell_of c.id)) o.id key)

  -- ---- the events of another one

  abbrev seen : List Cell → Session → OpenTransaction → ℕ → List Version
  seen cs z r id = touched r.id (counted r.id id z.place (versions_at cs id))

  module _ (n : ℕ) (z : Session) (r : OpenTransaction) (ne : n ≢ j) (has : HasOpen seats n z r) (unfixed_too : r.end ≡ unfixed) where
    theirs_out : (m : ℕ) → in_journal S.ledger.items (r.id, m) ≡ false
    theirs_out m = outside v cells seats S n z r m has unfixed_too

    other_free : (key : Key) → HasX (holds_at cells (cell_of c.id)) o.id key → HasNoX (holds_at cells (cell_of c.id)) r.id key
    other_free key k h has_h m = by (lets_change key h.request) refl
      where
        by : (b : Bool) → lets_change key h.request ≡ b → b ≡ false
        by true e = absurd (x_apart v cells seats S (cell_of c.id) key k.hold h k.has has_h (λ q. other_id n z r ne has (sym m ∙ q ∙ k.mine)) k.reaches e)
        by false e = refl

    before_here : (key : Key) → HasX (holds_at cells (cell_of c.id)) o.id key → AllByRecursion (MadeBefore r.id 0) (of_key columns key c.versions)
    before_here key k = subst (λ (vs : List Version). AllByRecursion (MadeBefore r.id 0) (of_key columns key vs)) rows_were (untouched v cells seats S c.id one_le key r.id theirs_out (other_free key k))

    left_untouched : (b : Bool) (vs : List Version) → AllByRecursion (MadeBefore r.id 0) vs → AllByRecursion (MadeBefore r.id 0) (left_by b o.id vs)
    left_untouched true vs h = h
    left_untouched false vs h = undone_untouched r.id o.id 0 0 vs h

    left_key : (b : Bool) (key : Key) (vs : List Version) → of_key columns key (left_by b o.id vs) ≡ left_by b o.id (of_key columns key vs)
    left_key true key vs = refl
    left_key false key vs = sym (undone_of_key columns key o.id 0 vs)

    after_here : (key : Key) → HasX (holds_at cells (cell_of c.id)) o.id key → AllByRecursion (MadeBefore r.id 0) (of_key columns key d.versions)
    after_here key k = subst (AllByRecursion (MadeBefore r.id 0)) (sym (ap (of_key columns key) versions_left ∙ left_key placed key c.versions)) (left_untouched placed (of_key columns key c.versions) (before_here key k))

    their_keys : (f : List Version → List Version) → ((vs : List Version) → AllByRecursion (MadeBefore r.id 0) vs → AllByRecursion (MadeBefore r.id 0) (f vs)) → (key : Key)
        → (f (of_key columns key d.versions) ≡ f (of_key columns key c.versions)) ⊎ (AllByRecursion (MadeBefore r.id 0) (f (of_key columns key d.versions)) × AllByRecursion (MadeBefore r.id 0) (f (of_key columns key c.versions)))
    their_keys f keeps key = ⊎_elim
        (λ (k : HasX (holds_at cells (cell_of c.id)) o.id key). inr (keeps _ (after_here key k), keeps _ (before_here key k)))
        (λ (k : HasNoX (holds_at cells (cell_of c.id)) o.id key). inl (ap f (ap (of_key columns key) versions_left ∙ rel.kept v cells seats S j s x o i c d placed K placed (is_placed v cells seats S j x o has_open R.fixed) key k)))
        (has_x_or_not (holds_at cells (cell_of c.id)) o.id key)

    rising_before : Rising c.versions
    rising_before = subst Rising rows_were (S.rows_agree.rising c.id one_le)

    rising_after : Rising d.versions
    rising_after = subst Rising (sym versions_left) (rel.rising_left v cells seats S j s x o i c d placed K placed rising_before)

    their_seen : touched r.id (counted r.id c.id z.place d.versions) ≡ touched r.id (counted r.id c.id z.place c.versions)
    their_seen = by (counted_is r.id c.id z.place)
      where
        turned : (seq : ℕ) (key : Key) → (versions_undone r.id seq (of_key columns key d.versions) ≡ versions_undone r.id seq (of_key columns key c.versions)) ⊎ (AllByRecursion (MadeBefore r.id 0) (versions_undone r.id seq (of_key columns key d.versions)) × AllByRecursion (MadeBefore r.id 0) (versions_undone r.id seq (of_key columns key c.versions)))
            → (of_key columns key (versions_undone r.id seq d.versions) ≡ of_key columns key (versions_undone r.id seq c.versions)) ⊎ (AllByRecursion (MadeBefore r.id 0) (of_key columns key (versions_undone r.id seq d.versions)) × AllByRecursion (MadeBefore r.id 0) (of_key columns key (versions_undone r.id seq c.versions)))
        turned seq key (inl e) = inl (sym (undone_of_key columns key r.id seq d.versions) ∙ e ∙ undone_of_key columns key r.id seq c.versions)
        turned seq key (inr h) = inr (subst (AllByRecursion (MadeBefore r.id 0)) (undone_of_key columns key r.id seq d.versions) h.0, subst (AllByRecursion (MadeBefore r.id 0)) (undone_of_key columns key r.id seq c.versions) h.1)

        by : IsCounted r.id c.id z.place → touched r.id (counted r.id c.id z.place d.versions) ≡ touched r.id (counted r.id c.id z.place c.versions)
        by (all_count same) = ap (touched r.id) (same d.versions) ∙ touched_agree r.id columns d.versions c.versions rising_after rising_before (λ key. their_keys (λ vs. vs) (λ vs h. h) key) ∙ ap (touched r.id) (sym (same c.versions))
        by (some_undone seq to same) = ap (touched r.id) (same d.versions)
            ∙ touched_agree r.id columns (versions_undone r.id seq d.versions) (versions_undone r.id seq c.versions) (rising_undone r.id seq d.versions rising_after) (rising_undone r.id seq c.versions rising_before)
            (λ key. turned seq key (their_keys (versions_undone r.id seq) (undone_untouched r.id r.id seq 0) key))
            ∙ ap (touched r.id) (sym (same c.versions))

    seen_stays : (id : ℕ) → 1 ≤ id → seen C' z r id ≡ seen cells z r id
    seen_stays = by_table (λ id. seen C' z r id ≡ seen cells z r id)
        (ap (λ (vs : List Version). touched r.id (counted r.id c.id z.place vs)) rows_are ∙ their_seen ∙ ap (λ (vs : List Version). touched r.id (counted r.id c.id z.place vs)) (sym rows_were))
        (λ id l q. ap (λ (vs : List Version). touched r.id (counted r.id id z.place vs)) (rows_else id q))

    events_all : (id : ℕ) → events_counted C' z r id ≡ events_counted cells z r id
    events_all zero = ap (λ (vs : List Version). events_in r.id 0 (counted r.id 0 z.place vs)) (rows_else 0 (λ e. let q = (rel.at v cells seats S j s x o i c d placed K).is in omega (arith, e, q)))
    events_all (suc m) = events_of_touched r.id (suc m) _ ∙ ap (events_in r.id (suc m)) (seen_stays (suc m) (omega arith)) ∙ sym (events_of_touched r.id (suc m) _)

  scripts : OpenScripts v C' S.ledger seats'
  scripts = each_open seats j (sits s y) x o y p goes (λ n z r. r.end ≡ unfixed → IsOfItsScript v C' T z r)
      (λ e. absurd (R.fixed e))
      (λ n z r ne h e. let was = S.open_scripts n z r h e in record { replies = was.replies; versions = λ id l. seen_stays n z r ne h e id l ∙ was.versions id l; counter = was.counter; alone = was.alone })

  trees : TreesAreOfEvents v C' S.ledger seats'
  trees = each_open seats j (sits s y) x o y p goes (λ n z r. r.end ≡ unfixed → HasItsTrees v C' S.ledger z r)
      (λ e. absurd (R.fixed e))
      (λ n z r ne h e. let was = S.trees_are_of_events n z r h e in record { trees = trees_same z r z r (no_change z r) v (events_counted cells z r) (events_counted C' z r) r.trees (events_all n z r ne h e) was.trees; open_savepoints = was.open_savepoints })

  -- ---- locks

  open_now : HasOpen seats' j y p
  open_now = open_here seats j (sits s y) x o y p goes

  lock_was : (n id : ℕ) → HasLock C' n id → HasLock cells n id
  lock_was n id l = record { hold = l.hold; has = was_held n l.hold l.has; mine = l.mine }

  catalog_lock : (id : ℕ) → HasLock cells catalog_at id → HasLock C' catalog_at id
  catalog_lock id l = record { hold = l.hold; has = subst (In l.hold) (sym catalog_holds) l.has; mine = l.mine }

  still_held : (n id : ℕ) (w : LockRequest) → id ≢ o.id → Holds (holds_at cells n) id w → Holds (holds_at C' n) id w
  still_held n id w ne h = record { hold = h.hold; has = is_held n h.hold (λ e. ne (sym h.mine ∙ e)) h.has; mine = h.mine; item = h.item; mode = h.mode }

  belongs_then : (n : ℕ) (h : Hold) → In h (holds_at C' n) → Belongs seats n h → Belongs seats' n h
  belongs_then n h has b = ⊎_elim
      (λ (e : b.j ≡ j).
      let same = one_session seats j b.x x b.o o (subst (λ (m : ℕ). HasOpen seats m b.x b.o) e b.has) has_open in
      let mine : o.id ≡ h.tx = ap (λ (q : OpenTransaction). q.id) (sym same.1) ∙ b.mine in
      record {
        j = j;
        x = y;
        o = p;
        has = open_now;
        mine = mine;
        only = λ m z r g q. only m z r g q ∙ e;
        visited = subst (λ (q : OpenTransaction). In n q.visited) same.1 b.visited;
        unreleased = λ q. ⊎_elim (λ (f : i ≡ n). not_mine_here h (subst (λ (m : ℕ). In h (holds_at C' m)) (sym f) has) (sym mine)) (λ (f : In n o.released). b.unreleased (subst (λ (u : OpenTransaction). In n u.released) (sym same.1) f)) q;
      })
      (λ (ne : b.j ≢ j). record { j = b.j; x = b.x; o = b.o; has = open_else seats j (sits s y) x o y p goes b.j b.x b.o ne b.has; mine = b.mine; only = only; visited = b.visited; unreleased = b.unreleased })
      (cases_eq b.j j)
    where
      only : (m : ℕ) (z : Session) (r : OpenTransaction) → HasOpen seats' m z r → r.id ≡ h.tx → m ≡ b.j
      only = each_open seats j (sits s y) x o y p goes (λ m z r. r.id ≡ h.tx → m ≡ b.j) (λ e. b.only j x o has_open e) (λ m z r ne g e. b.only m z r g e)

  intent_stays : (n : ℕ) (h : Hold) → In h (holds_at C' n) → HasIntent (holds_at cells n) h → HasIntent (holds_at C' n) h
  intent_stays n h has t = ⊎_elim
      (λ (e : n ≡ i). let ne : h.tx ≢ o.id = not_mine_here h (subst (λ (m : ℕ). In h (holds_at C' m)) e has) in
      record { hold = t.hold; has = is_held n t.hold (λ q. ne (sym t.mine ∙ q)) t.has; mine = t.mine; whole = t.whole; mode = t.mode })
      (λ (ne : n ≢ i). record { hold = t.hold; has = subst (In t.hold) (sym (same_holds n ne)) t.has; mine = t.mine; whole = t.whole; mode = t.mode })
      (cases_eq n i)

  -- its versions are the journal's, or gone
  gone_left : (b : Bool) (w : Version) → In w (left_by b o.id c.versions) → b ≡ false → MadeBefore o.id 0 w
  gone_left true w h e = cc
  gone_left false w h e = at_in (MadeBefore o.id 0) (versions_undone o.id 0 c.versions) w (undone_before o.id 0 c.versions) h

  lies_then : (id : ℕ) (w : Version) (e : EventId) → e.0 ≢ o.id → LiesUnder cells T id w e → LiesUnder C' T id w e
  lies_then id w e ne u = record { hold = u.hold; has = is_held (cell_of id) u.hold (λ q. ne (sym u.mine ∙ q)) u.has; mine = u.mine; reaches = u.reaches }

  -- elsewhere its locks stay
  lies_else : (id : ℕ) (w : Version) (e : EventId) → cell_of id ≢ i → LiesUnder cells T id w e → LiesUnder C' T id w e
  lies_else id w e ne u = record { hold = u.hold; has = subst (In u.hold) (sym (same_holds (cell_of id) ne)) u.has; mine = u.mine; reaches = u.reaches }

  end_else : (id : ℕ) (w : Version) (e : Option EventId) → cell_of id ≢ i → EndLiesUnder v cells S.ledger id w e → EndLiesUnder v C' S.ledger id w e
  end_else id w None ne u = tt
  end_else id w (Some e) ne u = λ q. lies_else id w e ne (u q)

  -- what was said of a version that is left
  module _ (w : Version) (there : In w d.versions) where
    is_out : (e : EventId) → in_journal S.ledger.items e ≡ false → e.0 ≡ o.id → placed ≡ false
    is_out e q m = sym (is_placed v cells seats S j x o has_open R.fixed e.1) ∙ ap (λ (n : ℕ). in_journal S.ledger.items (n, e.1)) (sym m) ∙ q

    no_event : placed ≡ false → MadeBefore o.id 0 w
    no_event q = gone_left placed w (subst (In w) versions_left there) q

    start_other : in_journal S.ledger.items w.start ≡ false → w.start.0 ≢ o.id
    start_other q m = let l = (no_event (is_out w.start q m)).start m in omega arith

    end_other : (e : EventId) → w.end ≡ Some e → in_journal S.ledger.items e ≡ false → e.0 ≢ o.id
    end_other e is q m = let b : EndsBefore o.id 0 (Some e) = subst (EndsBefore o.id 0) is (no_event (is_out e q m)).end in let l = b m in omega arith

  -- a version that is left was there, but for an end that was undone
  pub record Was (w : Version) : Type 0 where
    pub was : Version
    pub there : In was c.versions
    pub values : w.values ≡ was.values
    pub start : w.start ≡ was.start
    pub end : (w.end ≡ None) ⊎ (w.end ≡ was.end)

  was_mapped : (w : Version) (vs : List Version) → ((u : Version) → In u vs → In u c.versions) → In w (map (end_undone o.id 0) vs) → Was w
  was_mapped w [] all h = absurd h
  was_mapped w (u ∷ us) all h = ⊎_elim
      (λ (e : end_undone o.id 0 u ≡ w). record { was = u; there = all u (inl refl); values = ap (λ (q : Version). q.values) (sym e); start = ap (λ (q : Version). q.start) (sym e); end = ⊎_elim (λ (q : end_left o.id 0 u.end ≡ None). inl (ap (λ (r : Version). r.end) (sym e) ∙ q)) (λ (q : end_left o.id 0 u.end ≡ u.end). inr (ap (λ (r : Version). r.end) (sym e) ∙ q)) (end_or_not u.end) })
      (λ (k : In w (map (end_undone o.id 0) us)). was_mapped w us (λ q m. all q (inr m)) k)
      h
    where
      end_or_not : (e : Option EventId) → (end_left o.id 0 e ≡ None) ⊎ (end_left o.id 0 e ≡ e)
      end_or_not None = inl refl
      end_or_not (Some e) = by (is_undone o.id 0 e)
        where
          by : (b : Bool) → ((if b then None else Some e) ≡ None) ⊎ ((if b then None else Some e) ≡ Some e)
          by true = inl refl
          by false = inr refl

  was_by : (b : Bool) (w : Version) → In w (left_by b o.id c.versions) → Was w
  was_by true w h = record { was = w; there = h; values = refl; start = refl; end = inr refl }
  was_by false w h = was_mapped w (filter (λ u. not (is_undone o.id 0 u.start)) c.versions) (λ u m. was_in (λ q. not (is_undone o.id 0 q.start)) u c.versions m) h

  under_was : (w u : Version) (e : EventId) → w.values ≡ u.values → LiesUnder cells T c.id u e → LiesUnder cells T c.id w e
  under_was w u e same h = record { hold = h.hold; has = h.has; mine = h.mine; reaches = ap (λ vs. lets_change (key_of columns (map value_or_null vs)) h.hold.request) same ∙ h.reaches }

  one_under : (w : Version) → In w d.versions → IsUnderLocks v C' S.ledger c.id w
  one_under w there =
      let k = was_by placed w (subst (In w) versions_left there) in
      let old = each_at (IsUnderLocks v cells S.ledger c.id) c.versions k.was (subst (Each (IsUnderLocks v cells S.ledger c.id)) rows_were (S.locks_cover.under c.id one_le)) k.there in
      record {
        start = λ q. lies_then c.id w w.start (start_other w there q) (under_was w k.was w.start k.values (subst (LiesUnder cells T c.id k.was) (sym k.start) (old.start (ap (in_journal S.ledger.items) (sym k.start) ∙ q))));
        end = end_by k.was k.values k.end old.end (w.end) refl;
      }
    where
      end_by : (u : Version) → w.values ≡ u.values → (w.end ≡ None) ⊎ (w.end ≡ u.end) → EndLiesUnder v cells S.ledger c.id u u.end → (e : Option EventId) → w.end ≡ e → EndLiesUnder v C' S.ledger c.id w e
      end_by u same k h None is = tt
      end_by u same k h (Some e) is = λ q. lies_then c.id w e (end_other w there e is q) (under_was w u e same (⊎_elim
          (λ (z : w.end ≡ None). absurd (let f : Some e ≡ None = sym is ∙ z in cc))
          (λ (z : w.end ≡ u.end). let f : EndLiesUnder v cells S.ledger c.id u (Some e) = subst (EndLiesUnder v cells S.ledger c.id u) (sym z ∙ is) h in f q)
          k))

  under_then : (id : ℕ) → 1 ≤ id → Each (IsUnderLocks v C' S.ledger id) (versions_at C' id)
  under_then = by_table (λ id. Each (IsUnderLocks v C' S.ledger id) (versions_at C' id))
      (subst (Each (IsUnderLocks v C' S.ledger c.id)) (sym rows_are) (all_at (IsUnderLocks v C' S.ledger c.id) d.versions one_under))
      (λ id l ne. subst (Each (IsUnderLocks v C' S.ledger id)) (sym (rows_else id ne))
      (each_weaker (IsUnderLocks v cells S.ledger id) (IsUnderLocks v C' S.ledger id) (λ w u. record { start = λ q. lies_else id w w.start ne (u.start q); end = end_else id w w.end ne u.end }) (versions_at cells id) (S.locks_cover.under id l)))

  looked_then : (place : SessionStatus) (r : OpenTransaction) → HoldsInCatalog v cells T place r → HoldsInCatalog v C' T place r
  looked_then place r h = record { lock = catalog_lock r.id h.lock; requests = λ u e. subst (λ (hs : List Hold). Each (Holds hs r.id) (of_catalog (text_requests (defs_of T) r.explicit (v.reads u)).catalog)) (sym catalog_holds) (h.requests u e) }

  cover_here : (n : ℕ) → KeepsLocks p n → Each (λ l. Each (Holds (holds_at C' n) p.id) (requests_in v (defs_of T) p.explicit n l.0)) (script_so_far y p)
  cover_here n u = subst (λ (hs : List Hold). Each (λ l. Each (Holds hs o.id) (requests_in v (defs_of T) o.explicit n l.0)) (script_so_far x o)) (sym (same_holds n (λ e. u.0 (inl (sym e)))))
      (S.locks_cover.cover j x o has_open n (λ k. u.0 (inr k), λ k. u.1 (inr k)))

  dropping_here : (place : SessionStatus) → IsDropping place p → IsDropping place o
  dropping_here (inside text (answering reply (Some def))) h = (h.0, λ k. h.1 (inr k))
  dropping_here (inside text (answering reply None)) h = absurd h
  dropping_here (inside text begun) h = absurd h
  dropping_here (inside text (found named fresh)) h = absurd h
  dropping_here (inside text (made d indexed)) h = absurd h
  dropping_here (inside text (going_back seq cells)) h = absurd h
  dropping_here (inside text (replied reply)) h = absurd h
  dropping_here (inside text (refused reply)) h = absurd h
  dropping_here between h = absurd h
  dropping_here leaving h = absurd h

  covered : LocksCover v C' S.ledger seats'
  covered = record {
    belong = λ n h has. belongs_then n h has (S.locks_cover.belong n h (was_held n h has));
    unreleased = each_open seats j (sits s y) x o y p goes (λ n z r. r.end ≡ unfixed → r.released ≡ []) (λ e. absurd (R.fixed e)) (λ n z r ne h. S.locks_cover.unreleased n z r h);
    intents = λ n h has m. intent_stays n h has (S.locks_cover.intents n h (was_held n h has) m);
    looked = each_open seats j (sits s y) x o y p goes (λ n z r. r.end ≡ unfixed → LookedAt v C' T z.place r) (λ e. absurd (R.fixed e)) (λ n z r ne h e. looked_so v C' T r z.place (λ l. looked_then z.place r (looked_now v cells T r z.place (S.locks_cover.looked n z r h e) l)));
    on_whole = λ h has. S.locks_cover.on_whole h (was_held catalog_at h has);
    looked_first = each_open seats j (sits s y) x o y p goes (λ n z r. r.end ≡ unfixed → LookedFirst z.place → RequestsNone v C' T r) (λ e. absurd (R.fixed e))
        (λ n z r ne h e f. let was = S.locks_cover.looked_first n z r h e f in record { before = was.before; shares = λ h has m. was.shares h (was_held catalog_at h has) m; elsewhere = λ m l. was.elsewhere m (lock_was (suc m) r.id l) });
    cover = each_open seats j (sits s y) x o y p goes (λ n z r. (m : ℕ) → KeepsLocks r m → Each (λ l. Each (Holds (holds_at C' m) r.id) (requests_in v (defs_of T) r.explicit m l.0)) (script_so_far z r)) cover_here
        (λ n z r ne h m u. each_weaker (λ (l : Line). Each (Holds (holds_at cells m) r.id) (requests_in v (defs_of T) r.explicit m l.0)) (λ (l : Line). Each (Holds (holds_at C' m) r.id) (requests_in v (defs_of T) r.explicit m l.0))
        (λ l. each_weaker (Holds (holds_at cells m) r.id) (Holds (holds_at C' m) r.id) (λ w. still_held m r.id w (other_id n z r ne h)) (requests_in v (defs_of T) r.explicit m l.0)) (script_so_far z r) (S.locks_cover.cover n z r h m u));
    catalog = λ n id l. catalog_lock id (S.locks_cover.catalog n id (lock_was (suc n) id l));
    definitions = λ n z r m h e l. each_open seats j (sits s y) x o y p goes (λ n z r. (m : ℕ) → EndsAt r.end m → HasLock C' catalog_at r.id → defs_of T ≡ defs_of (serial v.reads (upto S.ledger.items m)))
        (λ m e l. S.locks_cover.definitions j x o m has_open e (lock_was catalog_at o.id l))
        (λ n z r ne h m e l. S.locks_cover.definitions n z r m h e (lock_was catalog_at r.id l)) n z r h m e l;
    got = each_open seats j (sits s y) x o y p goes (λ n z r. HasLock C' catalog_at r.id → IsGotAt v C' T r.id (not (in_journal S.ledger.items (r.id, 0))) z.place) (λ l. got_at_more v T (HasAlone (contents cells) o.id) (HasAlone (contents C') o.id) (not (in_journal S.ledger.items (o.id, 0))) (subst (In _) (sym catalog_holds)) x.place (S.locks_cover.got j x o has_open (lock_was catalog_at o.id l)))
        (λ n z r ne h l. got_at_more v T (HasAlone (contents cells) r.id) (HasAlone (contents C') r.id) (not (in_journal S.ledger.items (r.id, 0))) (subst (In _) (sym (catalog_holds))) z.place (S.locks_cover.got n z r h (lock_was catalog_at r.id l)));
    dropping = each_open seats j (sits s y) x o y p goes (λ n z r. IsDropping z.place r → In (record { tx = r.id; request = whole X }) (holds_at C' catalog_at))
        (λ h. subst (In _) (sym catalog_holds) (S.locks_cover.dropping j x o has_open (dropping_here x.place h)))
        (λ n z r ne g h. subst (In _) (sym catalog_holds) (S.locks_cover.dropping n z r g h));
    under = under_then;
  }

  agree : LocksAgree C' seats'
  agree m n k a b ne f g = S.locks_agree m n k a b ne (had m n a f) (had m k b g)
    where
      had : (m n : ℕ) (h : Hold) → SeatHas C' seats' m n h → SeatHas cells seats m n h
      had m n h q = each_open seats j (sits s y) x o y p goes (λ n z r. r.id ≡ h.tx → SeatHas cells seats m n h)
          (λ e. record { x = x; o = o; open_one = has_open; lock = was_held m h q.lock; mine = e })
          (λ n z r ne u e. record { x = z; o = r; open_one = u; lock = was_held m h q.lock; mine = e })
          n q.x q.o q.open_one q.mine

  -- ---- tables

  creates_after : (z : Session) (stmt : Stmt) → (k : Creates v cells seats S.ledger z stmt) → (u : Session) × (e : Creates v C' seats' S.ledger u stmt) × (e.o.id ≡ k.o.id)
  creates_after z stmt k = ⊎_elim
      (λ (e : k.j ≡ j).
      let same = one_session seats j z x k.o o (subst (λ (n : ℕ). HasOpen seats n z k.o) e k.has) has_open in
      let id : o.id ≡ k.o.id = ap (λ (r : OpenTransaction). r.id) (sym same.1) in (
        y,
        record {
          j = j;
          o = p;
          has = open_now;
          own = ap (λ (r : OpenTransaction). r.explicit) (sym same.1) ∙ k.own;
          outside = subst (λ (n : ℕ). in_journal S.ledger.items (n, 0) ≡ false) (sym id) k.outside;
          text = k.text;
          stands = ap (λ (u : Session). text_at u.place) (sym same.0) ∙ k.stands;
          is = k.is;
          creates = k.creates;
          acted = subst (λ (u : Session). HasActed u.place) same.0 k.acted;
          exclusive = subst (In _) (sym catalog_holds) (subst (λ (n : ℕ). In (record { tx = n; request = whole X }) (holds_at cells catalog_at)) (sym id) k.exclusive);
        },
        id,
      ))
      (λ (ne : k.j ≢ j). (z, record { j = k.j; o = k.o; has = open_else seats j (sits s y) x o y p goes k.j z k.o ne k.has; own = k.own; outside = k.outside; text = k.text; stands = k.stands; is = k.is; creates = k.creates; acted = k.acted; exclusive = subst (In _) (sym catalog_holds) k.exclusive }, refl))
      (cases_eq k.j j)

  definitions_then : AreDefinitions v C' seats' S.ledger S.catalog.defs S.catalog.creator
  definitions_then = ⊎_elim (λ (e : S.catalog.defs ≡ defs_of T). inl e)
      (λ (u : IsUnderWay v cells seats S.ledger S.catalog.defs S.catalog.creator). let n = creates_after u.x u.stmt u.by in
      inr (record { x = n.0; stmt = u.stmt; by = n.1; has_creator = u.has_creator ∙ ap (λ (m : ℕ). Some (record { tx = m; before = defs_of T })) (sym n.2); is = u.is })) S.tables_are_serial.definitions

  creator_then : (k : Creator) → S.catalog.creator ≡ Some k → GoesBack v C' S.ledger k
  creator_then k e = let was = S.tables_are_serial.goes_back k e in record { exclusive = subst (In _) (sym catalog_holds) was.exclusive; before = was.before }

  -- in a cell where it has added no index, or in another one
  adding_after : (z : Session) (stmt : Stmt) (after : TableDef) (id : ℕ) → (cell_of id ≢ i) ⊎ ((HasAdded x.place o after) → ⊥) → (k : Creates v cells seats S.ledger z stmt) → IsAdding z.place k.o after (cell_of id)
      → (u : Session) × (e : Creates v C' seats' S.ledger u stmt) × IsAdding u.place e.o after (cell_of id)
  adding_after z stmt after id here k a = ⊎_elim
      (λ (e : k.j ≡ j).
      let same = one_session seats j z x k.o o (subst (λ (n : ℕ). HasOpen seats n z k.o) e k.has) has_open in
      let id_is : o.id ≡ k.o.id = ap (λ (r : OpenTransaction). r.id) (sym same.1) in
      let b : IsAdding x.place o after (cell_of id) = subst (λ (u : Session). IsAdding u.place o after (cell_of id)) same.0 (subst (λ (r : OpenTransaction). IsAdding z.place r after (cell_of id)) same.1 a) in (
        y,
        record {
          j = j;
          o = p;
          has = open_now;
          own = ap (λ (r : OpenTransaction). r.explicit) (sym same.1) ∙ k.own;
          outside = subst (λ (n : ℕ). in_journal S.ledger.items (n, 0) ≡ false) (sym id_is) k.outside;
          text = k.text;
          stands = ap (λ (u : Session). text_at u.place) (sym same.0) ∙ k.stands;
          is = k.is;
          creates = k.creates;
          acted = subst (λ (u : Session). HasActed u.place) same.0 k.acted;
          exclusive = subst (In _) (sym catalog_holds) (subst (λ (n : ℕ). In (record { tx = n; request = whole X }) (holds_at cells catalog_at)) (sym id_is) k.exclusive);
        },
        record { added = still_added x.place after b.added; visited = b.visited; unreleased = λ h. ⊎_elim (λ (q : i ≡ cell_of id). ⊎_elim (λ (f : cell_of id ≢ i). f (sym q)) (λ (f : HasAdded x.place o after → ⊥). f b.added) here) (λ (q : In (cell_of id) o.released). b.unreleased q) h },
      ))
      (λ (ne : k.j ≢ j). (z, record { j = k.j; o = k.o; has = open_else seats j (sits s y) x o y p goes k.j z k.o ne k.has; own = k.own; outside = k.outside; text = k.text; stands = k.stands; is = k.is; creates = k.creates; acted = k.acted; exclusive = subst (In _) (sym catalog_holds) k.exclusive }, a))
      (cases_eq k.j j)
    where
      still_added : (place : SessionStatus) (after : TableDef) → HasAdded place o after → HasAdded place p after
      still_added (inside text (made def true)) after h = h
      still_added (inside text (made def false)) after h = h
      still_added (inside text (answering reply (Some def))) after h = h
      still_added (inside text (answering reply None)) after h = h
      still_added (inside text begun) after h = h
      still_added (inside text (found named fresh)) after h = h
      still_added (inside text (going_back seq cells)) after h = h
      still_added (inside text (replied reply)) after h = h
      still_added (inside text (refused reply)) after h = h
      still_added between after h = h
      still_added leaving after h = h

  indexes_after : (def : TableDef) (xs : List (List ℕ)) → ((after : TableDef) → after.id ≡ def.id → (cell_of def.id ≢ i) ⊎ (HasAdded x.place o after → ⊥)) → AreIndexes v cells seats S.ledger def xs → AreIndexes v C' seats' S.ledger def xs
  indexes_after def xs here h = ⊎_elim (λ (e : xs ≡ ordinals_of def.indexes). inl e)
      (λ (k : (z : Session) × (stmt : Stmt) × (after : TableDef) × (by : Creates v cells seats S.ledger z stmt) × (def_at (defs_of (defined (change_set T stmt).definition T)) def.id ≡ Some after) × (xs ≡ ordinals_of after.indexes) × IsAdding z.place by.o after (cell_of def.id)).
      let n = adding_after k.0 k.1 k.2 def.id (here k.2 (found_id (defs_of (defined (change_set T k.1).definition T)) def.id k.2 k.4)) k.3 k.6 in inr (n.0, k.1, k.2, n.1, k.4, k.5, n.2)) h

  -- ---- the index of a refused CREATE INDEX

  abbrev Ordinals : TableCell → List (List ℕ)
  Ordinals e = map (λ q. q.ordinals) e.indexes

  ordinals_are : Ordinals d ≡ Ordinals (index_dropped (refused_def x.place) undone_cell)
  ordinals_are = ap Ordinals R.cell

  module _ (rdef : TableDef) (at : IsRefusedAt x.place rdef) (this : rdef.id ≡ c.id) where
    cell_this : cell_of rdef.id ≡ i
    cell_this = ap cell_of this ∙ here

    exclusive : In (record { tx = o.id; request = whole X }) (holds_at cells catalog_at)
    exclusive = S.locks_cover.dropping j x o has_open (subst (λ (q : SessionStatus). IsDropping q o) (sym at.is)
        (subst (λ (n : ℕ). In n o.visited) (sym cell_this) R.visited, λ k. R.not_yet (subst (λ (n : ℕ). In n o.released) cell_this k)))

    got_here : ((not (in_journal S.ledger.items (o.id, 0))) ≡ true) × IsAfter T (v.reads at.text) rdef × HasAlone (contents cells) o.id
    got_here = subst (IsGotAt v cells T o.id (not (in_journal S.ledger.items (o.id, 0)))) at.is (S.locks_cover.got j x o has_open (record { hold = record { tx = o.id; request = whole X }; has = exclusive; mine = refl }))

    out_of : in_journal S.ledger.items (o.id, 0) ≡ false
    out_of = by (in_journal S.ledger.items (o.id, 0)) got_here.0
      where
        by : (b : Bool) → not b ≡ true → b ≡ false
        by true e = cc
        by false e = refl

    ids : IdsFrom 1 (defs_of T)
    ids = (legal_sound v.reads S.ledger.items o.id S.ledger_is_legal.legal (absent_others S.ledger.items o.id out_of)).ids

    module _ (stmt : Stmt) (reads : v.reads at.text ≡ Some stmt) (def : TableDef) (defines : def_at (defs_of T) c.id ≡ Some def) where
      is_made : IndexMade T stmt rdef
      is_made = index_made T stmt rdef ids (subst (λ (q : Option Stmt). IsAfter T q rdef) reads got_here.1)

      old_is : is_made.old ≡ def
      old_is = let e : Some is_made.old ≡ Some def = sym is_made.at ∙ ap (def_at (defs_of T)) this ∙ defines in cc

      indexes_more : rdef.indexes ≡ def.indexes ++ is_made.index ∷ []
      indexes_more = ap (λ (q : TableDef). q.indexes) is_made.is ∙ ap (λ (q : TableDef). q.indexes ++ is_made.index ∷ []) old_is

      longer : length rdef.indexes ≡ suc (length def.indexes)
      longer = ap (λ (l : List IndexDef). length l) indexes_more ∙ one_longer def.indexes is_made.index

      same_cell : rdef.id ≡ undone_cell.id
      same_cell = this ∙ sym left.id

      -- it has none besides
      none_more : Ordinals c ≡ ordinals_of def.indexes → Ordinals d ≡ ordinals_of def.indexes
      none_more e = ordinals_are ∙ ap (λ (r : Option TableDef). Ordinals (index_dropped r undone_cell)) (ap refused_def at.is)
          ∙ ap (map (λ (q : Index). q.ordinals)) (dropped_is rdef undone_cell true same_cell (more_by_one _ _ (longer ∙ ap suc (sym (many_ordinals c.indexes def.indexes e) ∙ sym left.count))))
          ∙ left.ordinals ∙ e

      -- or its own
      one_more : Ordinals c ≡ ordinals_of rdef.indexes → Ordinals d ≡ ordinals_of def.indexes
      one_more e = ordinals_are ∙ ap (λ (r : Option TableDef). Ordinals (index_dropped r undone_cell)) (ap refused_def at.is)
          ∙ ap (map (λ (q : Index). q.ordinals)) (dropped_is rdef undone_cell false same_cell (as_many _ _ (left.count ∙ many_ordinals c.indexes rdef.indexes e)))
          ∙ last_dropped undone_cell.indexes (ordinals_of def.indexes) is_made.index.ordinals (left.ordinals ∙ e ∙ ap ordinals_of indexes_more ∙ ordinals_more def.indexes is_made.index)

      -- the statement under way is this one
      its_own : (z : Session) (st : Stmt) → (k : Creates v cells seats S.ledger z st) → st ≡ stmt
      its_own z st k =
          let same_id : k.o.id ≡ o.id = none_besides v cells seats S o.id exclusive (record { tx = k.o.id; request = whole X }) k.exclusive in
          let same_seat : k.j ≡ j = one_seat v cells seats S k.j j z x k.o o k.has has_open same_id in
          let alike = one_session seats j z x k.o o (subst (λ (n : ℕ). HasOpen seats n z k.o) same_seat k.has) has_open in
          let texts : Some k.text ≡ Some at.text = sym k.stands ∙ ap (λ (u : Session). text_at u.place) alike.0 ∙ ap text_at at.is in
          let one : k.text ≡ at.text = cc in
          let stmts : Some st ≡ Some stmt = sym k.is ∙ ap v.reads one ∙ reads in cc

      after_is : (st : Stmt) (after : TableDef) → st ≡ stmt → def_at (defs_of (defined (change_set T st).definition T)) def.id ≡ Some after → after ≡ rdef
      after_is st after e h = let q : Some after ≡ Some rdef = sym h ∙ ap (λ (u : Stmt). def_at (defs_of (defined (change_set T u).definition T)) def.id) e
          ∙ ap (def_at (defs_of (defined (change_set T stmt).definition T))) (found_id (defs_of T) c.id def defines ∙ sym this) ∙ is_made.then_at in cc

      dropped : AreIndexes v cells seats S.ledger def (Ordinals c) → Ordinals d ≡ ordinals_of def.indexes
      dropped h = ⊎_elim (λ (e : Ordinals c ≡ ordinals_of def.indexes). none_more e)
          (λ (k : (z : Session) × (st : Stmt) × (after : TableDef) × (by : Creates v cells seats S.ledger z st) × (def_at (defs_of (defined (change_set T st).definition T)) def.id ≡ Some after) × (Ordinals c ≡ ordinals_of after.indexes) × IsAdding z.place by.o after (cell_of def.id)).
          one_more (k.5 ∙ ap (λ (q : TableDef). ordinals_of q.indexes) (after_is k.1 k.2 (its_own k.0 k.1 k.3) k.4))) h

    dropped_here : (def : TableDef) → def_at (defs_of T) c.id ≡ Some def → AreIndexes v cells seats S.ledger def (Ordinals c) → Ordinals d ≡ ordinals_of def.indexes
    dropped_here def defines h = by (v.reads at.text) refl
      where
        by : (q : Option Stmt) → v.reads at.text ≡ q → Ordinals d ≡ ordinals_of def.indexes
        by None e = absurd (subst (λ (u : Option Stmt). IsAfter T u rdef) e got_here.1)
        by (Some stmt) e = dropped stmt e def defines h

  -- the indexes are as before, or its own may have been dropped
  pub data Drop : Type 0 where
    none_dropped : Ordinals d ≡ Ordinals c → ((after : TableDef) → after.id ≡ c.id → HasAdded x.place o after → ⊥) → Drop
    perhaps : (rdef : TableDef) → IsRefusedAt x.place rdef → rdef.id ≡ c.id → Drop

  drop : Drop
  drop = by (refused_def x.place) refl
    where
      by : (r : Option TableDef) → refused_def x.place ≡ r → Drop
      by None e = none_dropped (ordinals_are ∙ ap (λ (r : Option TableDef). Ordinals (index_dropped r undone_cell)) e ∙ left.ordinals) (λ after k a. let z : Some after ≡ None = sym (added_is o x.place after R.fixed a) ∙ e in cc)
      by (Some rdef) e = ⊎_elim (λ (q : rdef.id ≡ c.id). perhaps rdef (of_refused x.place rdef e) q)
          (λ (ne : rdef.id ≢ c.id). none_dropped (ordinals_are ∙ ap (λ (r : Option TableDef). Ordinals (index_dropped r undone_cell)) e
          ∙ ap (map (λ (q : Index). q.ordinals)) (not_dropped rdef undone_cell (λ q. ne (q ∙ left.id))) ∙ left.ordinals) (λ after k a. let z : Some after ≡ Some rdef = sym (added_is o x.place after R.fixed a) ∙ e in let same : after ≡ rdef = cc in ne (ap (λ (q : TableDef). q.id) (sym same) ∙ k)))
          (cases_eq rdef.id c.id)

  indexes_left : (def : TableDef) → def_at (defs_of T) c.id ≡ Some def → AreIndexes v cells seats S.ledger def (Ordinals c) → AreIndexes v C' seats' S.ledger def (Ordinals d)
  indexes_left def defines h = by drop
    where
      by : Drop → AreIndexes v C' seats' S.ledger def (Ordinals d)
      by (none_dropped e none) = subst (AreIndexes v C' seats' S.ledger def) (sym e) (indexes_after def (Ordinals c) (λ after k. inr (none after (k ∙ found_id (defs_of T) c.id def defines))) h)
      by (perhaps rdef at this) = inl (dropped_here rdef at this def defines h)

  indexed_else : (n : ℕ) (z : Session) (r : OpenTransaction) → n ≢ j → HasOpen seats n z r → r.end ≡ unfixed → (place : SessionStatus) → z.place ≡ place → IsIndexed cells place → IsIndexed C' place
  indexed_else n z r ne h e (inside at (made def true)) is was = λ m cell t k. let f = table_there (get_elem? C' m) cell t in ⊎_elim
      (λ (q : m ≡ i). let found_it : some (Rows d) ≡ some (Rows cell) = sym (set_here cells i (Rows c) (Rows d) R.out) ∙ ap (get_elem? C') (sym q) ∙ f in
      let same : d ≡ cell = cc in subst (λ (u : TableCell). u.id ≡ def.id → Ordinals u ≡ ordinals_of def.indexes) same (λ id. by drop id) k)
      (λ (d : m ≢ i). was m cell (ap table_found (sym (set_else cells i m _ d) ∙ f)) k)
      (cases_eq m i)
    where
      by : Drop → d.id ≡ def.id → Ordinals d ≡ ordinals_of def.indexes
      by (none_dropped g none) id = g ∙ was i c (ap table_found R.out) (sym id_left ∙ id)
      by (perhaps rdef at this) id = absurd (other_id n z r ne h (alone v cells seats S o.id (exclusive rdef at this) r.id (looked_now v cells T r z.place (S.locks_cover.looked n z r h e) (subst HasLooked (sym is) tt)).lock))
  indexed_else n z r ne h e (inside at (made def false)) is was = tt
  indexed_else n z r ne h e place is was = tt

  -- ---- the table's own form

  formed_left : (cols : List ColumnDef) → Formed cols c.versions c → Formed cols d.versions d
  formed_left cols f = subst (λ (u : TableCell). Formed cols u.versions u) (sym R.cell) (unlock (dropped_as (λ (u : TableCell). Formed cols u.versions u) undone_cell (left.formed cols f)
      (let g = left.formed cols f in record { key = g.key; order = g.order; projections = sorted_less (key_places cols) undone_cell.versions undone_cell.indexes g.projections }) (refused_def x.place)))
    where
      unlock : Formed cols (index_dropped (refused_def x.place) undone_cell).versions (index_dropped (refused_def x.place) undone_cell) → Formed cols (unlocked o.id (index_dropped (refused_def x.place) undone_cell)).versions (unlocked o.id (index_dropped (refused_def x.place) undone_cell))
      unlock g = record { key = g.key; order = g.order; projections = g.projections }

  nothing_left : (c.versions ≡ []) × (c.order ≡ []) × (c.indexes ≡ []) → (d.versions ≡ []) × (d.order ≡ []) × (d.indexes ≡ [])
  nothing_left h = subst (λ (u : TableCell). (u.versions ≡ []) × (u.order ≡ []) × (u.indexes ≡ [])) (sym R.cell)
      (dropped_as (λ (u : TableCell). (u.versions ≡ []) × (u.order ≡ []) × (u.indexes ≡ [])) undone_cell (left.nothing h) (let g = left.nothing h in (g.0, g.1, ap without_last g.2)) (refused_def x.place))

  stands_here : (def : Option TableDef) → def_at (defs_of T) c.id ≡ def → StandsAs v cells seats S.ledger c def → StandsAs v C' seats' S.ledger d def
  stands_here None e h = nothing_left h
  stands_here (Some def) e h =
      let f = formed_left def.columns (record { key = h.key; order = h.in_key_order; projections = h.projections }) in
      let cols : columns ≡ def.columns = found_columns (defs_of T) c.id def e in
      let k = kept_by_key def.columns d.versions c.versions (versions_of T c.id) (subst (λ (q : List ColumnDef). ByKey q d.versions c.versions (versions_of T c.id)) cols by_keys) (place_in S.ledger.items)
      (subst (λ (q : List ColumnDef). KeptRows (place_in S.ledger.items) q (versions_of T c.id)) cols (kept_serial v.reads S.ledger.items S.ledger_is_legal.legal c.id)) h.fit h.keys_differ in
      record { key = f.key; fit = k.0; in_key_order = f.order; keys_differ = k.1; projections = f.projections; indexes = indexes_left def e h.indexes }

  stands_else : (n : ℕ) (cell : TableCell) → n ≢ i → get_elem? cells n ≡ some (Rows cell) → (def : Option TableDef) → def_at (defs_of T) cell.id ≡ def → StandsAs v cells seats S.ledger cell def → StandsAs v C' seats' S.ledger cell def
  stands_else n cell ne out None e h = h
  stands_else n cell ne out (Some def) e h = record { key = h.key; fit = h.fit; in_key_order = h.in_key_order; keys_differ = h.keys_differ; projections = h.projections; indexes = indexes_after def (map (λ q. q.ordinals) cell.indexes) (λ after k. inl (λ q. ne (sym (cell_at n cell (table_place cells S.catalog S.ledger n cell S.are_cells out)) ∙ ap cell_of (sym (found_id (defs_of T) cell.id def e)) ∙ q))) h.indexes }

  at_cells : (n : ℕ) (cell : TableCell) → get_elem? C' n ≡ some (Rows cell) → StandsAs v C' seats' S.ledger cell (def_at (defs_of T) cell.id)
  at_cells n cell e = ⊎_elim
      (λ (q : n ≡ i). let found_it : some (Rows d) ≡ some (Rows cell) = sym (set_here cells i (Rows c) (Rows d) R.out) ∙ ap (get_elem? C') (sym q) ∙ e in
      let same : d ≡ cell = cc in subst (λ (u : TableCell). StandsAs v C' seats' S.ledger u (def_at (defs_of T) u.id)) same
      (subst (λ (m : ℕ). StandsAs v C' seats' S.ledger d (def_at (defs_of T) m)) (sym id_left) (stands_here (def_at (defs_of T) c.id) refl (S.tables_are_serial.tables i c (ap table_found R.out)))))
      (λ (ne : n ≢ i). stands_else n cell ne (sym (set_else cells i n (Rows d) ne) ∙ e) (def_at (defs_of T) cell.id) refl (S.tables_are_serial.tables n cell (ap table_found (sym (set_else cells i n (Rows d) ne) ∙ e))))
      (cases_eq n i)

  are_cells : AreCells C' S.catalog S.ledger
  are_cells = let a = rel.at v cells seats S j s x o i c d placed K in
      subst (λ (m : ℕ). AreCells (set cells m (Rows d)) S.catalog S.ledger) (sym a.is) (table_changed cells S.catalog S.ledger a.n c d (ap (get_elem? cells) (sym a.is) ∙ R.out) id_left S.are_cells)

  commits_by : (b : Bool) → ((n : ℕ) → in_journal S.ledger.items (o.id, n) ≡ b) → committed S.ledger.items (left_by b o.id c.versions) ≡ committed S.ledger.items c.versions
  commits_by true e = refl
  commits_by false e = sym (committed_undone S.ledger.items o.id (e 0) c.versions)

  -- a transaction that undoes and releases a table's cell keeps cells and seats together
  pub releases_stand : Stands v history C' seats'
  releases_stand = record {
    catalog = S.catalog;
    ledger = S.ledger;
    are_cells = are_cells;
    ledger_is_legal = S.ledger_is_legal;
    tables_are_serial = record {
      definitions = definitions_then;
      goes_back = creator_then;
      carried = each_open seats j (sits s y) x o y p goes (λ n z r. r.end ≡ unfixed → IsCarried S.catalog.defs T (script_end v T z r).state.tables) (λ e. absurd (R.fixed e)) (λ n z r ne h e. S.tables_are_serial.carried n z r h e);
      indexed = each_open seats j (sits s y) x o y p goes (λ n z r. r.end ≡ unfixed → IsIndexed C' z.place) (λ e. absurd (R.fixed e)) (λ n z r ne h e. indexed_else n z r ne h e z.place refl (S.tables_are_serial.indexed n z r h e));
      versions = by_table (λ id. committed S.ledger.items (versions_at C' id) ≡ versions_of T id)
          (ap (committed S.ledger.items) (rows_are ∙ versions_left) ∙ commits_by placed (is_placed v cells seats S j x o has_open R.fixed) ∙ ap (committed S.ledger.items) (sym rows_were) ∙ S.tables_are_serial.versions c.id one_le)
          (λ id l ne. ap (committed S.ledger.items) (rows_else id ne) ∙ S.tables_are_serial.versions id l);
      tables = λ n cell e. at_cells n cell (table_there (get_elem? C' n) cell e);
    };
    rows_agree = rel.rows_agree v cells seats S j s x o i c d placed K;
    open_scripts = scripts;
    locks_cover = covered;
    locks_agree = agree;
    trees_are_of_events = trees;
    transcripts_agree = unmoved v cells seats S j s R.there x R.role o R.open_one p (record { id = refl; explicit = refl; script = refl; end = refl });
  }
