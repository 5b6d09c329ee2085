-- On the way back to a savepoint a transaction drops its starts and ends in a table's cell: cells and seats stand together.
use Rattle.std.proofs.Common.{◌≡◌, ◌≢◌, ◌⊎◌, ℕ, zero, suc, ◌+◌, ◌≤◌, Bool, true, false, List, [], ◌∷◌, ◌++◌, map, set, Option, Some, None, refl, sym, ap, ◌∙◌, subst, inl, inr, ⊎_elim, arith}
use Rattle.std.proofs.lemmas.Bool.{cases_eq, eq-eqb, ne_eqb}
use Rattle.std.specs.Prelude.{◌==◌, not, if◌then◌else◌}
use Rattle.std.specs.List.{AllByRecursion, list_any}
use mathlib.Core.Option.{some}
use lib.ListN.{get_elem?}
use Rattle.sql_value.specs.declared.column.ColumnDef.{ColumnDef}
use Rattle.sql_types.specs.declared.lock.Mode.TheVariants.{X}
use Rattle.sql_types.specs.declared.statement.Stmt.{Stmt}
use Rattle.sql_types.specs.declared.table.TableDef.{TableDef}
use Rattle.sql_types.specs.declared.version.Version.{Version}
use Rattle.spec_model.specs.Rows.{EventId, value_or_null}
use Rattle.spec_model.specs.Keys.{Key, key_of, of_key}
use Rattle.spec_model.specs.Catalog.{Defs, Tables, defs_of, versions_of}
use Rattle.spec_model.specs.Journals.{Line, serial, upto}
use Rattle.spec_model.specs.Locks.{whole}
use Rattle.spec_model.specs.Agreement.{columns_at}
use Rattle.spec_model.specs.ChangeSets.{change_set, defined}
use Rattle.spec_model.specs.Runs.{Rising, MadeBefore}
use Rattle.spec_model.specs.Undo.{versions_undone}
use Rattle.spec_history.specs.Lists.{Text, Each, In}
use Rattle.spec_history.specs.Refusals.{EndsAt}
use Rattle.spec_history.specs.Transactions.{unfixed}
use Rattle.spec_history.proofs.Trace.{each_weaker}
use Rattle.law_journal.specs.Serial.{place_in}
use Rattle.spec_protocol.specs.Server.{Server}
use Rattle.sql_types.specs.declared.lock.Hold.{Hold}
use Rattle.spec_protocol.specs.Cells.{Creator, TableCell, Cell, Rows, holds_at, versions_at, catalog_at, cell_of, AreCells}
use Rattle.spec_protocol.specs.OpenOnes.{HasOpen, script_so_far, script_end}
use Rattle.spec_protocol.specs.OpenScripts.{counted}
use Rattle.spec_protocol.specs.EventsIn.{events_in}
use Rattle.spec_protocol.specs.Moves.{at_place, sits}
use Rattle.spec_protocol.specs.RequestsIn.{requests_in, Holds, of_catalog}
use Rattle.spec_protocol.specs.TablesAreSerial.{HasActed, def_at, ordinals_of, IsAdding, IsCarried}
use Rattle.spec_protocol.specs.LocksCover.{KeepsLocks, Belongs, HasIntent, LookedFirst, IsDropping}
use Rattle.spec_protocol.specs.StandTogether.{History, Stands}
use Rattle.law_protocol_steps.proofs.AfterSet.{set_here, set_else, each_at, all_at}
use Rattle.law_protocol_steps.proofs.SeatsAfter.{Goes, one_session, open_here, open_else, each_open}
use Rattle.law_protocol_steps.proofs.CellsAfter.{held_here, table_changed}
use Rattle.law_protocol_steps.proofs.SameOne.{no_change, trees_same}
use Rattle.law_protocol_steps.proofs.Excluded.{HasX, HasNoX, has_x_or_not}
use Rattle.law_protocol_steps.proofs.SeatIds.{one_seat, outside}
use Rattle.law_protocol_tables.proofs.LiveByKey.{ByKey, kept_by_key}
use Rattle.law_protocol_changes.proofs.ChangedRows.{undone_of_key, rising_undone, undone_untouched, undone_before, touched_agree, IsCounted, all_count, some_undone, counted_is}
use Rattle.law_protocol_changes.proofs.ChangeKeeps.{untouched}
use Rattle.law_protocol_steps.proofs.Takes.{tables_now}
use Rattle.spec_model.specs.Reach.{lets_change}
use Rattle.law_protocol_changes.proofs.CommittedRows.{committed_undone}
use Rattle.spec_protocol.specs.Seats.{OpenTransaction, made, going_back, SessionStatus, inside, Session, session, SeatState}
use Rattle.spec_protocol.specs.UndoVisits.{undone_to}
use Rattle.spec_protocol.specs.OpenOnes.{lines_at, texts_so_far}
use Rattle.spec_protocol.specs.RowsAgree.{GoesBackTo, IsExplicitAt}
use Rattle.spec_model.specs.Script.{ScriptEnd, script}
use Rattle.law_frame.proofs.Definitions.{opened_keep_defs}
use Rattle.law_frame.proofs.UndoneVersions.{nothing_undone}
use Rattle.law_frame.proofs.Alls.{all_weaker}
use Rattle.law_protocol_changes.proofs.ChangedRows.{later}
use Rattle.law_protocol_steps.proofs.CellsAfter.{each_holds, versions_here, were_here, versions_else}
use Rattle.law_protocol_changes.proofs.ChangesAt.{user_cell}
use Rattle.law_protocol_tables.proofs.Formed.{Formed, formed_undone, same_ordinals}
use Rattle.law_protocol_tables.proofs.KeptNow.{KeptRows, kept_script}
use Rattle.law_protocol_steps.proofs.DefsAfter.{found_columns}
use Rattle.law_protocol_steps.proofs.RowsFor.{elsewhere}
use Rattle.law_protocol_tables.proofs.UndoneTwice.{undone_twice, was_undone}
use Rattle.law_protocol_steps.proofs.TakesInTable.{IsAtPlace, table_place, cell_at, users}
use Rattle.spec_model.specs.Replies.{reply_text}
use Rattle.spec_protocol.specs.TreesAreOfEvents.{AreOpenSavepoints}
use Rattle.law_protocol_tables.proofs.Formed.{nothing_undone_to}
use Rattle.law_protocol_steps.proofs.OfCells.{LookedAt, AreDefinitions, AreIndexes, Creates, EndLiesUnder, GoesBack, HasItsTrees, HasLock, HoldsInCatalog, IsFree, IsGotAt, IsIndexed, IsOfItsScript, IsUnderLocks, IsUnderWay, LiesUnder, LocksAgree, LocksCover, OpenScripts, RowsAgree, SeatHas, StandsAs, TreesAreOfEvents, RequestsNone, committed, events_counted, in_journal, looked_now, looked_so, table_there}
use Rattle.law_protocol_changes.proofs.Apart.{x_apart}
use Rattle.spec_protocol.specs.TranscriptsSoFar.{FitsWith, shown_with}
use Rattle.spec_protocol.specs.Contents.{HasAlone, contents, table_found}
use Rattle.law_protocol_steps.proofs.FreshIds.{events_of_touched}
use Rattle.law_protocol_steps.proofs.GotMore.{got_at_more}
use Rattle.law_protocol_steps.proofs.Ids.{others}
use Rattle.law_protocol_steps.proofs.VisitActs.{stage_act}
use Rattle.spec_model.specs.ScriptRequests.{text_requests}
use Rattle.spec_model.specs.Touched.{touched}

pub record Undoing (v : Server) (cells : List Cell) (seats : List SeatState) {history : History} (S : Stands v history cells seats) (j : ℕ) (s : SeatState) (x : Session) (o : OpenTransaction) (text : Text) (seq : ℕ) (rest : List ℕ) (i : ℕ) (c d : TableCell) : Type 0 where
  pub there : get_elem? seats j ≡ some s
  pub role : s.role ≡ session x
  pub open_one : x.open_one ≡ Some o
  pub unfixed : o.end ≡ unfixed
  pub place : x.place ≡ inside text (going_back seq (i ∷ rest))
  pub out : get_elem? cells i ≡ some (Rows c)
  pub cell : d ≡ undone_to o.id seq c

module _ (v : Server) (cells : List Cell) (seats : List SeatState) {history : History} (S : Stands v history cells seats) (j : ℕ) (s : SeatState) (x : Session) (o : OpenTransaction) (text : Text) (seq : ℕ) (rest : List ℕ) (i : ℕ) (c d : TableCell) (R : Undoing v cells seats S j s x o text seq rest i c d) where
  abbrev T : Tables
  T = tables_now S

  has_open : HasOpen seats j x o
  has_open = record { seat = s; there = R.there; role = R.role; open_one = R.open_one }

  abbrev y : Session
  y = at_place (Some o) (inside text (going_back seq rest)) x

  abbrev C' : List Cell
  C' = set cells i (Rows d)

  abbrev seats' : List SeatState
  seats' = set seats j (sits s y)

  goes : Goes seats j (sits s y) x o y o
  goes = record { before = has_open; role = refl; open_one = refl }

  abbrev columns : List ColumnDef
  columns = columns_at (defs_of T) c.id

  at : IsAtPlace i c
  at = table_place cells S.catalog S.ledger i c S.are_cells R.out

  here : cell_of c.id ≡ i
  here = cell_at i c at

  user : 3 ≤ c.id
  user = let e = at.id in omega arith

  one_le : 1 ≤ c.id
  one_le = let u = user in omega arith

  only_id : (id : ℕ) → 1 ≤ id → cell_of id ≡ i → id ≡ c.id
  only_id id l e = let far = users id at.n l (e ∙ at.is) in let one = sym (user_cell id far) ∙ e ∙ sym here ∙ user_cell c.id user in omega arith

  not_zero : cell_of 0 ≢ i
  not_zero e = let q = at.is in omega (arith, e, q)

  by_table : (P : ℕ → Type 0) → P c.id → ((id : ℕ) → 1 ≤ id → cell_of id ≢ i → P id) → (id : ℕ) → 1 ≤ id → P id
  by_table P this others id l = ⊎_elim (λ (e : cell_of id ≡ i). subst P (sym (only_id id l e)) this) (λ (ne : cell_of id ≢ i). others id l ne) (cases_eq (cell_of id) i)

  rows_were : versions_at cells c.id ≡ c.versions
  rows_were = were_here cells i (Rows c) (Rows d) R.out c.id here

  rows_are : versions_at C' c.id ≡ d.versions
  rows_are = versions_here cells i (Rows c) (Rows d) R.out c.id here

  rows_else : (id : ℕ) → cell_of id ≢ i → versions_at C' id ≡ versions_at cells id
  rows_else = versions_else cells i (Rows c) (Rows d) R.out

  versions_left : d.versions ≡ versions_undone o.id seq c.versions
  versions_left = ap (λ (e : TableCell). e.versions) R.cell

  id_left : d.id ≡ c.id
  id_left = ap (λ (e : TableCell). e.id) R.cell

  held_same : (n : ℕ) → holds_at C' n ≡ holds_at cells n
  held_same = each_holds cells i (Rows c) (Rows d) R.out (λ n hs. hs ≡ holds_at cells n) (ap (λ (e : TableCell). e.holds) R.cell ∙ sym (held_here cells i (Rows c) (Rows d) R.out)) (λ n. refl)

  other_id : (n : ℕ) (z : Session) (r : OpenTransaction) → n ≢ j → HasOpen seats n z r → r.id ≢ o.id
  other_id n z r ne h e = ne (one_seat v cells seats S n j z x r o h has_open e)

  mine_out : (n : ℕ) → in_journal S.ledger.items (o.id, n) ≡ false
  mine_out n = outside v cells seats S j x o n has_open R.unfixed

  -- ---- what counts

  abbrev after : SessionStatus
  after = inside text (going_back seq rest)

  counts_before : (vs : List Version) → counted o.id c.id x.place vs ≡ versions_undone o.id seq vs
  counts_before vs = ap (λ (q : SessionStatus). counted o.id c.id q vs) R.place ∙ rw (eq-eqb i (cell_of c.id) (sym here)) refl

  counts_here : (f : List Version → List Version) → ((vs : List Version) → f (versions_undone o.id seq vs) ≡ versions_undone o.id seq (f vs)) → counted o.id c.id after (f d.versions) ≡ counted o.id c.id x.place (f c.versions)
  counts_here f turns = by (list_any (λ k. k == cell_of c.id) rest) ∙ sym (counts_before (f c.versions))
    where
      once : f d.versions ≡ versions_undone o.id seq (f c.versions)
      once = ap f versions_left ∙ turns c.versions

      by : (b : Bool) → (if b then versions_undone o.id seq (f d.versions) else f d.versions) ≡ versions_undone o.id seq (f c.versions)
      by true = ap (versions_undone o.id seq) once ∙ undone_twice o.id seq seq (f c.versions) (omega arith)
      by false = once

  counts_else : (id : ℕ) (vs : List Version) → cell_of id ≢ i → counted o.id id after vs ≡ counted o.id id x.place vs
  counts_else id vs ne = sym (ap (λ (q : SessionStatus). counted o.id id q vs) R.place ∙ rw (ne_eqb i (cell_of id) (λ e. ne (sym e))) refl)

  counts_all : (id : ℕ) → counted o.id id after (versions_at C' id) ≡ counted o.id id x.place (versions_at cells id)
  counts_all zero = ap (counted o.id 0 after) (rows_else 0 not_zero) ∙ counts_else 0 (versions_at cells 0) not_zero
  counts_all (suc m) = by_table (λ id. counted o.id id after (versions_at C' id) ≡ counted o.id id x.place (versions_at cells id))
      (ap (counted o.id c.id after) rows_are ∙ counts_here (λ vs. vs) (λ vs. refl) ∙ ap (counted o.id c.id x.place) (sym rows_were))
      (λ id l ne. ap (counted o.id id after) (rows_else id ne) ∙ counts_else id (versions_at cells id) ne) (suc m) (omega arith)

  -- ---- the script

  same_script : script_so_far y o ≡ script_so_far x o
  same_script = ap (λ (q : SessionStatus). o.script ++ lines_at q) (sym R.place)

  same_end : script_end v T y o ≡ script_end v T x o
  same_end = ap (λ (ls : List Line). script v.reads o.explicit T o.id (map (λ l. l.0) ls)) same_script

  is_opened : o.explicit ≡ true
  is_opened = subst (λ (q : SessionStatus). IsExplicitAt q o.explicit) R.place (S.rows_agree.explicit j x o has_open)

  end_defs : defs_of (script_end v T x o).state.tables ≡ defs_of T
  end_defs = ap (λ (b : Bool). defs_of (script v.reads b T o.id (texts_so_far x o)).state.tables) is_opened ∙ (opened_keep_defs v.reads T o.id (texts_so_far x o)).tables

  abbrev W : List Version
  W = versions_of (script_end v T x o).state.tables c.id

  -- ---- the rows of a key

  weaker : (vs : List Version) → AllByRecursion (MadeBefore o.id 0) vs → AllByRecursion (MadeBefore o.id seq) vs
  weaker vs h = all_weaker (MadeBefore o.id 0) (MadeBefore o.id seq) (λ w k. subst (λ (n : ℕ). MadeBefore o.id n w) (let z : 0 + seq ≡ seq = omega arith in z) (later o.id 0 seq w k)) vs h

  kept_key : (key : Key) → HasNoX (holds_at cells (cell_of c.id)) o.id key → of_key columns key d.versions ≡ of_key columns key c.versions
  kept_key key free = ap (of_key columns key) versions_left ∙ sym (undone_of_key columns key o.id seq c.versions)
      ∙ nothing_undone o.id seq (of_key columns key c.versions) (weaker _ (subst (λ (vs : List Version). AllByRecursion (MadeBefore o.id 0) (of_key columns key vs)) rows_were (untouched v cells seats S c.id one_le key o.id mine_out free)))

  kept_at : (key : Key) (q : List Version → List Version) → HasNoX (holds_at cells (cell_of c.id)) o.id key → q (of_key columns key (versions_at C' c.id)) ≡ q (of_key columns key (versions_at cells c.id))
  kept_at key q free = ap (λ (vs : List Version). q (of_key columns key vs)) rows_are ∙ ap q (kept_key key free) ∙ ap (λ (vs : List Version). q (of_key columns key vs)) (sym rows_were)

  given : (key : Key) (k : HasX (holds_at cells (cell_of c.id)) o.id key) → of_key columns key d.versions ≡ of_key columns key W
  given key k = ap (of_key columns key) versions_left ∙ sym (undone_of_key columns key o.id seq c.versions) ∙ sym (counts_before (of_key columns key c.versions))
      ∙ ap (λ (vs : List Version). counted o.id c.id x.place (of_key columns key vs)) (sym rows_were)
      ∙ S.rows_agree.own j x o has_open R.unfixed c.id key one_le k.hold k.has k.mine k.reaches

  by_keys : ByKey columns d.versions c.versions W
  by_keys key = ⊎_elim
      (λ (k : HasX (holds_at cells (cell_of c.id)) o.id key). inr (given key k))
      (λ (k : HasNoX (holds_at cells (cell_of c.id)) o.id key). inl (kept_key key k))
      (has_x_or_not (holds_at cells (cell_of c.id)) o.id key)

  -- where another transaction has X, this one hasn't
  none_besides : (key : Key) (h : Hold) → In h (holds_at cells (cell_of c.id)) → h.tx ≢ o.id → lets_change key h.request ≡ true → HasNoX (holds_at cells (cell_of c.id)) o.id key
  none_besides key h has ne reach g k m = by (lets_change key g.request) refl
    where
      by : (b : Bool) → lets_change key g.request ≡ b → b ≡ false
      by true e = absurd (x_apart v cells seats S (cell_of c.id) key g h k has (λ q. ne (q ∙ m)) e reach)
      by false e = refl

  free_of_mine : (key : Key) → IsFree (holds_at cells (cell_of c.id)) S.ledger key → HasNoX (holds_at cells (cell_of c.id)) o.id key
  free_of_mine key f h has m = by (lets_change key h.request) refl
    where
      by : (b : Bool) → lets_change key h.request ≡ b → b ≡ false
      by true e = absurd (let z : in_journal S.ledger.items (o.id, 0) ≡ true = ap (λ (n : ℕ). in_journal S.ledger.items (n, 0)) (sym m) ∙ f h has e in let q = mine_out 0 in cc)
      by false e = refl

  was_held : (n : ℕ) (h : Hold) → In h (holds_at C' n) → In h (holds_at cells n)
  was_held n h has = subst (In h) (held_same n) has

  free_before : (n : ℕ) (key : Key) → IsFree (holds_at C' n) S.ledger key → IsFree (holds_at cells n) S.ledger key
  free_before n key f h has r = f h (subst (In h) (sym (held_same n)) has) r

  key_else : (id : ℕ) (key : Key) (q : List Version → List Version) → cell_of id ≢ i → q (of_key (columns_at (defs_of T) id) key (versions_at C' id)) ≡ q (of_key (columns_at (defs_of T) id) key (versions_at cells id))
  key_else id key q ne = ap (λ (vs : List Version). q (of_key (columns_at (defs_of T) id) key vs)) (rows_else id ne)

  undone_mine : (key : Key) → versions_undone o.id 0 (of_key columns key (versions_at C' c.id)) ≡ versions_undone o.id 0 (of_key columns key (versions_at cells c.id))
  undone_mine key = ap (λ (vs : List Version). versions_undone o.id 0 (of_key columns key vs)) (rows_are ∙ versions_left)
      ∙ ap (versions_undone o.id 0) (sym (undone_of_key columns key o.id seq c.versions)) ∙ undone_twice o.id 0 seq (of_key columns key c.versions) (omega arith)
      ∙ ap (λ (vs : List Version). versions_undone o.id 0 (of_key columns key vs)) (sym rows_were)

  rising_before : Rising c.versions
  rising_before = subst Rising rows_were (S.rows_agree.rising c.id one_le)

  rising_after : Rising d.versions
  rising_after = subst Rising (sym versions_left) (rising_undone o.id seq c.versions rising_before)

  still_before : (tx n id : ℕ) (place : SessionStatus) → IsCounted tx id place → GoesBackTo place n → AllByRecursion (MadeBefore tx n) (counted tx id place c.versions) → AllByRecursion (MadeBefore tx n) (counted tx id place d.versions)
  still_before tx n id place (all_count same) back h = subst (AllByRecursion (MadeBefore tx n)) (sym (same _)) (subst (AllByRecursion (MadeBefore tx n)) (sym versions_left) (undone_untouched tx o.id seq n c.versions (subst (AllByRecursion (MadeBefore tx n)) (same _) h)))
  still_before tx n id place (some_undone k to same) back h = subst (AllByRecursion (MadeBefore tx n)) (sym (same _)) (subst (λ (m : ℕ). AllByRecursion (MadeBefore tx m) (versions_undone tx k d.versions)) (to n back) (undone_before tx k _))

  rows_agree : RowsAgree v C' S.ledger seats'
  rows_agree = record {
    free = λ id key l. by_table (λ id. IsFree (holds_at C' (cell_of id)) S.ledger key → of_key (columns_at (defs_of T) id) key (versions_at C' id) ≡ of_key (columns_at (defs_of T) id) key (versions_of T id))
        (λ f. let g = free_before (cell_of c.id) key f in kept_at key (λ vs. vs) (free_of_mine key g) ∙ S.rows_agree.free c.id key one_le g)
        (λ id l ne f. key_else id key (λ vs. vs) ne ∙ S.rows_agree.free id key l (free_before (cell_of id) key f)) id l;
    own = each_open seats j (sits s y) x o y o goes
        (λ n z r. r.end ≡ unfixed → (id : ℕ) (key : Key) → 1 ≤ id → (h : Hold) → In h (holds_at C' (cell_of id)) → h.tx ≡ r.id → lets_change key h.request ≡ true
        → counted r.id id z.place (of_key (columns_at (defs_of T) id) key (versions_at C' id)) ≡ of_key (columns_at (defs_of T) id) key (versions_of (script_end v T z r).state.tables id))
        (λ e id key l. by_table (λ id. (h : Hold) → In h (holds_at C' (cell_of id)) → h.tx ≡ o.id → lets_change key h.request ≡ true
        → counted o.id id y.place (of_key (columns_at (defs_of T) id) key (versions_at C' id)) ≡ of_key (columns_at (defs_of T) id) key (versions_of (script_end v T y o).state.tables id))
        (λ h has m reach. ap (λ (vs : List Version). counted o.id c.id after (of_key columns key vs)) rows_are ∙ counts_here (of_key columns key) (λ vs. sym (undone_of_key columns key o.id seq vs))
        ∙ ap (λ (vs : List Version). counted o.id c.id x.place (of_key columns key vs)) (sym rows_were)
        ∙ S.rows_agree.own j x o has_open R.unfixed c.id key one_le h (was_held (cell_of c.id) h has) m reach ∙ ap (λ (q : ScriptEnd). of_key columns key (versions_of q.state.tables c.id)) (sym same_end))
        (λ id l ne h has m reach. key_else id key (counted o.id id after) ne ∙ counts_else id _ ne
        ∙ S.rows_agree.own j x o has_open R.unfixed id key l h (was_held (cell_of id) h has) m reach ∙ ap (λ (q : ScriptEnd). of_key (columns_at (defs_of T) id) key (versions_of q.state.tables id)) (sym same_end)) id l)
        (λ n z r ne g e id key l. by_table (λ id. (h : Hold) → In h (holds_at C' (cell_of id)) → h.tx ≡ r.id → lets_change key h.request ≡ true
        → counted r.id id z.place (of_key (columns_at (defs_of T) id) key (versions_at C' id)) ≡ of_key (columns_at (defs_of T) id) key (versions_of (script_end v T z r).state.tables id))
        (λ h has m reach. kept_at key (counted r.id c.id z.place) (none_besides key h (was_held (cell_of c.id) h has) (λ q. other_id n z r ne g (sym m ∙ q)) reach) ∙ S.rows_agree.own n z r g e c.id key one_le h (was_held (cell_of c.id) h has) m reach)
        (λ id l q h has m reach. key_else id key (counted r.id id z.place) q ∙ S.rows_agree.own n z r g e id key l h (was_held (cell_of id) h has) m reach) id l);
    undone = λ id key l. by_table (λ id. (h : Hold) → In h (holds_at C' (cell_of id)) → in_journal S.ledger.items (h.tx, 0) ≡ false → lets_change key h.request ≡ true
        → versions_undone h.tx 0 (of_key (columns_at (defs_of T) id) key (versions_at C' id)) ≡ of_key (columns_at (defs_of T) id) key (versions_of T id))
        (λ h has u reach. let was = was_held (cell_of c.id) h has in ⊎_elim
        (λ (m : h.tx ≡ o.id). subst (λ (n : ℕ). versions_undone n 0 (of_key columns key (versions_at C' c.id)) ≡ versions_undone n 0 (of_key columns key (versions_at cells c.id))) (sym m) (undone_mine key))
        (λ (ne : h.tx ≢ o.id). kept_at key (versions_undone h.tx 0) (none_besides key h was ne reach))
        (cases_eq h.tx o.id) ∙ S.rows_agree.undone c.id key one_le h was u reach)
        (λ id l q h has u reach. key_else id key (versions_undone h.tx 0) q ∙ S.rows_agree.undone id key l h (was_held (cell_of id) h has) u reach) id l;
    rising = by_table (λ id. Rising (versions_at C' id)) (subst Rising (sym rows_are) rising_after) (λ id l ne. subst Rising (sym (rows_else id ne)) (S.rows_agree.rising id l));
    back = each_open seats j (sits s y) x o y o goes (λ n z r. GoesBackTo z.place r.seq) (subst (λ (q : SessionStatus). GoesBackTo q o.seq) R.place (S.rows_agree.back j x o has_open)) (λ n z r ne g. S.rows_agree.back n z r g);
    explicit = each_open seats j (sits s y) x o y o goes (λ n z r. IsExplicitAt z.place r.explicit) is_opened (λ n z r ne g. S.rows_agree.explicit n z r g);
    before = each_open seats j (sits s y) x o y o goes
        (λ n z r. r.end ≡ unfixed → (id : ℕ) → 1 ≤ id → AllByRecursion (MadeBefore r.id r.seq) (counted r.id id z.place (versions_at C' id)))
        (λ e id l. subst (AllByRecursion (MadeBefore o.id o.seq)) (sym (counts_all id)) (S.rows_agree.before j x o has_open R.unfixed id l))
        (λ n z r ne g e. by_table (λ id. AllByRecursion (MadeBefore r.id r.seq) (counted r.id id z.place (versions_at C' id)))
        (subst (λ (vs : List Version). AllByRecursion (MadeBefore r.id r.seq) (counted r.id c.id z.place vs)) (sym rows_are) (still_before r.id r.seq c.id z.place (counted_is r.id c.id z.place) (S.rows_agree.back n z r g)
        (subst (λ (vs : List Version). AllByRecursion (MadeBefore r.id r.seq) (counted r.id c.id z.place vs)) rows_were (S.rows_agree.before n z r g e c.id one_le))))
        (λ id l q. subst (λ (vs : List Version). AllByRecursion (MadeBefore r.id r.seq) (counted r.id id z.place vs)) (sym (rows_else id q)) (S.rows_agree.before n z r g e id l)));
  }

  -- ---- the events of another one

  abbrev seen : List Cell → Session → OpenTransaction → ℕ → List Version
  seen cs z r id = touched r.id (counted r.id id z.place (versions_at cs id))

  module _ (n : ℕ) (z : Session) (r : OpenTransaction) (ne : n ≢ j) (has : HasOpen seats n z r) (unfixed_too : r.end ≡ unfixed) where
    theirs_out : (m : ℕ) → in_journal S.ledger.items (r.id, m) ≡ false
    theirs_out m = outside v cells seats S n z r m has unfixed_too

    other_free : (key : Key) → HasX (holds_at cells (cell_of c.id)) o.id key → HasNoX (holds_at cells (cell_of c.id)) r.id key
    other_free key k h has_h m = by (lets_change key h.request) refl
      where
        by : (b : Bool) → lets_change key h.request ≡ b → b ≡ false
        by true e = absurd (x_apart v cells seats S (cell_of c.id) key k.hold h k.has has_h (λ q. other_id n z r ne has (sym m ∙ q ∙ k.mine)) k.reaches e)
        by false e = refl

    before_here : (key : Key) → HasX (holds_at cells (cell_of c.id)) o.id key → AllByRecursion (MadeBefore r.id 0) (of_key columns key c.versions)
    before_here key k = subst (λ (vs : List Version). AllByRecursion (MadeBefore r.id 0) (of_key columns key vs)) rows_were (untouched v cells seats S c.id one_le key r.id theirs_out (other_free key k))

    after_here : (key : Key) → HasX (holds_at cells (cell_of c.id)) o.id key → AllByRecursion (MadeBefore r.id 0) (of_key columns key d.versions)
    after_here key k = subst (AllByRecursion (MadeBefore r.id 0)) (sym (ap (of_key columns key) versions_left ∙ sym (undone_of_key columns key o.id seq c.versions))) (undone_untouched r.id o.id seq 0 (of_key columns key c.versions) (before_here key k))

    their_keys : (f : List Version → List Version) → ((vs : List Version) → AllByRecursion (MadeBefore r.id 0) vs → AllByRecursion (MadeBefore r.id 0) (f vs)) → (key : Key)
        → (f (of_key columns key d.versions) ≡ f (of_key columns key c.versions)) ⊎ (AllByRecursion (MadeBefore r.id 0) (f (of_key columns key d.versions)) × AllByRecursion (MadeBefore r.id 0) (f (of_key columns key c.versions)))
    their_keys f keeps key = ⊎_elim
        (λ (k : HasX (holds_at cells (cell_of c.id)) o.id key). inr (keeps _ (after_here key k), keeps _ (before_here key k)))
        (λ (k : HasNoX (holds_at cells (cell_of c.id)) o.id key). inl (ap f (kept_key key k)))
        (has_x_or_not (holds_at cells (cell_of c.id)) o.id key)

    their_seen : touched r.id (counted r.id c.id z.place d.versions) ≡ touched r.id (counted r.id c.id z.place c.versions)
    their_seen = by (counted_is r.id c.id z.place)
      where
        turned : (seq : ℕ) (key : Key) → (versions_undone r.id seq (of_key columns key d.versions) ≡ versions_undone r.id seq (of_key columns key c.versions)) ⊎ (AllByRecursion (MadeBefore r.id 0) (versions_undone r.id seq (of_key columns key d.versions)) × AllByRecursion (MadeBefore r.id 0) (versions_undone r.id seq (of_key columns key c.versions)))
            → (of_key columns key (versions_undone r.id seq d.versions) ≡ of_key columns key (versions_undone r.id seq c.versions)) ⊎ (AllByRecursion (MadeBefore r.id 0) (of_key columns key (versions_undone r.id seq d.versions)) × AllByRecursion (MadeBefore r.id 0) (of_key columns key (versions_undone r.id seq c.versions)))
        turned seq key (inl e) = inl (sym (undone_of_key columns key r.id seq d.versions) ∙ e ∙ undone_of_key columns key r.id seq c.versions)
        turned seq key (inr h) = inr (subst (AllByRecursion (MadeBefore r.id 0)) (undone_of_key columns key r.id seq d.versions) h.0, subst (AllByRecursion (MadeBefore r.id 0)) (undone_of_key columns key r.id seq c.versions) h.1)

        by : IsCounted r.id c.id z.place → touched r.id (counted r.id c.id z.place d.versions) ≡ touched r.id (counted r.id c.id z.place c.versions)
        by (all_count same) = ap (touched r.id) (same d.versions) ∙ touched_agree r.id columns d.versions c.versions rising_after rising_before (λ key. their_keys (λ vs. vs) (λ vs h. h) key) ∙ ap (touched r.id) (sym (same c.versions))
        by (some_undone k to same) = ap (touched r.id) (same d.versions)
            ∙ touched_agree r.id columns (versions_undone r.id k d.versions) (versions_undone r.id k c.versions) (rising_undone r.id k d.versions rising_after) (rising_undone r.id k c.versions rising_before)
            (λ key. turned k key (their_keys (versions_undone r.id k) (undone_untouched r.id r.id k 0) key))
            ∙ ap (touched r.id) (sym (same c.versions))

    seen_stays : (id : ℕ) → 1 ≤ id → seen C' z r id ≡ seen cells z r id
    seen_stays = by_table (λ id. seen C' z r id ≡ seen cells z r id)
        (ap (λ (vs : List Version). touched r.id (counted r.id c.id z.place vs)) rows_are ∙ their_seen ∙ ap (λ (vs : List Version). touched r.id (counted r.id c.id z.place vs)) (sym rows_were))
        (λ id l q. ap (λ (vs : List Version). touched r.id (counted r.id id z.place vs)) (rows_else id q))

    events_all : (id : ℕ) → events_counted C' z r id ≡ events_counted cells z r id
    events_all zero = ap (λ (vs : List Version). events_in r.id 0 (counted r.id 0 z.place vs)) (rows_else 0 not_zero)
    events_all (suc m) = events_of_touched r.id (suc m) _ ∙ ap (events_in r.id (suc m)) (seen_stays (suc m) (omega arith)) ∙ sym (events_of_touched r.id (suc m) _)

  scripts : OpenScripts v C' S.ledger seats'
  scripts = each_open seats j (sits s y) x o y o goes (λ n z r. r.end ≡ unfixed → IsOfItsScript v C' T z r)
      (λ e. let was = S.open_scripts j x o has_open R.unfixed in record {
        replies = ap (map (λ (l : Line). l.1)) same_script ∙ was.replies ∙ ap (λ (q : ScriptEnd). map reply_text q.replies) (sym same_end);
        versions = λ id l. ap (touched o.id) (counts_all id) ∙ was.versions id l ∙ ap (λ (q : ScriptEnd). touched o.id (versions_of q.state.tables id)) (sym same_end);
        counter = was.counter ∙ ap (λ (q : ScriptEnd). q.state.seq) (sym same_end);
        alone = was.alone;
      })
      (λ n z r ne h e. let was = S.open_scripts n z r h e in record { replies = was.replies; versions = λ id l. seen_stays n z r ne h e id l ∙ was.versions id l; counter = was.counter; alone = was.alone })

  trees : TreesAreOfEvents v C' S.ledger seats'
  trees = each_open seats j (sits s y) x o y o goes (λ n z r. r.end ≡ unfixed → HasItsTrees v C' S.ledger z r)
      (λ e. let was = S.trees_are_of_events j x o has_open R.unfixed in record {
        trees = trees_same x o x o (no_change x o) v (events_counted cells x o) (events_counted C' y o) o.trees (λ id. ap (events_in o.id id) (counts_all id)) was.trees;
        open_savepoints = subst (λ (q : ScriptEnd). AreOpenSavepoints o.id o.open_savepoints q.state.saved) (sym same_end) was.open_savepoints;
      })
      (λ n z r ne h e. let was = S.trees_are_of_events n z r h e in record { trees = trees_same z r z r (no_change z r) v (events_counted cells z r) (events_counted C' z r) r.trees (events_all n z r ne h e) was.trees; open_savepoints = was.open_savepoints })

  -- ---- locks

  open_now : HasOpen seats' j y o
  open_now = open_here seats j (sits s y) x o y o goes

  lock_was : (n id : ℕ) → HasLock C' n id → HasLock cells n id
  lock_was n id l = record { hold = l.hold; has = was_held n l.hold l.has; mine = l.mine }

  lock_is : (n id : ℕ) → HasLock cells n id → HasLock C' n id
  lock_is n id l = record { hold = l.hold; has = subst (In l.hold) (sym (held_same n)) l.has; mine = l.mine }

  belongs_then : (n : ℕ) (h : Hold) → Belongs seats n h → Belongs seats' n h
  belongs_then n h b = ⊎_elim
      (λ (e : b.j ≡ j).
      let same = one_session seats j b.x x b.o o (subst (λ (m : ℕ). HasOpen seats m b.x b.o) e b.has) has_open in
      record {
        j = j;
        x = y;
        o = o;
        has = open_now;
        mine = ap (λ (q : OpenTransaction). q.id) (sym same.1) ∙ b.mine;
        only = λ m z r g q. only m z r g q ∙ e;
        visited = subst (λ (q : OpenTransaction). In n q.visited) same.1 b.visited;
        unreleased = λ q. b.unreleased (subst (λ (u : OpenTransaction). In n u.released) (sym same.1) q);
      })
      (λ (ne : b.j ≢ j). record { j = b.j; x = b.x; o = b.o; has = open_else seats j (sits s y) x o y o goes b.j b.x b.o ne b.has; mine = b.mine; only = only; visited = b.visited; unreleased = b.unreleased })
      (cases_eq b.j j)
    where
      only : (m : ℕ) (z : Session) (r : OpenTransaction) → HasOpen seats' m z r → r.id ≡ h.tx → m ≡ b.j
      only = each_open seats j (sits s y) x o y o goes (λ m z r. r.id ≡ h.tx → m ≡ b.j) (λ e. b.only j x o has_open e) (λ m z r ne g e. b.only m z r g e)

  covers_same : (z : Session) (r : OpenTransaction) (m : ℕ) (ls : List Line) → Each (λ l. Each (Holds (holds_at cells m) r.id) (requests_in v (defs_of T) r.explicit m l.0)) ls → Each (λ l. Each (Holds (holds_at C' m) r.id) (requests_in v (defs_of T) r.explicit m l.0)) ls
  covers_same z r m ls h = subst (λ (hs : List Hold). Each (λ l. Each (Holds hs r.id) (requests_in v (defs_of T) r.explicit m l.0)) ls) (sym (held_same m)) h

  looked_still : (place : SessionStatus) (r : OpenTransaction) → HoldsInCatalog v cells T place r → HoldsInCatalog v C' T place r
  looked_still place r h = record { lock = lock_is catalog_at r.id h.lock; requests = λ u e. subst (λ (hs : List Hold). Each (Holds hs r.id) (of_catalog (text_requests (defs_of T) r.explicit (v.reads u)).catalog)) (sym (held_same catalog_at)) (h.requests u e) }

  lies_then : (id : ℕ) (w : Version) (e : EventId) → LiesUnder cells T id w e → LiesUnder C' T id w e
  lies_then id w e u = record { hold = u.hold; has = subst (In u.hold) (sym (held_same (cell_of id))) u.has; mine = u.mine; reaches = u.reaches }

  end_then : (id : ℕ) (w : Version) (e : Option EventId) → EndLiesUnder v cells S.ledger id w e → EndLiesUnder v C' S.ledger id w e
  end_then id w None u = tt
  end_then id w (Some e) u = λ q. lies_then id w e (u q)

  under_was : (w u : Version) (e : EventId) → w.values ≡ u.values → LiesUnder cells T c.id u e → LiesUnder C' T c.id w e
  under_was w u e same h = lies_then c.id w e (record { hold = h.hold; has = h.has; mine = h.mine; reaches = ap (λ vs. lets_change (key_of columns (map value_or_null vs)) h.hold.request) same ∙ h.reaches })

  one_under : (w : Version) → In w d.versions → IsUnderLocks v C' S.ledger c.id w
  one_under w there =
      let k = was_undone o.id seq w c.versions (subst (In w) versions_left there) in
      let old = each_at (IsUnderLocks v cells S.ledger c.id) c.versions k.was (subst (Each (IsUnderLocks v cells S.ledger c.id)) rows_were (S.locks_cover.under c.id one_le)) k.there in
      record {
        start = λ q. under_was w k.was w.start k.values (subst (LiesUnder cells T c.id k.was) (sym k.start) (old.start (ap (in_journal S.ledger.items) (sym k.start) ∙ q)));
        end = end_by k.was k.values k.end old.end (w.end) refl;
      }
    where
      end_by : (u : Version) → w.values ≡ u.values → (w.end ≡ None) ⊎ (w.end ≡ u.end) → EndLiesUnder v cells S.ledger c.id u u.end → (e : Option EventId) → w.end ≡ e → EndLiesUnder v C' S.ledger c.id w e
      end_by u same k h None is = tt
      end_by u same k h (Some e) is = λ q. under_was w u e same (⊎_elim
          (λ (z : w.end ≡ None). absurd (let f : Some e ≡ None = sym is ∙ z in cc))
          (λ (z : w.end ≡ u.end). let f : EndLiesUnder v cells S.ledger c.id u (Some e) = subst (EndLiesUnder v cells S.ledger c.id u) (sym z ∙ is) h in f q)
          k)

  under_then : (id : ℕ) → 1 ≤ id → Each (IsUnderLocks v C' S.ledger id) (versions_at C' id)
  under_then = by_table (λ id. Each (IsUnderLocks v C' S.ledger id) (versions_at C' id))
      (subst (Each (IsUnderLocks v C' S.ledger c.id)) (sym rows_are) (all_at (IsUnderLocks v C' S.ledger c.id) d.versions one_under))
      (λ id l ne. subst (Each (IsUnderLocks v C' S.ledger id)) (sym (rows_else id ne))
      (each_weaker (IsUnderLocks v cells S.ledger id) (IsUnderLocks v C' S.ledger id) (λ w u. record { start = λ q. lies_then id w w.start (u.start q); end = end_then id w w.end u.end }) (versions_at cells id) (S.locks_cover.under id l)))

  covered : LocksCover v C' S.ledger seats'
  covered = record {
    belong = λ n h has. belongs_then n h (S.locks_cover.belong n h (was_held n h has));
    unreleased = each_open seats j (sits s y) x o y o goes (λ n z r. r.end ≡ unfixed → r.released ≡ []) (λ e. S.locks_cover.unreleased j x o has_open R.unfixed) (λ n z r ne h. S.locks_cover.unreleased n z r h);
    intents = λ n h has m. subst (λ (hs : List Hold). HasIntent hs h) (sym (held_same n)) (S.locks_cover.intents n h (was_held n h has) m);
    looked = each_open seats j (sits s y) x o y o goes (λ n z r. r.end ≡ unfixed → LookedAt v C' T z.place r) (λ e. tt) (λ n z r ne h e. looked_so v C' T r z.place (λ l. looked_still z.place r (looked_now v cells T r z.place (S.locks_cover.looked n z r h e) l)));
    on_whole = λ h has. S.locks_cover.on_whole h (was_held catalog_at h has);
    looked_first = each_open seats j (sits s y) x o y o goes (λ n z r. r.end ≡ unfixed → LookedFirst z.place → RequestsNone v C' T r) (λ e h. absurd h)
        (λ n z r ne h e f. let was = S.locks_cover.looked_first n z r h e f in record { before = was.before; shares = λ h has m. was.shares h (was_held catalog_at h has) m; elsewhere = λ m l. was.elsewhere m (lock_was (suc m) r.id l) });
    cover = each_open seats j (sits s y) x o y o goes (λ n z r. (m : ℕ) → KeepsLocks r m → Each (λ l. Each (Holds (holds_at C' m) r.id) (requests_in v (defs_of T) r.explicit m l.0)) (script_so_far z r))
        (λ m u. subst (Each (λ l. Each (Holds (holds_at C' m) o.id) (requests_in v (defs_of T) o.explicit m l.0))) (sym same_script) (covers_same x o m (script_so_far x o) (S.locks_cover.cover j x o has_open m u)))
        (λ n z r ne h m u. covers_same z r m (script_so_far z r) (S.locks_cover.cover n z r h m u));
    catalog = λ n id l. lock_is catalog_at id (S.locks_cover.catalog n id (lock_was (suc n) id l));
    definitions = λ n z r m h e l. each_open seats j (sits s y) x o y o goes (λ n z r. (m : ℕ) → EndsAt r.end m → HasLock C' catalog_at r.id → defs_of T ≡ defs_of (serial v.reads (upto S.ledger.items m)))
        (λ m e l. S.locks_cover.definitions j x o m has_open e (lock_was catalog_at o.id l))
        (λ n z r ne h m e l. S.locks_cover.definitions n z r m h e (lock_was catalog_at r.id l)) n z r h m e l;
    got = each_open seats j (sits s y) x o y o goes (λ n z r. HasLock C' catalog_at r.id → IsGotAt v C' T r.id (not (in_journal S.ledger.items (r.id, 0))) z.place) (λ l. tt)
        (λ n z r ne h l. got_at_more v T (HasAlone (contents cells) r.id) (HasAlone (contents C') r.id) (not (in_journal S.ledger.items (r.id, 0))) (subst (In _) (sym (held_same catalog_at))) z.place (S.locks_cover.got n z r h (lock_was catalog_at r.id l)));
    dropping = each_open seats j (sits s y) x o y o goes (λ n z r. IsDropping z.place r → In (record { tx = r.id; request = whole X }) (holds_at C' catalog_at)) (λ h. absurd h)
        (λ n z r ne g h. subst (In _) (sym (held_same catalog_at)) (S.locks_cover.dropping n z r g h));
    under = under_then;
  }

  agree : LocksAgree C' seats'
  agree m n k a b ne f g = S.locks_agree m n k a b ne (had m n a f) (had m k b g)
    where
      had : (m n : ℕ) (h : Hold) → SeatHas C' seats' m n h → SeatHas cells seats m n h
      had m n h q = each_open seats j (sits s y) x o y o goes (λ n z r. r.id ≡ h.tx → SeatHas cells seats m n h)
          (λ e. record { x = x; o = o; open_one = has_open; lock = was_held m h q.lock; mine = e })
          (λ n z r ne u e. record { x = z; o = r; open_one = u; lock = was_held m h q.lock; mine = e })
          n q.x q.o q.open_one q.mine

  -- ---- tables

  not_creating : (z : Session) (stmt : Stmt) → (k : Creates v cells seats S.ledger z stmt) → k.j ≢ j
  not_creating z stmt k e =
      let alike = one_session seats j z x k.o o (subst (λ (n : ℕ). HasOpen seats n z k.o) e k.has) has_open in
      absurd (subst HasActed (ap (λ (u : Session). u.place) alike.0 ∙ R.place) k.acted)

  creates_then : (z : Session) (stmt : Stmt) → Creates v cells seats S.ledger z stmt → Creates v C' seats' S.ledger z stmt
  creates_then z stmt k = record { j = k.j; o = k.o; has = open_else seats j (sits s y) x o y o goes k.j z k.o (not_creating z stmt k) k.has; own = k.own; outside = k.outside; text = k.text; stands = k.stands; is = k.is; creates = k.creates; acted = k.acted; exclusive = subst (In _) (sym (held_same catalog_at)) k.exclusive }

  definitions_then : AreDefinitions v C' seats' S.ledger S.catalog.defs S.catalog.creator
  unfolding creates_then
  definitions_then = ⊎_elim (λ (e : S.catalog.defs ≡ defs_of T). inl e)
      (λ (u : IsUnderWay v cells seats S.ledger S.catalog.defs S.catalog.creator). inr (record { x = u.x; stmt = u.stmt; by = creates_then u.x u.stmt u.by; has_creator = u.has_creator; is = u.is })) S.tables_are_serial.definitions

  creator_then : (k : Creator) → S.catalog.creator ≡ Some k → GoesBack v C' S.ledger k
  creator_then k e = let was = S.tables_are_serial.goes_back k e in record { exclusive = subst (In _) (sym (held_same catalog_at)) was.exclusive; before = was.before }

  indexes_after : (def : TableDef) (xs : List (List ℕ)) → AreIndexes v cells seats S.ledger def xs → AreIndexes v C' seats' S.ledger def xs
  unfolding creates_then
  indexes_after def xs h = ⊎_elim (λ (e : xs ≡ ordinals_of def.indexes). inl e)
      (λ (k : (z : Session) × (stmt : Stmt) × (after : TableDef) × (by : Creates v cells seats S.ledger z stmt) × (def_at (defs_of (defined (change_set T stmt).definition T)) def.id ≡ Some after) × (xs ≡ ordinals_of after.indexes) × IsAdding z.place by.o after (cell_of def.id)). inr (k.0, k.1, k.2, creates_then k.0 k.1 k.3, k.4, k.5, k.6)) h

  abbrev Ordinals : TableCell → List (List ℕ)
  Ordinals e = map (λ q. q.ordinals) e.indexes

  ordinals_left : Ordinals d ≡ Ordinals c
  ordinals_left = ap Ordinals R.cell ∙ same_ordinals c.key (versions_undone o.id seq c.versions) c.indexes

  indexed_else : (place : SessionStatus) → IsIndexed cells place → IsIndexed C' place
  indexed_else (inside at (made def true)) was = λ m cell t k. let f = table_there (get_elem? C' m) cell t in ⊎_elim
      (λ (q : m ≡ i). let found_it : some (Rows d) ≡ some (Rows cell) = sym (set_here cells i (Rows c) (Rows d) R.out) ∙ ap (get_elem? C') (sym q) ∙ f in
      let same : d ≡ cell = cc in subst (λ (u : TableCell). u.id ≡ def.id → Ordinals u ≡ ordinals_of def.indexes) same (λ id. ordinals_left ∙ was i c (ap table_found R.out) (sym id_left ∙ id)) k)
      (λ (d : m ≢ i). was m cell (ap table_found (sym (set_else cells i m _ d) ∙ f)) k)
      (cases_eq m i)
  indexed_else (inside at (made def false)) was = tt
  indexed_else place was = tt

  kept_there : KeptRows (place_in S.ledger.items) columns W
  kept_there = subst (λ (ds : Defs). KeptRows (place_in S.ledger.items) (columns_at ds c.id) W) end_defs
      (kept_script v.reads S.ledger.items S.ledger_is_legal.legal o.id (elsewhere v cells seats S j x o has_open R.unfixed) o.explicit (texts_so_far x o) c.id)

  stands_here : (def : Option TableDef) → def_at (defs_of T) c.id ≡ def → StandsAs v cells seats S.ledger c def → StandsAs v C' seats' S.ledger d def
  stands_here None e h = subst (λ (u : TableCell). (u.versions ≡ []) × (u.order ≡ []) × (u.indexes ≡ [])) (sym R.cell) (nothing_undone_to o.id seq c h)
  stands_here (Some def) e h =
      let f : Formed def.columns d.versions d = subst (λ (u : TableCell). Formed def.columns u.versions u) (sym R.cell) (formed_undone def.columns o.id seq c (record { key = h.key; order = h.in_key_order; projections = h.projections })) in
      let cols : columns ≡ def.columns = found_columns (defs_of T) c.id def e in
      let k = kept_by_key def.columns d.versions c.versions W (subst (λ (q : List ColumnDef). ByKey q d.versions c.versions W) cols by_keys) (place_in S.ledger.items)
      (subst (λ (q : List ColumnDef). KeptRows (place_in S.ledger.items) q W) cols kept_there) h.fit h.keys_differ in
      record { key = f.key; fit = k.0; in_key_order = f.order; keys_differ = k.1; projections = f.projections; indexes = subst (AreIndexes v C' seats' S.ledger def) (sym ordinals_left) (indexes_after def (Ordinals c) h.indexes) }

  stands_else : (cell : TableCell) (def : Option TableDef) → StandsAs v cells seats S.ledger cell def → StandsAs v C' seats' S.ledger cell def
  stands_else cell None h = h
  stands_else cell (Some def) h = record { key = h.key; fit = h.fit; in_key_order = h.in_key_order; keys_differ = h.keys_differ; projections = h.projections; indexes = indexes_after def (map (λ q. q.ordinals) cell.indexes) h.indexes }

  at_cells : (n : ℕ) (cell : TableCell) → get_elem? C' n ≡ some (Rows cell) → StandsAs v C' seats' S.ledger cell (def_at (defs_of T) cell.id)
  at_cells n cell e = ⊎_elim
      (λ (q : n ≡ i). let found_it : some (Rows d) ≡ some (Rows cell) = sym (set_here cells i (Rows c) (Rows d) R.out) ∙ ap (get_elem? C') (sym q) ∙ e in
      let same : d ≡ cell = cc in subst (λ (u : TableCell). StandsAs v C' seats' S.ledger u (def_at (defs_of T) u.id)) same
      (subst (λ (m : ℕ). StandsAs v C' seats' S.ledger d (def_at (defs_of T) m)) (sym id_left) (stands_here (def_at (defs_of T) c.id) refl (S.tables_are_serial.tables i c (ap table_found R.out)))))
      (λ (ne : n ≢ i). stands_else cell (def_at (defs_of T) cell.id) (S.tables_are_serial.tables n cell (ap table_found (sym (set_else cells i n _ ne) ∙ e))))
      (cases_eq n i)

  are_cells : AreCells C' S.catalog S.ledger
  are_cells = subst (λ (m : ℕ). AreCells (set cells m (Rows d)) S.catalog S.ledger) (sym at.is) (table_changed cells S.catalog S.ledger at.n c d (ap (get_elem? cells) (sym at.is) ∙ R.out) id_left S.are_cells)

  commits_same : committed S.ledger.items d.versions ≡ committed S.ledger.items c.versions
  commits_same = committed_undone S.ledger.items o.id (mine_out 0) d.versions
      ∙ ap (λ (vs : List Version). committed S.ledger.items (versions_undone o.id 0 vs)) versions_left
      ∙ ap (committed S.ledger.items) (undone_twice o.id 0 seq c.versions (omega arith))
      ∙ sym (committed_undone S.ledger.items o.id (mine_out 0) c.versions)

  same_shown : (b : Bool) → shown_with v.meaning b o.id text (going_back seq (i ∷ rest)) ≡ shown_with v.meaning b o.id text (going_back seq rest)
  same_shown true = refl
  same_shown false = refl

  same_fits : (b : Bool) (n : ℕ) → FitsWith v.meaning b n text (going_back seq (i ∷ rest)) o.id o.end → FitsWith v.meaning b n text (going_back seq rest) o.id o.end
  same_fits true n f = f
  same_fits false n f = f

  -- a transaction that drops, on its way back, what it did in a table's cell keeps cells and seats together
  pub undoes_stand : Stands v history C' seats'
  undoes_stand = record {
    catalog = S.catalog;
    ledger = S.ledger;
    are_cells = are_cells;
    ledger_is_legal = S.ledger_is_legal;
    tables_are_serial = record {
      definitions = definitions_then;
      goes_back = creator_then;
      carried = each_open seats j (sits s y) x o y o goes (λ n z r. r.end ≡ unfixed → IsCarried S.catalog.defs T (script_end v T z r).state.tables)
          (λ e. subst (λ (q : ScriptEnd). IsCarried S.catalog.defs T q.state.tables) (sym same_end) (S.tables_are_serial.carried j x o has_open R.unfixed)) (λ n z r ne h e. S.tables_are_serial.carried n z r h e);
      indexed = each_open seats j (sits s y) x o y o goes (λ n z r. r.end ≡ unfixed → IsIndexed C' z.place) (λ e. tt) (λ n z r ne h e. indexed_else z.place (S.tables_are_serial.indexed n z r h e));
      versions = by_table (λ id. committed S.ledger.items (versions_at C' id) ≡ versions_of T id)
          (ap (committed S.ledger.items) rows_are ∙ commits_same ∙ ap (committed S.ledger.items) (sym rows_were) ∙ S.tables_are_serial.versions c.id one_le)
          (λ id l ne. ap (committed S.ledger.items) (rows_else id ne) ∙ S.tables_are_serial.versions id l);
      tables = λ n cell e. at_cells n cell (table_there (get_elem? C' n) cell e);
    };
    rows_agree = rows_agree;
    open_scripts = scripts;
    locks_cover = covered;
    locks_agree = agree;
    trees_are_of_events = trees;
    transcripts_agree = stage_act v cells seats S j s R.there x R.role o R.open_one text (going_back seq (i ∷ rest)) (going_back seq rest) R.place same_shown refl refl same_fits refl (λ answered a h. h) o (record { id = refl; explicit = refl; script = refl; end = refl });
  }
