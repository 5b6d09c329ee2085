-- A transaction whose end is fixed undoes what it did in the catalog, unless it is committed, and gives its locks there up: cells and seats stand
-- together.
use Rattle.std.proofs.Common.{◌≡◌, ◌≢◌, ◌⊎◌, ℕ, suc, ◌≤◌, Bool, true, false, List, [], map, set, Option, Some, None, refl, sym, ap, ◌∙◌, subst, inl, inr, ⊎_elim, arith}
use Rattle.std.proofs.lemmas.Bool.{cases_eq, eq-eqb, ne_eqb, eqb-true, eqb-false}
use Rattle.std.specs.Prelude.{◌==◌, not, if◌then◌else◌}
use Rattle.std.specs.List.{AllByRecursion, filter}
use mathlib.Core.Option.{some}
use lib.ListN.{get_elem?}
use Rattle.sql_value.specs.declared.column.ColumnDef.{ColumnDef}
use Rattle.sql_types.specs.declared.lock.Mode.TheVariants.{X}
use Rattle.sql_types.specs.declared.statement.Stmt.{Stmt}
use Rattle.sql_types.specs.declared.table.TableDef.{TableDef}
use Rattle.sql_types.specs.declared.version.Version.{Version}
use Rattle.spec_model.specs.Rows.{EventId, value_or_null}
use Rattle.spec_model.specs.Keys.{Key, key_of, of_key}
use Rattle.spec_model.specs.Catalog.{Tables, defs_of, versions_of}
use Rattle.spec_model.specs.Journals.{Line, serial, upto}
use Rattle.spec_model.specs.Locks.{whole}
use Rattle.spec_model.specs.Agreement.{columns_at}
use Rattle.spec_model.specs.ChangeSets.{change_set, defined}
use Rattle.spec_model.specs.Runs.{Rising, EndsBefore, MadeBefore}
use Rattle.spec_model.specs.Undo.{versions_undone}
use Rattle.spec_history.specs.Lists.{Each, In}
use Rattle.spec_history.specs.Refusals.{EndsAt}
use Rattle.spec_history.specs.Transactions.{End, unfixed}
use Rattle.spec_history.proofs.Trace.{each_weaker}
use Rattle.spec_protocol.specs.Server.{Server}
use Rattle.sql_types.specs.declared.lock.Hold.{Hold}
use Rattle.spec_protocol.specs.Cells.{Creator, TableCell, Cell, Rows, holds_at, versions_at, catalog_at, cell_of}
use Rattle.spec_protocol.specs.Seats.{OpenTransaction, begun, found, made, going_back, replied, answering, refused, SessionStatus, between, inside, leaving, Session, SeatState}
use Rattle.spec_protocol.specs.OpenOnes.{HasOpen, script_so_far, script_end}
use Rattle.spec_protocol.specs.OpenScripts.{counted}
use Rattle.spec_protocol.specs.EventsIn.{events_in}
use Rattle.spec_protocol.specs.Moves.{releasing, at_place, sits}
use Rattle.spec_protocol.specs.RequestsIn.{requests_in, Holds, of_catalog}
use Rattle.spec_protocol.specs.TablesAreSerial.{def_at, ordinals_of, IsAdding, IsCarried}
use Rattle.spec_protocol.specs.LocksCover.{KeepsLocks, Belongs, HasIntent, LookedFirst, IsDropping}
use Rattle.spec_protocol.specs.StandTogether.{History, Stands}
use Rattle.law_protocol_steps.proofs.AfterSet.{set_here, set_else, each_at, all_at}
use Rattle.law_protocol_steps.proofs.SeatsAfter.{Goes, one_session, open_here, open_else, each_open}
use Rattle.law_protocol_steps.proofs.CellsAfter.{held_here, holds_here, holds_else}
use Rattle.law_protocol_steps.proofs.SameOne.{no_change}
use Rattle.law_protocol_steps.proofs.Excluded.{HasX, HasNoX, has_x_or_not}
use Rattle.law_protocol_steps.proofs.SeatIds.{one_seat, outside}
use Rattle.law_protocol_tables.proofs.FixedOnes.{is_placed}
use Rattle.law_protocol_steps.proofs.DefsAfter.{found_id}
use Rattle.law_protocol_changes.proofs.ChangedRows.{undone_of_key, rising_undone, undone_untouched, undone_before, touched_agree, IsCounted, all_count, some_undone, counted_is, was_in}
use Rattle.law_protocol_changes.proofs.ChangeKeeps.{untouched, at_in}
use Rattle.law_protocol_steps.proofs.Takes.{tables_now}
use Rattle.law_protocol_steps.proofs.TakesInTable.{table_place, cell_at}
use Rattle.sql_types.specs.declared.lock.LockRequest.{LockRequest}
use Rattle.spec_model.specs.Reach.{lets_change}
use Rattle.law_protocol_changes.proofs.CommittedRows.{committed_undone}
use Rattle.law_protocol_tables.proofs.Releases.{left_by}
use Rattle.law_protocol_tables.proofs.FixedOnes.{is_committed}
use Rattle.spec_protocol.specs.UndoVisits.{catalog_left, defs_before, creator_left, ReleasesCatalog}
use Rattle.spec_protocol.specs.Cells.{CatalogCell, Catalog, versions_in}
use Rattle.law_protocol_steps.proofs.CellsAfter.{catalog_changed, versions_here, were_here, versions_else}
use Rattle.law_protocol_changes.proofs.ChangedRows.{in_passed}
use Rattle.law_protocol_changes.proofs.ChangeKeeps.{passes}
use Rattle.law_protocol_changes.proofs.Creating.{others_keep}
use Rattle.spec_protocol.specs.RowsAgree.{GoesBackTo, IsExplicitAt}
use Rattle.spec_model.specs.SystemTables.{tables_id}
use Rattle.law_frame.proofs.UndoneVersions.{nothing_undone}
use Rattle.law_protocol_tables.proofs.UndoneTwice.{WasIn, was_undone}
use Rattle.spec_history.specs.Transactions as en
use Rattle.law_protocol_steps.proofs.SameOne.{trees_from}
use Rattle.law_protocol_steps.proofs.OfCells.{AreDefinitions, AreIndexes, Creates, EndLiesUnder, GoesBack, HasItsTrees, HasLock, HoldsInCatalog, IsFree, IsGotAt, IsIndexed, IsOfItsScript, IsUnderLocks, IsUnderWay, LiesUnder, LocksAgree, LocksCover, OpenScripts, RowsAgree, SeatHas, StandsAs, TreesAreOfEvents, RequestsNone, committed, events_counted, in_journal, LookedAt, looked_now, looked_so, table_there}
use Rattle.law_protocol_changes.proofs.Apart.{x_apart}
use Rattle.spec_protocol.specs.Contents.{HasAlone, contents, table_found}
use Rattle.law_protocol_steps.proofs.FreshIds.{events_of_touched}
use Rattle.law_protocol_steps.proofs.GotMore.{got_at_more}
use Rattle.law_protocol_steps.proofs.Ids.{others}
use Rattle.spec_model.specs.Holds.{released}
use Rattle.law_protocol_steps.proofs.Taken.{released_is}
use Rattle.spec_model.specs.ScriptRequests.{text_requests}
use Rattle.spec_model.specs.Touched.{touched}
use Rattle.law_protocol_steps.proofs.VisitActs.{unmoved}

rows_left : (e : End) (tx id : ℕ) (c : CatalogCell) → versions_in id (Catalog (catalog_left e tx c)) ≡ left_by (is_committed e) tx (versions_in id (Catalog c))
rows_left (en.committed n) tx id c = refl
rows_left en.unfixed tx id c = by (id == tables_id)
  where
    by : (b : Bool) → (if b then versions_undone tx 0 c.tables else versions_undone tx 0 c.columns) ≡ versions_undone tx 0 (if b then c.tables else c.columns)
    by true = refl
    by false = refl
rows_left (en.ended n back) tx id c = by (id == tables_id)
  where
    by : (b : Bool) → (if b then versions_undone tx 0 c.tables else versions_undone tx 0 c.columns) ≡ versions_undone tx 0 (if b then c.tables else c.columns)
    by true = refl
    by false = refl

holds_left : (e : End) (tx : ℕ) (c : CatalogCell) → (catalog_left e tx c).holds ≡ released c.holds tx
holds_left (en.committed n) tx c = refl
holds_left en.unfixed tx c = refl
holds_left (en.ended n back) tx c = refl

creator_is : (e : End) (tx : ℕ) (c : CatalogCell) → (catalog_left e tx c).creator ≡ creator_left tx c.creator
creator_is (en.committed n) tx c = refl
creator_is en.unfixed tx c = refl
creator_is (en.ended n back) tx c = refl

-- the definitions are as they were, or those before it
pub data DefsLeft (tx : ℕ) (c d : CatalogCell) : Type 0 where
  same_defs : d.defs ≡ c.defs → DefsLeft tx c d
  gone : (k : Creator) → c.creator ≡ Some k → k.tx ≡ tx → d.defs ≡ k.before → DefsLeft tx c d

went : (tx : ℕ) (c d : CatalogCell) (o : Option Creator) → c.creator ≡ o → d.defs ≡ defs_before tx o c.defs → DefsLeft tx c d
went tx c d None e h = same_defs h
went tx c d (Some k) e h = by (k.tx == tx) refl h
  where
    by : (b : Bool) → (k.tx == tx) ≡ b → d.defs ≡ (if b then k.before else c.defs) → DefsLeft tx c d
    by true f g = gone k e (eqb-true k.tx tx f) g
    by false f g = same_defs g

defs_left : (e : End) (tx : ℕ) (c d : CatalogCell) → d ≡ catalog_left e tx c → DefsLeft tx c d
defs_left (en.committed n) tx c d e = same_defs (ap (λ (q : CatalogCell). q.defs) e)
defs_left en.unfixed tx c d e = went tx c d c.creator refl (ap (λ (q : CatalogCell). q.defs) e)
defs_left (en.ended n back) tx c d e = went tx c d c.creator refl (ap (λ (q : CatalogCell). q.defs) e)

-- who is left there isn't this one
creator_other : (tx : ℕ) (o : Option Creator) (k : Creator) → creator_left tx o ≡ Some k → (o ≡ Some k) × (k.tx ≢ tx)
creator_other tx None k e = cc
creator_other tx (Some q) k e = by (q.tx == tx) refl e
  where
    by : (b : Bool) → (q.tx == tx) ≡ b → (if b then None else Some q) ≡ Some k → (Some q ≡ Some k) × (k.tx ≢ tx)
    by true f g = cc
    by false f g = let same : q ≡ k = cc in (g, subst (λ (r : Creator). r.tx ≢ tx) same (eqb-false q.tx tx f))

creator_stays : (tx : ℕ) (k : Creator) → k.tx ≢ tx → creator_left tx (Some k) ≡ Some k
creator_stays tx k ne = rw (ne_eqb k.tx tx ne) refl

module _ (v : Server) (cells : List Cell) (seats : List SeatState) {history : History} (S : Stands v history cells seats) (j : ℕ) (s : SeatState) (there : get_elem? seats j ≡ some s) (c d : CatalogCell) (t : SeatState) (out : get_elem? cells catalog_at ≡ some (Catalog c)) (L : ReleasesCatalog c s d t) where
  abbrev T : Tables
  T = tables_now S

  abbrev x : Session
  x = L.x

  abbrev o : OpenTransaction
  o = L.o

  abbrev placed : Bool
  placed = is_committed o.end

  has_open : HasOpen seats j x o
  has_open = record { seat = s; there = there; role = L.at.role; open_one = L.at.open_one }

  is_catalog : c ≡ S.catalog
  is_catalog = let e : some (Catalog c) ≡ some (Catalog S.catalog) = sym out ∙ S.are_cells.has_catalog in cc

  mine_is : (m : ℕ) → in_journal S.ledger.items (o.id, m) ≡ placed
  mine_is = is_placed v cells seats S j x o has_open L.at.fixed

  abbrev p : OpenTransaction
  p = releasing catalog_at o

  abbrev y : Session
  y = at_place (Some p) x.place x

  abbrev C' : List Cell
  C' = set cells catalog_at (Catalog d)

  abbrev seats' : List SeatState
  seats' = set seats j (sits s y)

  goes : Goes seats j (sits s y) x o y p
  goes = record { before = has_open; role = refl; open_one = refl }

  by_cell : (P : ℕ → Type 0) → ((id : ℕ) → 1 ≤ id → cell_of id ≡ catalog_at → P id) → ((id : ℕ) → 1 ≤ id → cell_of id ≢ catalog_at → P id) → (id : ℕ) → 1 ≤ id → P id
  by_cell P this others id l = ⊎_elim (λ (e : cell_of id ≡ catalog_at). this id l e) (λ (ne : cell_of id ≢ catalog_at). others id l ne) (cases_eq (cell_of id) catalog_at)

  rows_are : (id : ℕ) → cell_of id ≡ catalog_at → versions_at C' id ≡ left_by placed o.id (versions_at cells id)
  rows_are id e = versions_here cells catalog_at (Catalog c) (Catalog d) out id e ∙ ap (λ (q : CatalogCell). versions_in id (Catalog q)) L.cell ∙ rows_left o.end o.id id c ∙ ap (left_by placed o.id) (sym (were_here cells catalog_at (Catalog c) (Catalog d) out id e))

  rows_else : (id : ℕ) → cell_of id ≢ catalog_at → versions_at C' id ≡ versions_at cells id
  rows_else = versions_else cells catalog_at (Catalog c) (Catalog d) out

  holds_are : holds_at C' catalog_at ≡ filter (λ g. not (g.tx == o.id)) (holds_at cells catalog_at)
  holds_are = holds_here cells catalog_at (Catalog c) (Catalog d) out ∙ ap (λ (q : CatalogCell). q.holds) L.cell ∙ holds_left o.end o.id c ∙ released_is c.holds o.id ∙ ap (filter (λ g. not (g.tx == o.id))) (sym (held_here cells catalog_at (Catalog c) (Catalog d) out))

  same_holds : (n : ℕ) → n ≢ catalog_at → holds_at C' n ≡ holds_at cells n
  same_holds = holds_else cells catalog_at (Catalog c) (Catalog d) out

  was_held : (n : ℕ) (h : Hold) → In h (holds_at C' n) → In h (holds_at cells n)
  was_held n h has = ⊎_elim
      (λ (e : n ≡ catalog_at). subst (λ (m : ℕ). In h (holds_at cells m)) (sym e) (was_in (λ g. not (g.tx == o.id)) h (holds_at cells catalog_at) (subst (In h) holds_are (subst (λ (m : ℕ). In h (holds_at C' m)) e has))))
      (λ (ne : n ≢ catalog_at). subst (In h) (same_holds n ne) has)
      (cases_eq n catalog_at)

  is_held : (n : ℕ) (h : Hold) → h.tx ≢ o.id → In h (holds_at cells n) → In h (holds_at C' n)
  is_held n h ne has = ⊎_elim
      (λ (e : n ≡ catalog_at). subst (λ (m : ℕ). In h (holds_at C' m)) (sym e) (subst (In h) (sym holds_are) (in_passed (λ g. not (g.tx == o.id)) h (holds_at cells catalog_at) (subst (λ (m : ℕ). In h (holds_at cells m)) e has) (ap not (ne_eqb h.tx o.id ne)))))
      (λ (nd : n ≢ catalog_at). subst (In h) (sym (same_holds n nd)) has)
      (cases_eq n catalog_at)

  not_mine_here : (h : Hold) → In h (holds_at C' catalog_at) → h.tx ≢ o.id
  not_mine_here h has m = let z : not (h.tx == o.id) ≡ true = passes (λ g. not (g.tx == o.id)) h (holds_at cells catalog_at) (subst (In h) holds_are has) in let q : not (h.tx == o.id) ≡ false = ap not (eq-eqb h.tx o.id m) in cc

  other_id : (n : ℕ) (z : Session) (r : OpenTransaction) → n ≢ j → HasOpen seats n z r → r.id ≢ o.id
  other_id n z r ne h e = ne (one_seat v cells seats S n j z x r o h has_open e)

  -- ---- the rows of a key, in the catalog's cell

  module _ (id : ℕ) (l : 1 ≤ id) (here : cell_of id ≡ catalog_at) where
    abbrev columns : List ColumnDef
    columns = columns_at (defs_of T) id

    abbrev V : List Version
    V = versions_at cells id

    kept : (b : Bool) → ((n : ℕ) → in_journal S.ledger.items (o.id, n) ≡ b) → (key : Key) → HasNoX (holds_at cells (cell_of id)) o.id key → of_key columns key (left_by b o.id V) ≡ of_key columns key V
    kept true e key free = refl
    kept false e key free = sym (undone_of_key columns key o.id 0 V) ∙ nothing_undone o.id 0 (of_key columns key V) (untouched v cells seats S id l key o.id e free)

    kept_key : (key : Key) → HasNoX (holds_at cells (cell_of id)) o.id key → of_key columns key (versions_at C' id) ≡ of_key columns key V
    kept_key key free = ap (of_key columns key) (rows_are id here) ∙ kept placed mine_is key free

    given : (b : Bool) → ((n : ℕ) → in_journal S.ledger.items (o.id, n) ≡ b) → (key : Key) → HasX (holds_at cells (cell_of id)) o.id key → of_key columns key (left_by b o.id V) ≡ of_key columns key (versions_of T id)
    given true e key k = S.rows_agree.free id key l all_placed
      where
        all_placed : IsFree (holds_at cells (cell_of id)) S.ledger key
        all_placed h has reach = ⊎_elim (λ (m : h.tx ≡ o.id). ap (λ (n : ℕ). in_journal S.ledger.items (n, 0)) m ∙ e 0)
            (λ (ne : h.tx ≢ o.id). absurd (x_apart v cells seats S (cell_of id) key k.hold h k.has has (λ q. ne (q ∙ k.mine)) k.reaches reach)) (cases_eq h.tx o.id)
    given false e key k = sym (undone_of_key columns key o.id 0 V)
        ∙ ap (λ (n : ℕ). versions_undone n 0 (of_key columns key V)) (sym k.mine)
        ∙ S.rows_agree.undone id key l k.hold k.has (ap (λ (n : ℕ). in_journal S.ledger.items (n, 0)) k.mine ∙ e 0) k.reaches

    free_here : (key : Key) → IsFree (holds_at C' (cell_of id)) S.ledger key → of_key columns key (versions_at C' id) ≡ of_key columns key (versions_of T id)
    free_here key f = by (has_x_or_not (holds_at cells (cell_of id)) o.id key)
      where
        before_too : HasNoX (holds_at cells (cell_of id)) o.id key → IsFree (holds_at cells (cell_of id)) S.ledger key
        before_too free h has reach = ⊎_elim (λ (m : h.tx ≡ o.id). absurd (let z : lets_change key h.request ≡ false = free h has m in cc)) (λ (ne : h.tx ≢ o.id). f h (is_held (cell_of id) h ne has) reach) (cases_eq h.tx o.id)

        by : HasX (holds_at cells (cell_of id)) o.id key ⊎ HasNoX (holds_at cells (cell_of id)) o.id key → of_key columns key (versions_at C' id) ≡ of_key columns key (versions_of T id)
        by (inl k) = ap (of_key columns key) (rows_are id here) ∙ given placed mine_is key k
        by (inr free) = kept_key key free ∙ S.rows_agree.free id key l (before_too free)

    -- who still has X there isn't this one
    none_left : (key : Key) (h : Hold) → In h (holds_at C' (cell_of id)) → lets_change key h.request ≡ true → HasNoX (holds_at cells (cell_of id)) o.id key
    none_left key h has reach g k m = by (lets_change key g.request) refl
      where
        by : (b : Bool) → lets_change key g.request ≡ b → b ≡ false
        by true e = absurd (x_apart v cells seats S (cell_of id) key g h k (was_held (cell_of id) h has) (λ q. not_mine_here h (subst (λ (n : ℕ). In h (holds_at C' n)) here has) (q ∙ m)) e reach)
        by false e = refl

    rising_here : Rising (versions_at C' id)
    rising_here = subst Rising (sym (rows_are id here)) (by placed)
      where
        by : (b : Bool) → Rising (left_by b o.id V)
        by true = S.rows_agree.rising id l
        by false = rising_undone o.id 0 V (S.rows_agree.rising id l)

    left_untouched : (b : Bool) (other m : ℕ) (vs : List Version) → AllByRecursion (MadeBefore other m) vs → AllByRecursion (MadeBefore other m) (left_by b o.id vs)
    left_untouched true other m vs h = h
    left_untouched false other m vs h = undone_untouched other o.id 0 m vs h

    before_here : (other n : ℕ) (place : SessionStatus) → IsCounted other id place → GoesBackTo place n → AllByRecursion (MadeBefore other n) (counted other id place V) → AllByRecursion (MadeBefore other n) (counted other id place (versions_at C' id))
    before_here other n place (all_count same) back h = subst (AllByRecursion (MadeBefore other n)) (sym (same _ ∙ rows_are id here)) (left_untouched placed other n V (subst (AllByRecursion (MadeBefore other n)) (same _) h))
    before_here other n place (some_undone k to same) back h = subst (AllByRecursion (MadeBefore other n)) (sym (same _)) (subst (λ (m : ℕ). AllByRecursion (MadeBefore other m) (versions_undone other k (versions_at C' id))) (to n back) (undone_before other k _))

    commits_here : committed S.ledger.items (versions_at C' id) ≡ committed S.ledger.items V
    commits_here = ap (committed S.ledger.items) (rows_are id here) ∙ by placed mine_is
      where
        by : (b : Bool) → ((n : ℕ) → in_journal S.ledger.items (o.id, n) ≡ b) → committed S.ledger.items (left_by b o.id V) ≡ committed S.ledger.items V
        by true e = refl
        by false e = sym (committed_undone S.ledger.items o.id (e 0) V)

    -- ---- the events of another one

    module _ (n : ℕ) (z : Session) (r : OpenTransaction) (ne : n ≢ j) (has : HasOpen seats n z r) (unfixed_too : r.end ≡ unfixed) where
      none_his : (key : Key) → HasX (holds_at cells (cell_of id)) o.id key → AllByRecursion (MadeBefore r.id 0) (of_key columns key V)
      none_his key k = untouched v cells seats S id l key r.id (λ m. outside v cells seats S n z r m has unfixed_too) other_free
        where
          other_free : HasNoX (holds_at cells (cell_of id)) r.id key
          other_free h has_h m = by (lets_change key h.request) refl
            where
              by : (b : Bool) → lets_change key h.request ≡ b → b ≡ false
              by true e = absurd (x_apart v cells seats S (cell_of id) key k.hold h k.has has_h (λ q. other_id n z r ne has (sym m ∙ q ∙ k.mine)) k.reaches e)
              by false e = refl

      left_key : (b : Bool) (key : Key) (vs : List Version) → of_key columns key (left_by b o.id vs) ≡ left_by b o.id (of_key columns key vs)
      left_key true key vs = refl
      left_key false key vs = sym (undone_of_key columns key o.id 0 vs)

      none_then : (key : Key) → HasX (holds_at cells (cell_of id)) o.id key → AllByRecursion (MadeBefore r.id 0) (of_key columns key (versions_at C' id))
      none_then key k = subst (AllByRecursion (MadeBefore r.id 0)) (sym (ap (of_key columns key) (rows_are id here) ∙ left_key placed key V)) (left_untouched placed r.id 0 (of_key columns key V) (none_his key k))

      their_keys : (f : List Version → List Version) → ((vs : List Version) → AllByRecursion (MadeBefore r.id 0) vs → AllByRecursion (MadeBefore r.id 0) (f vs)) → (key : Key)
          → (f (of_key columns key (versions_at C' id)) ≡ f (of_key columns key V)) ⊎ (AllByRecursion (MadeBefore r.id 0) (f (of_key columns key (versions_at C' id))) × AllByRecursion (MadeBefore r.id 0) (f (of_key columns key V)))
      their_keys f keeps key = ⊎_elim
          (λ (k : HasX (holds_at cells (cell_of id)) o.id key). inr (keeps _ (none_then key k), keeps _ (none_his key k)))
          (λ (k : HasNoX (holds_at cells (cell_of id)) o.id key). inl (ap f (kept_key key k)))
          (has_x_or_not (holds_at cells (cell_of id)) o.id key)

      turned : (seq : ℕ) (key : Key) → (versions_undone r.id seq (of_key columns key (versions_at C' id)) ≡ versions_undone r.id seq (of_key columns key V)) ⊎ (AllByRecursion (MadeBefore r.id 0) (versions_undone r.id seq (of_key columns key (versions_at C' id))) × AllByRecursion (MadeBefore r.id 0) (versions_undone r.id seq (of_key columns key V)))
          → (of_key columns key (versions_undone r.id seq (versions_at C' id)) ≡ of_key columns key (versions_undone r.id seq V)) ⊎ (AllByRecursion (MadeBefore r.id 0) (of_key columns key (versions_undone r.id seq (versions_at C' id))) × AllByRecursion (MadeBefore r.id 0) (of_key columns key (versions_undone r.id seq V)))
      turned seq key (inl e) = inl (sym (undone_of_key columns key r.id seq (versions_at C' id)) ∙ e ∙ undone_of_key columns key r.id seq V)
      turned seq key (inr h) = inr (subst (AllByRecursion (MadeBefore r.id 0)) (undone_of_key columns key r.id seq (versions_at C' id)) h.0, subst (AllByRecursion (MadeBefore r.id 0)) (undone_of_key columns key r.id seq V) h.1)

      their_seen : IsCounted r.id id z.place → touched r.id (counted r.id id z.place (versions_at C' id)) ≡ touched r.id (counted r.id id z.place V)
      their_seen (all_count same) = ap (touched r.id) (same _) ∙ touched_agree r.id columns (versions_at C' id) V rising_here (S.rows_agree.rising id l) (λ key. their_keys (λ vs. vs) (λ vs h. h) key) ∙ ap (touched r.id) (sym (same _))
      their_seen (some_undone k to same) = ap (touched r.id) (same _)
          ∙ touched_agree r.id columns (versions_undone r.id k (versions_at C' id)) (versions_undone r.id k V) (rising_undone r.id k _ rising_here) (rising_undone r.id k _ (S.rows_agree.rising id l))
          (λ key. turned k key (their_keys (versions_undone r.id k) (undone_untouched r.id r.id k 0) key)) ∙ ap (touched r.id) (sym (same _))

  key_else : (id : ℕ) (key : Key) (q : List Version → List Version) → cell_of id ≢ catalog_at → q (of_key (columns_at (defs_of T) id) key (versions_at C' id)) ≡ q (of_key (columns_at (defs_of T) id) key (versions_at cells id))
  key_else id key q ne = ap (λ (vs : List Version). q (of_key (columns_at (defs_of T) id) key vs)) (rows_else id ne)

  rows_agree : RowsAgree v C' S.ledger seats'
  rows_agree = record {
    free = λ id key l. by_cell (λ id. IsFree (holds_at C' (cell_of id)) S.ledger key → of_key (columns_at (defs_of T) id) key (versions_at C' id) ≡ of_key (columns_at (defs_of T) id) key (versions_of T id))
        (λ id l e f. free_here id l e key f) (λ id l ne f. key_else id key (λ vs. vs) ne ∙ S.rows_agree.free id key l (λ h has q. f h (subst (In h) (sym (same_holds (cell_of id) ne)) has) q)) id l;
    own = each_open seats j (sits s y) x o y p goes
        (λ n z r. r.end ≡ unfixed → (id : ℕ) (key : Key) → 1 ≤ id → (h : Hold) → In h (holds_at C' (cell_of id)) → h.tx ≡ r.id → lets_change key h.request ≡ true
        → counted r.id id z.place (of_key (columns_at (defs_of T) id) key (versions_at C' id)) ≡ of_key (columns_at (defs_of T) id) key (versions_of (script_end v T z r).state.tables id))
        (λ e. absurd (L.at.fixed e))
        (λ n z r ne g e id key l. by_cell (λ id. (h : Hold) → In h (holds_at C' (cell_of id)) → h.tx ≡ r.id → lets_change key h.request ≡ true
        → counted r.id id z.place (of_key (columns_at (defs_of T) id) key (versions_at C' id)) ≡ of_key (columns_at (defs_of T) id) key (versions_of (script_end v T z r).state.tables id))
        (λ id l q h has m reach. ap (counted r.id id z.place) (kept_key id l q key (none_left id l q key h has reach)) ∙ S.rows_agree.own n z r g e id key l h (was_held (cell_of id) h has) m reach)
        (λ id l q h has m reach. key_else id key (counted r.id id z.place) q ∙ S.rows_agree.own n z r g e id key l h (was_held (cell_of id) h has) m reach) id l);
    undone = λ id key l. by_cell (λ id. (h : Hold) → In h (holds_at C' (cell_of id)) → in_journal S.ledger.items (h.tx, 0) ≡ false → lets_change key h.request ≡ true
        → versions_undone h.tx 0 (of_key (columns_at (defs_of T) id) key (versions_at C' id)) ≡ of_key (columns_at (defs_of T) id) key (versions_of T id))
        (λ id l q h has u reach. ap (versions_undone h.tx 0) (kept_key id l q key (none_left id l q key h has reach)) ∙ S.rows_agree.undone id key l h (was_held (cell_of id) h has) u reach)
        (λ id l q h has u reach. key_else id key (versions_undone h.tx 0) q ∙ S.rows_agree.undone id key l h (was_held (cell_of id) h has) u reach) id l;
    rising = by_cell (λ id. Rising (versions_at C' id)) rising_here (λ id l ne. subst Rising (sym (rows_else id ne)) (S.rows_agree.rising id l));
    back = each_open seats j (sits s y) x o y p goes (λ n z r. GoesBackTo z.place r.seq) (S.rows_agree.back j x o has_open) (λ n z r ne g. S.rows_agree.back n z r g);
    explicit = each_open seats j (sits s y) x o y p goes (λ n z r. IsExplicitAt z.place r.explicit) (S.rows_agree.explicit j x o has_open) (λ n z r ne g. S.rows_agree.explicit n z r g);
    before = each_open seats j (sits s y) x o y p goes
        (λ n z r. r.end ≡ unfixed → (id : ℕ) → 1 ≤ id → AllByRecursion (MadeBefore r.id r.seq) (counted r.id id z.place (versions_at C' id)))
        (λ e. absurd (L.at.fixed e))
        (λ n z r ne g e. by_cell (λ id. AllByRecursion (MadeBefore r.id r.seq) (counted r.id id z.place (versions_at C' id)))
        (λ id l q. before_here id l q r.id r.seq z.place (counted_is r.id id z.place) (S.rows_agree.back n z r g) (S.rows_agree.before n z r g e id l))
        (λ id l q. subst (λ (vs : List Version). AllByRecursion (MadeBefore r.id r.seq) (counted r.id id z.place vs)) (sym (rows_else id q)) (S.rows_agree.before n z r g e id l)));
  }

  abbrev seen : List Cell → Session → OpenTransaction → ℕ → List Version
  seen cs z r id = touched r.id (counted r.id id z.place (versions_at cs id))

  seen_stays : (n : ℕ) (z : Session) (r : OpenTransaction) → n ≢ j → HasOpen seats n z r → r.end ≡ unfixed → (id : ℕ) → 1 ≤ id → seen C' z r id ≡ seen cells z r id
  seen_stays n z r ne h e = by_cell (λ id. seen C' z r id ≡ seen cells z r id)
      (λ id l q. their_seen id l q n z r ne h e (counted_is r.id id z.place))
      (λ id l q. ap (λ (vs : List Version). touched r.id (counted r.id id z.place vs)) (rows_else id q))

  events_stay : (n : ℕ) (z : Session) (r : OpenTransaction) → n ≢ j → HasOpen seats n z r → r.end ≡ unfixed → (id : ℕ) → 1 ≤ id → events_counted C' z r id ≡ events_counted cells z r id
  events_stay n z r ne h e id l = events_of_touched r.id id _ ∙ ap (events_in r.id id) (seen_stays n z r ne h e id l) ∙ sym (events_of_touched r.id id _)

  scripts : OpenScripts v C' S.ledger seats'
  scripts = each_open seats j (sits s y) x o y p goes (λ n z r. r.end ≡ unfixed → IsOfItsScript v C' T z r)
      (λ e. absurd (L.at.fixed e))
      (λ n z r ne h e. let was = S.open_scripts n z r h e in record { replies = was.replies; versions = λ id l. seen_stays n z r ne h e id l ∙ was.versions id l; counter = was.counter; alone = was.alone })

  trees : TreesAreOfEvents v C' S.ledger seats'
  trees = each_open seats j (sits s y) x o y p goes (λ n z r. r.end ≡ unfixed → HasItsTrees v C' S.ledger z r)
      (λ e. absurd (L.at.fixed e))
      (λ n z r ne h e. let was = S.trees_are_of_events n z r h e in record { trees = trees_from z r z r (no_change z r) v (events_counted cells z r) (events_counted C' z r) r.trees (events_stay n z r ne h e) was.trees; open_savepoints = was.open_savepoints })

  -- ---- locks

  open_now : HasOpen seats' j y p
  open_now = open_here seats j (sits s y) x o y p goes

  lock_was : (n id : ℕ) → HasLock C' n id → HasLock cells n id
  lock_was n id l = record { hold = l.hold; has = was_held n l.hold l.has; mine = l.mine }

  lock_is : (n id : ℕ) → id ≢ o.id → HasLock cells n id → HasLock C' n id
  lock_is n id ne l = record { hold = l.hold; has = is_held n l.hold (λ e. ne (sym l.mine ∙ e)) l.has; mine = l.mine }

  none_mine : HasLock C' catalog_at o.id → ⊥
  none_mine l = not_mine_here l.hold l.has l.mine

  -- it has released all other cells
  all_others : (n : ℕ) → n ≢ catalog_at → In n o.visited → In n o.released
  all_others n ne h = ⊎_elim (λ (e : n ≡ catalog_at). absurd (ne e)) (λ (k : In n o.released). k) (each_at (λ m. (m ≡ catalog_at) ⊎ In m o.released) o.visited n L.others h)

  none_in_tables : (n : ℕ) → HasLock cells (suc n) o.id → ⊥
  none_in_tables n l =
      let b = S.locks_cover.belong (suc n) l.hold l.has in
      let e : b.j ≡ j = one_seat v cells seats S b.j j b.x x b.o o b.has has_open (b.mine ∙ l.mine) in
      let same = one_session seats j b.x x b.o o (subst (λ (m : ℕ). HasOpen seats m b.x b.o) e b.has) has_open in
      b.unreleased (subst (λ (r : OpenTransaction). In (suc n) r.released) (sym same.1) (all_others (suc n) (λ q. omega arith) (subst (λ (r : OpenTransaction). In (suc n) r.visited) same.1 b.visited)))

  still_held : (n id : ℕ) (w : LockRequest) → id ≢ o.id → Holds (holds_at cells n) id w → Holds (holds_at C' n) id w
  still_held n id w ne h = record { hold = h.hold; has = is_held n h.hold (λ e. ne (sym h.mine ∙ e)) h.has; mine = h.mine; item = h.item; mode = h.mode }

  belongs_then : (n : ℕ) (h : Hold) → In h (holds_at C' n) → Belongs seats n h → Belongs seats' n h
  belongs_then n h has b = ⊎_elim
      (λ (e : b.j ≡ j).
      let same = one_session seats j b.x x b.o o (subst (λ (m : ℕ). HasOpen seats m b.x b.o) e b.has) has_open in
      let mine : o.id ≡ h.tx = ap (λ (q : OpenTransaction). q.id) (sym same.1) ∙ b.mine in
      record {
        j = j;
        x = y;
        o = p;
        has = open_now;
        mine = mine;
        only = λ m z r g q. only m z r g q ∙ e;
        visited = subst (λ (q : OpenTransaction). In n q.visited) same.1 b.visited;
        unreleased = λ q. ⊎_elim (λ (f : catalog_at ≡ n). not_mine_here h (subst (λ (m : ℕ). In h (holds_at C' m)) (sym f) has) (sym mine)) (λ (f : In n o.released). b.unreleased (subst (λ (u : OpenTransaction). In n u.released) (sym same.1) f)) q;
      })
      (λ (ne : b.j ≢ j). record { j = b.j; x = b.x; o = b.o; has = open_else seats j (sits s y) x o y p goes b.j b.x b.o ne b.has; mine = b.mine; only = only; visited = b.visited; unreleased = b.unreleased })
      (cases_eq b.j j)
    where
      only : (m : ℕ) (z : Session) (r : OpenTransaction) → HasOpen seats' m z r → r.id ≡ h.tx → m ≡ b.j
      only = each_open seats j (sits s y) x o y p goes (λ m z r. r.id ≡ h.tx → m ≡ b.j) (λ e. b.only j x o has_open e) (λ m z r ne g e. b.only m z r g e)

  intent_stays : (n : ℕ) (h : Hold) → In h (holds_at C' n) → HasIntent (holds_at cells n) h → HasIntent (holds_at C' n) h
  intent_stays n h has t = ⊎_elim
      (λ (e : n ≡ catalog_at). let ne : h.tx ≢ o.id = not_mine_here h (subst (λ (m : ℕ). In h (holds_at C' m)) e has) in
      record { hold = t.hold; has = is_held n t.hold (λ q. ne (sym t.mine ∙ q)) t.has; mine = t.mine; whole = t.whole; mode = t.mode })
      (λ (ne : n ≢ catalog_at). record { hold = t.hold; has = subst (In t.hold) (sym (same_holds n ne)) t.has; mine = t.mine; whole = t.whole; mode = t.mode })
      (cases_eq n catalog_at)

  looked_then : (place : SessionStatus) (r : OpenTransaction) → r.id ≢ o.id → HoldsInCatalog v cells T place r → HoldsInCatalog v C' T place r
  looked_then place r ne h = record { lock = lock_is catalog_at r.id ne h.lock; requests = λ u e. each_weaker (Holds (holds_at cells catalog_at) r.id) (Holds (holds_at C' catalog_at) r.id) (λ w. still_held catalog_at r.id w ne) (of_catalog (text_requests (defs_of T) r.explicit (v.reads u)).catalog) (h.requests u e) }

  cover_here : (n : ℕ) → KeepsLocks p n → Each (λ l. Each (Holds (holds_at C' n) p.id) (requests_in v (defs_of T) p.explicit n l.0)) (script_so_far y p)
  cover_here n u = absurd (u.1 (inl refl))

  not_dropping : (place : SessionStatus) → IsDropping place p → ⊥
  not_dropping (inside text (answering reply (Some def))) h = ⊎_elim (λ (e : cell_of def.id ≡ catalog_at). h.1 (inl (sym e))) (λ (ne : cell_of def.id ≢ catalog_at). h.1 (inr (all_others (cell_of def.id) ne h.0))) (cases_eq (cell_of def.id) catalog_at)
  not_dropping (inside text (answering reply None)) h = h
  not_dropping (inside text begun) h = h
  not_dropping (inside text (found named fresh)) h = h
  not_dropping (inside text (made d indexed)) h = h
  not_dropping (inside text (going_back seq cells)) h = h
  not_dropping (inside text (replied reply)) h = h
  not_dropping (inside text (refused reply)) h = h
  not_dropping between h = h
  not_dropping leaving h = h

  -- ---- what isn't committed

  lies_else : (id : ℕ) (w : Version) (e : EventId) → cell_of id ≢ catalog_at → LiesUnder cells T id w e → LiesUnder C' T id w e
  lies_else id w e ne u = record { hold = u.hold; has = subst (In u.hold) (sym (same_holds (cell_of id) ne)) u.has; mine = u.mine; reaches = u.reaches }

  end_else : (id : ℕ) (w : Version) (e : Option EventId) → cell_of id ≢ catalog_at → EndLiesUnder v cells S.ledger id w e → EndLiesUnder v C' S.ledger id w e
  end_else id w None ne u = tt
  end_else id w (Some e) ne u = λ q. lies_else id w e ne (u q)

  module _ (id : ℕ) (l : 1 ≤ id) (here : cell_of id ≡ catalog_at) (w : Version) (there_is : In w (versions_at C' id)) where
    no_event : placed ≡ false → MadeBefore o.id 0 w
    no_event q = by placed (subst (In w) (rows_are id here) there_is) q
      where
        by : (b : Bool) → In w (left_by b o.id (versions_at cells id)) → b ≡ false → MadeBefore o.id 0 w
        by true h e = cc
        by false h e = at_in (MadeBefore o.id 0) (versions_undone o.id 0 (versions_at cells id)) w (undone_before o.id 0 (versions_at cells id)) h

    is_out : (e : EventId) → in_journal S.ledger.items e ≡ false → e.0 ≡ o.id → placed ≡ false
    is_out e q m = sym (mine_is e.1) ∙ ap (λ (n : ℕ). in_journal S.ledger.items (n, e.1)) (sym m) ∙ q

    start_other : in_journal S.ledger.items w.start ≡ false → w.start.0 ≢ o.id
    start_other q m = let k = (no_event (is_out w.start q m)).start m in omega arith

    end_other : (e : EventId) → w.end ≡ Some e → in_journal S.ledger.items e ≡ false → e.0 ≢ o.id
    end_other e is q m = let b : EndsBefore o.id 0 (Some e) = subst (EndsBefore o.id 0) is (no_event (is_out e q m)).end in let k = b m in omega arith

    was_there : WasIn (versions_at cells id) w
    was_there = by placed (subst (In w) (rows_are id here) there_is)
      where
        by : (b : Bool) → In w (left_by b o.id (versions_at cells id)) → WasIn (versions_at cells id) w
        by true h = record { was = w; there = h; values = refl; start = refl; end = inr refl }
        by false h = was_undone o.id 0 w (versions_at cells id) h

    lies_then : (u : Version) (e : EventId) → e.0 ≢ o.id → w.values ≡ u.values → LiesUnder cells T id u e → LiesUnder C' T id w e
    lies_then u e ne same h = record { hold = h.hold; has = is_held (cell_of id) h.hold (λ q. ne (sym h.mine ∙ q)) h.has; mine = h.mine; reaches = ap (λ vs. lets_change (key_of (columns_at (defs_of T) id) (map value_or_null vs)) h.hold.request) same ∙ h.reaches }

    one_under : IsUnderLocks v C' S.ledger id w
    one_under =
        let k = was_there in
        let old = each_at (IsUnderLocks v cells S.ledger id) (versions_at cells id) k.was (S.locks_cover.under id l) k.there in
        record {
          start = λ q. lies_then k.was w.start (start_other q) k.values (subst (LiesUnder cells T id k.was) (sym k.start) (old.start (ap (in_journal S.ledger.items) (sym k.start) ∙ q)));
          end = end_by k.was k.values k.end old.end (w.end) refl;
        }
      where
        end_by : (u : Version) → w.values ≡ u.values → (w.end ≡ None) ⊎ (w.end ≡ u.end) → EndLiesUnder v cells S.ledger id u u.end → (e : Option EventId) → w.end ≡ e → EndLiesUnder v C' S.ledger id w e
        end_by u same k h None is = tt
        end_by u same k h (Some e) is = λ q. lies_then u e (end_other e is q) same (⊎_elim
            (λ (z : w.end ≡ None). absurd (let f : Some e ≡ None = sym is ∙ z in cc))
            (λ (z : w.end ≡ u.end). let f : EndLiesUnder v cells S.ledger id u (Some e) = subst (EndLiesUnder v cells S.ledger id u) (sym z ∙ is) h in f q)
            k)

  under_then : (id : ℕ) → 1 ≤ id → Each (IsUnderLocks v C' S.ledger id) (versions_at C' id)
  under_then = by_cell (λ id. Each (IsUnderLocks v C' S.ledger id) (versions_at C' id))
      (λ id l e. all_at (IsUnderLocks v C' S.ledger id) (versions_at C' id) (one_under id l e))
      (λ id l ne. subst (Each (IsUnderLocks v C' S.ledger id)) (sym (rows_else id ne))
      (each_weaker (IsUnderLocks v cells S.ledger id) (IsUnderLocks v C' S.ledger id) (λ w u. record { start = λ q. lies_else id w w.start ne (u.start q); end = end_else id w w.end ne u.end }) (versions_at cells id) (S.locks_cover.under id l)))

  covered : LocksCover v C' S.ledger seats'
  covered = record {
    belong = λ n h has. belongs_then n h has (S.locks_cover.belong n h (was_held n h has));
    unreleased = each_open seats j (sits s y) x o y p goes (λ n z r. r.end ≡ unfixed → r.released ≡ []) (λ e. absurd (L.at.fixed e)) (λ n z r ne h. S.locks_cover.unreleased n z r h);
    intents = λ n h has m. intent_stays n h has (S.locks_cover.intents n h (was_held n h has) m);
    looked = each_open seats j (sits s y) x o y p goes (λ n z r. r.end ≡ unfixed → LookedAt v C' T z.place r) (λ e. absurd (L.at.fixed e)) (λ n z r ne h e. looked_so v C' T r z.place (λ l. looked_then z.place r (other_id n z r ne h) (looked_now v cells T r z.place (S.locks_cover.looked n z r h e) l)));
    on_whole = λ h has. S.locks_cover.on_whole h (was_held catalog_at h has);
    looked_first = each_open seats j (sits s y) x o y p goes (λ n z r. r.end ≡ unfixed → LookedFirst z.place → RequestsNone v C' T r) (λ e. absurd (L.at.fixed e))
        (λ n z r ne h e f. let was = S.locks_cover.looked_first n z r h e f in record { before = was.before; shares = λ h has m. was.shares h (was_held catalog_at h has) m; elsewhere = λ m l. was.elsewhere m (lock_was (suc m) r.id l) });
    cover = each_open seats j (sits s y) x o y p goes (λ n z r. (m : ℕ) → KeepsLocks r m → Each (λ l. Each (Holds (holds_at C' m) r.id) (requests_in v (defs_of T) r.explicit m l.0)) (script_so_far z r)) cover_here
        (λ n z r ne h m u. each_weaker (λ (l : Line). Each (Holds (holds_at cells m) r.id) (requests_in v (defs_of T) r.explicit m l.0)) (λ (l : Line). Each (Holds (holds_at C' m) r.id) (requests_in v (defs_of T) r.explicit m l.0))
        (λ l. each_weaker (Holds (holds_at cells m) r.id) (Holds (holds_at C' m) r.id) (λ w. still_held m r.id w (other_id n z r ne h)) (requests_in v (defs_of T) r.explicit m l.0)) (script_so_far z r) (S.locks_cover.cover n z r h m u));
    catalog = λ n id l. let was = lock_was (suc n) id l in lock_is catalog_at id (λ e. none_in_tables n (subst (HasLock cells (suc n)) e was)) (S.locks_cover.catalog n id was);
    definitions = λ n z r m h e l. each_open seats j (sits s y) x o y p goes (λ n z r. (m : ℕ) → EndsAt r.end m → HasLock C' catalog_at r.id → defs_of T ≡ defs_of (serial v.reads (upto S.ledger.items m)))
        (λ m e l. absurd (none_mine l))
        (λ n z r ne h m e l. S.locks_cover.definitions n z r m h e (lock_was catalog_at r.id l)) n z r h m e l;
    got = each_open seats j (sits s y) x o y p goes (λ n z r. HasLock C' catalog_at r.id → IsGotAt v C' T r.id (not (in_journal S.ledger.items (r.id, 0))) z.place) (λ l. absurd (none_mine l))
        (λ n z r ne h l. got_at_more v T (HasAlone (contents cells) r.id) (HasAlone (contents C') r.id) (not (in_journal S.ledger.items (r.id, 0))) (λ has. is_held catalog_at _ (other_id n z r ne h) has) z.place (S.locks_cover.got n z r h (lock_was catalog_at r.id l)));
    dropping = each_open seats j (sits s y) x o y p goes (λ n z r. IsDropping z.place r → In (record { tx = r.id; request = whole X }) (holds_at C' catalog_at))
        (λ h. absurd (not_dropping x.place h))
        (λ n z r ne g h. is_held catalog_at (record { tx = r.id; request = whole X }) (other_id n z r ne g) (S.locks_cover.dropping n z r g h));
    under = under_then;
  }

  agree : LocksAgree C' seats'
  agree m n k a b ne f g = S.locks_agree m n k a b ne (had m n a f) (had m k b g)
    where
      had : (m n : ℕ) (h : Hold) → SeatHas C' seats' m n h → SeatHas cells seats m n h
      had m n h q = each_open seats j (sits s y) x o y p goes (λ n z r. r.id ≡ h.tx → SeatHas cells seats m n h)
          (λ e. record { x = x; o = o; open_one = has_open; lock = was_held m h q.lock; mine = e })
          (λ n z r ne u e. record { x = z; o = r; open_one = u; lock = was_held m h q.lock; mine = e })
          n q.x q.o q.open_one q.mine

  -- ---- tables

  creates_else : (z : Session) (stmt : Stmt) (k : Creates v cells seats S.ledger z stmt) → k.o.id ≢ o.id → k.j ≢ j → Creates v C' seats' S.ledger z stmt
  creates_else z stmt k nd ne = record { j = k.j; o = k.o; has = open_else seats j (sits s y) x o y p goes k.j z k.o ne k.has; own = k.own; outside = k.outside; text = k.text; stands = k.stands; is = k.is; creates = k.creates; acted = k.acted; exclusive = is_held catalog_at (record { tx = k.o.id; request = whole X }) nd k.exclusive }

  not_this : (z : Session) (stmt : Stmt) (k : Creates v cells seats S.ledger z stmt) → k.o.id ≢ o.id → k.j ≢ j
  not_this z stmt k ne e = let same = one_session seats j z x k.o o (subst (λ (n : ℕ). HasOpen seats n z k.o) e k.has) has_open in ne (ap (λ (r : OpenTransaction). r.id) same.1)

  creator_here : d.creator ≡ creator_left o.id c.creator
  creator_here = ap (λ (q : CatalogCell). q.creator) L.cell ∙ creator_is o.end o.id c

  defs_here : DefsLeft o.id c d
  defs_here = defs_left o.end o.id c d L.cell

  back_to : (k : Creator) → c.creator ≡ Some k → GoesBack v cells S.ledger k
  back_to k e = S.tables_are_serial.goes_back k (ap (λ (q : CatalogCell). q.creator) (sym is_catalog) ∙ e)

  -- where its definitions go, it wasn't committed
  out_by : (k : Creator) → c.creator ≡ Some k → k.tx ≡ o.id → (b : Bool) → placed ≡ b → d.defs ≡ k.before → (in_journal S.ledger.items (k.tx, 0) ≡ false) ⊎ (d.defs ≡ c.defs)
  out_by k e m true q h = inr (ap (λ (r : CatalogCell). r.defs) L.cell ∙ stay o.end q)
    where
      stay : (f : End) → is_committed f ≡ true → (catalog_left f o.id c).defs ≡ c.defs
      stay (en.committed n) g = refl
      stay en.unfixed g = cc
      stay (en.ended n back) g = cc
  out_by k e m false q h = inl (ap (λ (n : ℕ). in_journal S.ledger.items (n, 0)) m ∙ mine_is 0 ∙ q)

  definitions_then : AreDefinitions v C' seats' S.ledger d.defs d.creator
  unfolding creates_else
  definitions_then = by defs_here
    where
      kept_so : d.defs ≡ c.defs → AreDefinitions v C' seats' S.ledger d.defs d.creator
      kept_so e = ⊎_elim (λ (f : S.catalog.defs ≡ defs_of T). inl (e ∙ ap (λ (q : CatalogCell). q.defs) is_catalog ∙ f))
          (λ (u : IsUnderWay v cells seats S.ledger S.catalog.defs S.catalog.creator). ⊎_elim
          (λ (m : u.by.o.id ≡ o.id). mine u m)
          (λ (ne : u.by.o.id ≢ o.id). inr (record {
            x = u.x;
            stmt = u.stmt;
            by = creates_else u.x u.stmt u.by ne (not_this u.x u.stmt u.by ne);
            has_creator = creator_here ∙ ap (creator_left o.id) (ap (λ (q : CatalogCell). q.creator) is_catalog ∙ u.has_creator) ∙ creator_stays o.id (record { tx = u.by.o.id; before = defs_of T }) ne;
            is = e ∙ ap (λ (q : CatalogCell). q.defs) is_catalog ∙ u.is;
          }))
          (cases_eq u.by.o.id o.id)) S.tables_are_serial.definitions
        where
          mine : (u : IsUnderWay v cells seats S.ledger S.catalog.defs S.catalog.creator) → u.by.o.id ≡ o.id → AreDefinitions v C' seats' S.ledger d.defs d.creator
          mine u m = on defs_here
            where
              is_out : placed ≡ false
              is_out = by placed refl
                where
                  by : (b : Bool) → placed ≡ b → b ≡ false
                  by true q = absurd (let f : in_journal S.ledger.items (o.id, 0) ≡ true = mine_is 0 ∙ q in let g : in_journal S.ledger.items (o.id, 0) ≡ false = ap (λ (n : ℕ). in_journal S.ledger.items (n, 0)) (sym m) ∙ u.by.outside in cc)
                  by false q = refl

              has_creator : c.creator ≡ Some (record { tx = u.by.o.id; before = defs_of T })
              has_creator = ap (λ (q : CatalogCell). q.creator) is_catalog ∙ u.has_creator

              goes_back : (f : End) → is_committed f ≡ false → (catalog_left f o.id c).defs ≡ defs_before o.id c.creator c.defs
              goes_back (en.committed n) g = cc
              goes_back en.unfixed g = refl
              goes_back (en.ended n back) g = refl

              on : DefsLeft o.id c d → AreDefinitions v C' seats' S.ledger d.defs d.creator
              on (gone k f g h) = inl (h ∙ (let z : Some k ≡ Some (record { tx = u.by.o.id; before = defs_of T }) = sym f ∙ has_creator in let same : k ≡ record { tx = u.by.o.id; before = defs_of T } = cc in ap (λ (r : Creator). r.before) same))
              on (same_defs h) = inl (ap (λ (q : CatalogCell). q.defs) L.cell ∙ goes_back o.end is_out ∙ ap (λ (r : Option Creator). defs_before o.id r c.defs) has_creator ∙ rw (eq-eqb u.by.o.id o.id m) refl)

      by : DefsLeft o.id c d → AreDefinitions v C' seats' S.ledger d.defs d.creator
      by (same_defs e) = kept_so e
      by (gone k e m h) = ⊎_elim (λ (f : in_journal S.ledger.items (k.tx, 0) ≡ false). inl (h ∙ (back_to k e).before f)) (λ (f : d.defs ≡ c.defs). kept_so f) (out_by k e m placed refl h)

  creator_then : (k : Creator) → d.creator ≡ Some k → GoesBack v C' S.ledger k
  creator_then k e = let other = creator_other o.id c.creator k (sym creator_here ∙ e) in let was = back_to k other.0 in
      record { exclusive = is_held catalog_at (record { tx = k.tx; request = whole X }) other.1 was.exclusive; before = was.before }

  carried_else : (n : ℕ) (z : Session) (r : OpenTransaction) → n ≢ j → HasOpen seats n z r → r.end ≡ unfixed → IsCarried d.defs T (script_end v T z r).state.tables
  carried_else n z r ne h e = by defs_here
    where
      by : DefsLeft o.id c d → IsCarried d.defs T (script_end v T z r).state.tables
      by (same_defs f) = ⊎_elim (λ (g : S.catalog.defs ≡ defs_of (script_end v T z r).state.tables). inl (f ∙ ap (λ (q : CatalogCell). q.defs) is_catalog ∙ g)) (λ (g : defs_of (script_end v T z r).state.tables ≡ defs_of T). inr g) (S.tables_are_serial.carried n z r h e)
      by (gone k f m g) = inr (others_keep v cells seats S o.id (subst (λ (q : ℕ). In (record { tx = q; request = whole X }) (holds_at cells catalog_at)) m (back_to k f).exclusive) n z r h e (other_id n z r ne h))

  table_was : (n : ℕ) (cell : TableCell) → table_found (get_elem? C' n) ≡ some cell → table_found (get_elem? cells n) ≡ some cell
  table_was n cell f = let e = table_there (get_elem? C' n) cell f in ⊎_elim
      (λ (q : n ≡ catalog_at). absurd (let f : some (Catalog d) ≡ some (Rows cell) = sym (set_here cells catalog_at (Catalog c) (Catalog d) out) ∙ ap (get_elem? C') (sym q) ∙ e in cc))
      (λ (ne : n ≢ catalog_at). ap table_found (sym (set_else cells catalog_at n (Catalog d) ne) ∙ e))
      (cases_eq n catalog_at)

  indexed_else : (place : SessionStatus) → IsIndexed cells place → IsIndexed C' place
  indexed_else (inside at (made def true)) was = λ m cell f k. was m cell (table_was m cell f) k
  indexed_else (inside at (made def false)) was = tt
  indexed_else place was = tt

  -- an index more isn't its own: it would have to be dropped first
  indexes_then : (def : TableDef) (xs : List (List ℕ)) → cell_of def.id ≢ catalog_at → AreIndexes v cells seats S.ledger def xs → AreIndexes v C' seats' S.ledger def xs
  unfolding creates_else
  indexes_then def xs user h = ⊎_elim (λ (e : xs ≡ ordinals_of def.indexes). inl e)
      (λ (k : (z : Session) × (st : Stmt) × (after : TableDef) × (by : Creates v cells seats S.ledger z st) × (def_at (defs_of (defined (change_set T st).definition T)) def.id ≡ Some after) × (xs ≡ ordinals_of after.indexes) × IsAdding z.place by.o after (cell_of def.id)).
      let ne : k.3.o.id ≢ o.id = λ m. (
      let e : k.3.j ≡ j = one_seat v cells seats S k.3.j j k.0 x k.3.o o k.3.has has_open m in
      let same = one_session seats j k.0 x k.3.o o (subst (λ (n : ℕ). HasOpen seats n k.0 k.3.o) e k.3.has) has_open in
      k.6.unreleased (subst (λ (r : OpenTransaction). In (cell_of def.id) r.released) (sym same.1) (all_others (cell_of def.id) user (subst (λ (r : OpenTransaction). In (cell_of def.id) r.visited) same.1 k.6.visited)))) in
      inr (k.0, k.1, k.2, creates_else k.0 k.1 k.3 ne (not_this k.0 k.1 k.3 ne), k.4, k.5, k.6)) h

  stands_then : (n : ℕ) (cell : TableCell) → table_found (get_elem? cells n) ≡ some cell → (def : Option TableDef) → def_at (defs_of T) cell.id ≡ def → StandsAs v cells seats S.ledger cell def → StandsAs v C' seats' S.ledger cell def
  stands_then n cell f None e h = h
  stands_then n cell f (Some def) e h = record { key = h.key; fit = h.fit; in_key_order = h.in_key_order; keys_differ = h.keys_differ; projections = h.projections; indexes = indexes_then def (map (λ q. q.ordinals) cell.indexes) user h.indexes }
    where
      user : cell_of def.id ≢ catalog_at
      user q = let a = table_place cells S.catalog S.ledger n cell S.are_cells (table_there (get_elem? cells n) cell f) in let z : n ≡ 0 = sym (cell_at n cell a) ∙ ap cell_of (sym (found_id (defs_of T) cell.id def e)) ∙ q in let w = a.is in omega arith

  -- a transaction that undoes and releases the catalog keeps cells and seats together
  pub releases_catalog : Stands v history C' (set seats j t)
  releases_catalog = subst (λ (u : SeatState). Stands v history C' (set seats j u)) (sym L.seat) (record {
    catalog = d;
    ledger = S.ledger;
    are_cells = catalog_changed cells S.catalog S.ledger d S.are_cells;
    ledger_is_legal = S.ledger_is_legal;
    tables_are_serial = record {
      definitions = definitions_then;
      goes_back = creator_then;
      carried = each_open seats j (sits s y) x o y p goes (λ n z r. r.end ≡ unfixed → IsCarried d.defs T (script_end v T z r).state.tables) (λ e. absurd (L.at.fixed e)) carried_else;
      indexed = each_open seats j (sits s y) x o y p goes (λ n z r. r.end ≡ unfixed → IsIndexed C' z.place) (λ e. absurd (L.at.fixed e)) (λ n z r ne h e. indexed_else z.place (S.tables_are_serial.indexed n z r h e));
      versions = by_cell (λ id. committed S.ledger.items (versions_at C' id) ≡ versions_of T id)
          (λ id l e. commits_here id l e ∙ S.tables_are_serial.versions id l)
          (λ id l ne. ap (committed S.ledger.items) (rows_else id ne) ∙ S.tables_are_serial.versions id l);
      tables = λ n cell e. stands_then n cell (table_was n cell e) (def_at (defs_of T) cell.id) refl (S.tables_are_serial.tables n cell (table_was n cell e));
    };
    rows_agree = rows_agree;
    open_scripts = scripts;
    locks_cover = covered;
    locks_agree = agree;
    trees_are_of_events = trees;
    transcripts_agree = unmoved v cells seats S j s there x L.at.role o L.at.open_one p (record { id = refl; explicit = refl; script = refl; end = refl });
  })
