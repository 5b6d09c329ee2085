-- A statement that changes definitions does so in the catalog, or is refused there, under its X: cells and seats stand
-- together then.
use Rattle.law_protocol_steps.proofs.ActedFor.{StandsBy, its_session}
use Rattle.std.proofs.Common.{◌≡◌, ◌≢◌, ◌⊎◌, ℕ, suc, ◌+◌, ◌≤◌, Bool, true, false, List, [], ◌∷◌, ◌++◌, map, length, set, Option, Some, None, refl, sym, ap, ap₂, ◌∙◌, subst, inl, inr, ⊎_elim, append-nil, ◌-◌, arith}
use Rattle.std.proofs.lemmas.Bool.{cases_eq, ne_eqb}
use Rattle.std.specs.Prelude.{not, if◌then◌else◌, ◌==◌}
use Rattle.std.specs.List.{AllByRecursion}
use mathlib.Core.Option.{some}
use lib.ListN.{get_elem?}
use Rattle.sql_types.specs.declared.lock.Mode.TheVariants.{X}
use Rattle.sql_types.specs.declared.reply.Reply.{Reply}
use Rattle.sql_types.specs.declared.statement.Stmt.{Stmt}
use Rattle.sql_types.specs.declared.table.TableDef.{TableDef}
use Rattle.sql_types.specs.declared.version.Version.{Version}
use Rattle.spec_model.specs.Rows.{EventId}
use Rattle.spec_model.specs.Keys.{Key, of_key}
use Rattle.spec_model.specs.Catalog.{Defs, Tables, defs_of, versions_of}
use Rattle.spec_model.specs.Journals.{Line, serial, upto}
use Rattle.spec_model.specs.Locks.{whole, same_item}
use Rattle.spec_model.specs.Agreement.{columns_at}
use Rattle.spec_model.specs.ChangeSets.{change_set, defined}
use Rattle.spec_model.specs.Runs.{Rising, MadeBefore, Sound}
use Rattle.spec_model.specs.Undo.{versions_undone}
use Rattle.spec_history.specs.Lists.{Text, Each, In}
use Rattle.spec_history.specs.Refusals.{EndsAt}
use Rattle.spec_history.specs.Transactions.{End, unfixed}
use Rattle.spec_history.proofs.Trace.{each_weaker}
use Rattle.spec_protocol.specs.Server.{Server}
use Rattle.sql_types.specs.declared.lock.Hold.{Hold}
use Rattle.spec_protocol.specs.Cells.{Creator, TableCell, Cell, Rows, holds_at, versions_at, catalog_at, cell_of}
use Rattle.spec_protocol.specs.OpenOnes.{HasOpen, script_so_far, script_end}
use Rattle.spec_protocol.specs.OpenScripts.{counted}
use Rattle.spec_protocol.specs.EventsIn.{events_in}
use Rattle.spec_protocol.specs.Moves.{at_place, sits}
use Rattle.spec_protocol.specs.RequestsIn.{requests_in, Holds}
use Rattle.spec_protocol.specs.LocksCover as at
use Rattle.spec_protocol.specs.TablesAreSerial.{HasActed, def_at, ordinals_of, IsAdding, IsCarried}
use Rattle.spec_protocol.specs.LocksCover.{KeepsLocks, Belongs, HasIntent, LookedFirst, IsDropping}
use Rattle.spec_protocol.specs.StandTogether.{History, Stands}
use Rattle.law_protocol_steps.proofs.AfterSet.{set_here, set_else, all_at}
use Rattle.law_protocol_steps.proofs.SeatsAfter.{Goes, one_session, open_here, open_else, each_open}
use Rattle.law_protocol_steps.proofs.CellsAfter.{held_here}
use Rattle.law_protocol_steps.proofs.SameOne.{no_change}
use Rattle.law_protocol_steps.proofs.SeatIds.{one_seat, outside}
use Rattle.law_protocol_changes.proofs.ChangedRows.{undone_of_key, rising_undone, undone_untouched, undone_before, touched_agree, IsCounted, all_count, some_undone, counted_is}
use Rattle.law_protocol_changes.proofs.ChangeKeeps.{at_in, absent_others}
use Rattle.law_protocol_steps.proofs.Takes.{tables_now}
use Rattle.sql_types.specs.declared.lock.LockRequest.{LockRequest}
use Rattle.spec_model.specs.Reach.{lets_change}
use Rattle.law_protocol_changes.proofs.CommittedRows.{committed_undone}
use Rattle.spec_protocol.specs.OpenOnes.{lines_at, texts_so_far}
use Rattle.spec_history.specs.Facts.{Fact, began}
use Rattle.spec_protocol.specs.RowsAgree.{GoesBackTo, IsExplicitAt}
use Rattle.spec_model.specs.Script.{script}
use Rattle.law_frame.proofs.Definitions.{opened_keep_defs}
use Rattle.law_frame.proofs.UndoneVersions.{nothing_undone}
use Rattle.law_frame.proofs.Alls.{all_weaker}
use Rattle.law_protocol_changes.proofs.ChangedRows.{later}
use Rattle.law_protocol_steps.proofs.CellsAfter.{each_holds, versions_here, versions_else, were_here}
use Rattle.spec_model.specs.Replies.{reply_text}
use Rattle.spec_protocol.specs.TreesAreOfEvents.{AreOpenSavepoints}
use Rattle.spec_protocol.specs.Seats.{OpenTransaction, StatementProgress, begun, made, going_back, replied, found, refused, answering, SessionStatus, between, inside, leaving, Session, session, SeatState}
use Rattle.spec_protocol.specs.Cells.{CatalogCell, Catalog, versions_in}
use Rattle.law_protocol_steps.proofs.CellsAfter.{catalog_changed}
use Rattle.law_protocol_steps.proofs.CatalogAlone.{none_besides}
use Rattle.law_protocol_steps.proofs.VisitActs.{IsAlike, asks_act, asks_owner, g}
use Rattle.spec_model.specs.Changes.{Change, changed_all}
use Rattle.spec_model.specs.Locks.{catalog_request, cell_requests}
use Rattle.spec_model.specs.Reach.{creates}
use Rattle.spec_model.specs.Script.{State, Step, start, text_step, script_from, by_statement}
use Rattle.spec_model.specs.ScriptRequests.{text_requests}
use Rattle.law_frame.proofs.ByKeys as byk
use Rattle.law_frame.proofs.AtTable.{before_at, rising_at}
use Rattle.law_frame.proofs.Alls.{all_filter}
use Rattle.law_frame.proofs.UndoneVersions.{Undoes}
use Rattle.law_frame.proofs.Definitions.{nothing_done, defs_after}
use Rattle.law_protocol_steps.proofs.RowsFor.{sound, end_alone}
use Rattle.law_protocol_steps.proofs.SameOne.{trees_from}
use Rattle.law_protocol_changes.proofs.ChangedRows.{no_events}
use Rattle.spec_protocol.specs.TreesAreOfEvents.{AreTrees}
use Rattle.spec_model.specs.Script.{Saved}
use Rattle.spec_protocol.specs.Seats.{OpenSavepoint}
use Rattle.law_protocol_changes.proofs.ChangedRows.{all_rising, all_before, all_untouched, all_undo}
use Rattle.sql_types.specs.declared.statement.Stmt.TheVariants as st
use Rattle.spec_protocol.specs.RequestsIn.{of_catalog, of_cell, requests_at}
use Rattle.sql_types.specs.declared.lock.Mode.{Mode}
use Rattle.spec_model.specs.Runs.{EndsBefore}
use Rattle.spec_model.specs.Keys.{same_key, version_key}
use Rattle.law_frame.proofs.LegalSound.{legal_sound}
use Rattle.law_protocol_steps.proofs.OfCells.{AreDefinitions, AreIndexes, Creates, EndLiesUnder, GoesBack, HasItsTrees, HasLock, HoldsInCatalog, IsFree, IsGotAt, IsIndexed, IsOfItsScript, IsUnderLocks, IsUnderWay, LiesUnder, LocksAgree, LocksCover, OpenScripts, RowsAgree, SeatHas, StandsAs, TreesAreOfEvents, RequestsNone, committed, events_counted, in_journal, LookedAt, looked_now, looked_so, table_there}
use Rattle.spec_protocol.specs.TranscriptsSoFar.{EndsOwn, ProgressOwn, end_shown, image_in, is_begin, shown_alone, shown_with}
use Rattle.spec_protocol.specs.Contents.{HasAlone, contents, table_found}
use Rattle.spec_history.specs.Guards.{IsAnswered}
use Rattle.spec_protocol.specs.TranscriptsAgree.{TranscriptsAgree}
use Rattle.spec_protocol.specs.Parts.{asking_in}
use Rattle.law_protocol_steps.proofs.FreshIds.{events_of_touched}
use Rattle.law_protocol_steps.proofs.TranscriptProgress.{fits_if, from_at, if_fits}
use Rattle.law_protocol_steps.proofs.GotMore.{got_at_more}
use Rattle.spec_history.specs.Transcripts.{kind_of}
use Rattle.spec_history.specs.Acts.{looks, by}
use Rattle.spec_model.specs.Touched.{touched}

-- ---- a statement that doesn't create keeps the definitions, also in a transaction of its own

keeps_defs : (tx : ℕ) (T : Tables) (q : Option Stmt) → (creates_it : (stmt : Stmt) → q ≡ Some stmt → creates stmt ≡ false) → defs_of (by_statement false tx (start T) q).0.tables ≡ defs_of T
keeps_defs tx T None h = refl
keeps_defs tx T (Some (st.Create c)) h = let z = h (st.Create c) refl in cc
keeps_defs tx T (Some (st.Index c)) h = let z = h (st.Index c) refl in cc
keeps_defs tx T (Some (st.Alter a)) h = let z = h (st.Alter a) refl in cc
keeps_defs tx T (Some (st.Drop name)) h = let z = h (st.Drop name) refl in cc
keeps_defs tx T (Some (st.Change row)) h = defs_after T tx 0 (st.Change row) refl
keeps_defs tx T (Some (st.Select q)) h = defs_after T tx 0 (st.Select q) refl
keeps_defs tx T (Some st.Begin) h = refl
keeps_defs tx T (Some st.Commit) h = refl
keeps_defs tx T (Some (st.Save name)) h = refl
keeps_defs tx T (Some (st.Rollback name)) h = refl
keeps_defs tx T (Some st.Digest) h = refl
keeps_defs tx T (Some st.Image) h = refl

pub x_of : (stmt : Stmt) → creates stmt ≡ true → catalog_request false stmt ≡ Some X
x_of (st.Create c) e = refl
x_of (st.Index c) e = refl
x_of (st.Alter a) e = refl
x_of (st.Drop name) e = refl
x_of stmt e = cc

pub one_text : (v : Server) (tx : ℕ) (T : Tables) (text : Text) → (script v.reads false T tx (text ∷ [])).state ≡ (text_step v.reads false tx (start T) text).0
unfolding script_from
one_text v tx T text = refl

one_reply : (v : Server) (tx : ℕ) (T : Tables) (text : Text) → (script v.reads false T tx (text ∷ [])).replies ≡ (text_step v.reads false tx (start T) text).1 ∷ []
unfolding script_from
one_reply v tx T text = refl

pub step_is : (v : Server) (tx : ℕ) (T : Tables) (text : Text) → text_step v.reads false tx (start T) text ≡ by_statement false tx (start T) (v.reads text)
unfolding text_step
step_is v tx T text = refl

too_many : (place : SessionStatus) (l m : Line) (ls : List Line) → l ∷ m ∷ ls ≡ lines_at place → ⊥
too_many (inside text (made def indexed)) l m ls e = cc
too_many (inside text (going_back seq cells)) l m ls e = cc
too_many (inside text (replied reply)) l m ls e = cc
too_many (inside text begun) l m ls e = cc
too_many (inside text (found named fresh)) l m ls e = cc
too_many (inside text (answering reply def)) l m ls e = cc
too_many (inside text (refused reply)) l m ls e = cc
too_many between l m ls e = cc
too_many leaving l m ls e = cc

pub no_cell : (defs : Defs) (stmt : Stmt) → creates stmt ≡ true → cell_requests defs stmt ≡ None
unfolding cell_requests
no_cell defs (st.Create c) e = refl
no_cell defs (st.Index c) e = refl
no_cell defs (st.Alter a) e = refl
no_cell defs (st.Drop name) e = refl
no_cell defs stmt e = cc

whole_same : same_item (whole X).item (whole X).item ≡ true
unfolding same_item
whole_same = refl

-- ---- where one transaction has the catalog's X, the scripts of others leave the definitions

module _ (v : Server) (cells : List Cell) (seats : List SeatState) {history : History} (S : Stands v history cells seats) (id : ℕ) (exclusive : In (record { tx = id; request = whole X }) (holds_at cells catalog_at))
    (n : ℕ) (z : Session) (r : OpenTransaction) (h : HasOpen seats n z r) (e : r.end ≡ unfixed) (other : r.id ≢ id) where
  abbrev tables_were : Tables
  tables_were = tables_now S

  not_held : (w : LockRequest) → Holds (holds_at cells catalog_at) r.id w → ⊥
  not_held w k = other (sym k.mine ∙ none_besides v cells seats S id exclusive k.hold k.has)

  covers : Each (λ l. Each (Holds (holds_at cells catalog_at) r.id) (requests_in v (defs_of tables_were) r.explicit catalog_at l.0)) (script_so_far z r)
  covers = S.locks_cover.cover n z r h catalog_at (λ k. subst (In catalog_at) (S.locks_cover.unreleased n z r h e) k, λ k. subst (In catalog_at) (S.locks_cover.unreleased n z r h e) k)

  no_create : (l : Line) → r.explicit ≡ false → Each (Holds (holds_at cells catalog_at) r.id) (requests_in v (defs_of tables_were) r.explicit catalog_at l.0) → (stmt : Stmt) → v.reads l.0 ≡ Some stmt → creates stmt ≡ false
  no_create l a held stmt is = by (creates stmt) refl
    where
      by : (b : Bool) → creates stmt ≡ b → b ≡ false
      by true k = let requests : requests_in v (defs_of tables_were) r.explicit catalog_at l.0 ≡ whole X ∷ [] = ap (λ (q : Option Stmt). requests_at catalog_at (text_requests (defs_of tables_were) r.explicit q)) is ∙ ap (λ (b : Bool). of_catalog (catalog_request b stmt) ++ of_cell catalog_at (cell_requests (defs_of tables_were) stmt)) a ∙ ap₂ (λ q c. of_catalog q ++ of_cell catalog_at c) (x_of stmt k) (no_cell (defs_of tables_were) stmt k) in
          absurd (not_held (whole X) (subst (Each (Holds (holds_at cells catalog_at) r.id)) requests held).0)
      by false k = refl

  alone_keeps : r.explicit ≡ false → defs_of (script_end v tables_were z r).state.tables ≡ defs_of tables_were
  alone_keeps a = ap (λ (b : Bool). defs_of (script v.reads b tables_were r.id (texts_so_far z r)).state.tables) a ∙ by (script_so_far z r) (ap (λ (ls : List Line). ls ++ lines_at z.place) only) covers
    where
      only : r.script ≡ []
      only = (S.open_scripts n z r h e).alone a

      by : (ls : List Line) → ls ≡ lines_at z.place → Each (λ l. Each (Holds (holds_at cells catalog_at) r.id) (requests_in v (defs_of tables_were) r.explicit catalog_at l.0)) ls → defs_of (script v.reads false tables_were r.id (map (λ l. l.0) ls)).state.tables ≡ defs_of tables_were
      by [] q k = ap (λ q. defs_of q.state.tables) (nothing_done v.reads false tables_were r.id)
      by (l ∷ []) q k = ap (λ (q : State). defs_of q.tables) (one_text v r.id tables_were l.0) ∙ ap (λ (q : Step). defs_of q.0.tables) (step_is v r.id tables_were l.0) ∙ keeps_defs r.id tables_were (v.reads l.0) (no_create l a k.0)
      by (l ∷ m ∷ ls) q k = absurd (too_many z.place l m ls q)

  pub others_keep : defs_of (script_end v tables_were z r).state.tables ≡ defs_of tables_were
  others_keep = by r.explicit refl
    where
      by : (b : Bool) → r.explicit ≡ b → defs_of (script_end v tables_were z r).state.tables ≡ defs_of tables_were
      by true a = ap (λ (b : Bool). defs_of (script v.reads b tables_were r.id (texts_so_far z r)).state.tables) a ∙ (opened_keep_defs v.reads tables_were r.id (texts_so_far z r)).tables
      by false a = alone_keeps a

-- ---- the statement creates, or is refused

-- what a stage is at which a transaction of its own did all that it does in the catalog
pub record IsStage (v : Server) (T : Tables) (text : Text) (r : Reply) (stage : StatementProgress) : Type 0 where
  pub lines : lines_at (inside text stage) ≡ (text, reply_text r) ∷ []
  pub counts : (tx id : ℕ) (vs : List Version) → counted tx id (inside text stage) vs ≡ vs
  pub asks : In (text, false) (asking_in text stage)
  pub shows : shown_alone v.meaning text stage ≡ []
  pub image : image_in stage ≡ 0
  pub fits : (n : ℕ) → EndsOwn (kind_of (v.meaning.reads text)) unfixed → ProgressOwn v.meaning n text stage
  pub got : at.IsGotAt v T (Unit {0}) true (inside text stage)
  pub acted : HasActed (inside text stage)
  pub not_first : LookedFirst (inside text stage) → ⊥
  pub not_dropping : (p : OpenTransaction) → IsDropping (inside text stage) p → ⊥
  pub goes_to : (n : ℕ) → GoesBackTo (inside text stage) n
  pub explicit : IsExplicitAt (inside text stage) false
  pub indexed : (cs : List Cell) → IsIndexed cs (inside text stage)

-- the changes in one system table
pub record SystemChange (tx : ℕ) (V V' W' : List Version) (seq : ℕ) : Type 0 where
  pub from : ℕ
  pub changes : List Change
  pub is : V' ≡ changed_all tx from changes V
  pub script : W' ≡ V'
  pub within : from + length changes ≤ seq
  pub undoes : AllByRecursion (Undoes tx 0 V) changes

-- the catalog has what the journal leads to
pub record HasTables (c : CatalogCell) (T : Tables) : Type 0 where
  pub defs : c.defs ≡ defs_of T
  pub rows : (id : ℕ) → 1 ≤ id → cell_of id ≡ catalog_at → versions_in id (Catalog c) ≡ versions_of T id

pub record Creating (v : Server) (cells : List Cell) (seats : List SeatState) {history : History} (S : Stands v history cells seats) (j : ℕ) (s : SeatState) (x : Session) (o p : OpenTransaction) (text : Text) (stmt : Stmt) (old new : CatalogCell) (stage : StatementProgress) (r : Reply) (E : Tables) : Type 0 where
  pub there : get_elem? seats j ≡ some s
  pub role : s.role ≡ session x
  pub open_one : x.open_one ≡ Some o
  pub unfixed : o.end ≡ unfixed
  pub place : x.place ≡ inside text begun
  pub out : get_elem? cells catalog_at ≡ some (Catalog old)
  pub is : v.reads text ≡ Some stmt
  pub alone : o.explicit ≡ false
  pub creates : creates stmt ≡ true
  pub exclusive : In (record { tx = o.id; request = whole X }) old.holds
  pub visited : In catalog_at o.visited
  pub alike : IsAlike o p
  pub same_visited : p.visited ≡ o.visited
  pub same_released : p.released ≡ o.released
  pub stage_is : HasTables old (tables_now S) → IsStage v (tables_now S) text r stage
  pub holds : new.holds ≡ old.holds
  pub same_savepoints : p.open_savepoints ≡ o.open_savepoints
  pub steps : HasTables old (tables_now S) → o.seq ≡ 0 → text_step v.reads false o.id (start (tables_now S)) text ≡ (record { tables = E; seq = p.seq; saved = [] }, r)
  pub system : HasTables old (tables_now S) → (id : ℕ) → 1 ≤ id → cell_of id ≡ catalog_at → SystemChange o.id (versions_at cells id) (versions_in id (Catalog new)) (versions_of E id) p.seq
  pub users : (id : ℕ) → cell_of id ≢ catalog_at → versions_of E id ≡ versions_of (tables_now S) id
  pub left : HasTables old (tables_now S) → new.defs ≡ defs_of E
  pub creator : ((new.defs ≡ old.defs) × (new.creator ≡ old.creator)) ⊎ ((new.creator ≡ Some (record { tx = o.id; before = old.defs })) × (HasTables old (tables_now S) → new.defs ≡ defs_of (defined (change_set (tables_now S) stmt).definition (tables_now S))))

module _ (v : Server) (cells : List Cell) (seats : List SeatState) {history : History} (S : Stands v history cells seats) (j : ℕ) (s : SeatState) (x : Session) (o p : OpenTransaction) (text : Text) (stmt : Stmt) (old new : CatalogCell) (stage : StatementProgress) (r : Reply) (E : Tables) (K : Creating v cells seats S j s x o p text stmt old new stage r E) where
  abbrev T : Tables
  T = tables_now S

  has_open : HasOpen seats j x o
  has_open = record { seat = s; there = K.there; role = K.role; open_one = K.open_one }

  abbrev y : Session
  y = at_place (Some p) (inside text stage) x

  abbrev pub C' : List Cell
  C' = set cells catalog_at (Catalog new)

  abbrev pub seats' : List SeatState
  seats' = set seats j (sits s y)

  goes : Goes seats j (sits s y) x o y p
  goes = record { before = has_open; role = refl; open_one = refl }

  is_catalog : old ≡ S.catalog
  is_catalog = let e : some (Catalog old) ≡ some (Catalog S.catalog) = sym K.out ∙ S.are_cells.has_catalog in cc

  held_same : (n : ℕ) → holds_at C' n ≡ holds_at cells n
  held_same = each_holds cells catalog_at (Catalog old) (Catalog new) K.out (λ n hs. hs ≡ holds_at cells n) (K.holds ∙ sym (held_here cells catalog_at (Catalog old) (Catalog new) K.out)) (λ n. refl)

  exclusive : In (record { tx = o.id; request = whole X }) (holds_at cells catalog_at)
  exclusive = subst (In _) (sym (held_here cells catalog_at (Catalog old) (Catalog new) K.out)) K.exclusive

  other_id : (n : ℕ) (z : Session) (q : OpenTransaction) → n ≢ j → HasOpen seats n z q → q.id ≢ o.id
  other_id n z q ne h e = ne (one_seat v cells seats S n j z x q o h has_open e)

  mine_out : (n : ℕ) → in_journal S.ledger.items (o.id, n) ≡ false
  mine_out n = outside v cells seats S j x o n has_open K.unfixed

  by_cell : (P : ℕ → Type 0) → ((id : ℕ) → 1 ≤ id → cell_of id ≡ catalog_at → P id) → ((id : ℕ) → 1 ≤ id → cell_of id ≢ catalog_at → P id) → (id : ℕ) → 1 ≤ id → P id
  by_cell P this others id l = ⊎_elim (λ (e : cell_of id ≡ catalog_at). this id l e) (λ (ne : cell_of id ≢ catalog_at). others id l ne) (cases_eq (cell_of id) catalog_at)

  rows_are : (id : ℕ) → cell_of id ≡ catalog_at → versions_at C' id ≡ versions_in id (Catalog new)
  rows_are = versions_here cells catalog_at (Catalog old) (Catalog new) K.out

  rows_else : (id : ℕ) → cell_of id ≢ catalog_at → versions_at C' id ≡ versions_at cells id
  rows_else = versions_else cells catalog_at (Catalog old) (Catalog new) K.out

  -- ---- definitions before

  none_acts : (z : Session) (q : Stmt) → Creates v cells seats S.ledger z q → ⊥
  none_acts z q k =
      let same_id : k.o.id ≡ o.id = none_besides v cells seats S o.id exclusive (record { tx = k.o.id; request = whole X }) k.exclusive in
      let same_seat : k.j ≡ j = one_seat v cells seats S k.j j z x k.o o k.has has_open same_id in
      let alike = one_session seats j z x k.o o (subst (λ (n : ℕ). HasOpen seats n z k.o) same_seat k.has) has_open in
      subst HasActed (ap (λ (u : Session). u.place) alike.0 ∙ K.place) k.acted

  old_defs : old.defs ≡ defs_of T
  old_defs = ⊎_elim (λ (e : S.catalog.defs ≡ defs_of T). ap (λ (q : CatalogCell). q.defs) is_catalog ∙ e)
      (λ (u : IsUnderWay v cells seats S.ledger S.catalog.defs S.catalog.creator). absurd (none_acts u.x u.stmt u.by)) S.tables_are_serial.definitions

  -- ---- before

  no_count : (id : ℕ) (vs : List Version) → counted o.id id x.place vs ≡ vs
  no_count id vs = ap (λ (q : SessionStatus). counted o.id id q vs) K.place

  whole_script : script_so_far x o ≡ o.script
  whole_script = ap (λ (q : SessionStatus). o.script ++ lines_at q) K.place ∙ append-nil o.script

  none_said : o.script ≡ []
  none_said = (S.open_scripts j x o has_open K.unfixed).alone K.alone

  end_was : (script_end v T x o).state.tables ≡ T
  end_was = end_alone v cells seats S j x o has_open K.unfixed whole_script K.alone

  T_sound : Sound o.id 0 T
  T_sound = sound v cells seats S j x o has_open K.unfixed

  reaches_all : (key : Key) → lets_change key (whole X) ≡ true
  reaches_all key = refl

  pub no_seq : o.seq ≡ 0
  no_seq = (S.open_scripts j x o has_open K.unfixed).counter ∙ ap (λ (b : Bool). (script v.reads b T o.id (texts_so_far x o)).state.seq) K.alone ∙ ap (λ (ls : List Line). (script v.reads false T o.id (map (λ l. l.0) ls)).state.seq) (whole_script ∙ none_said) ∙ ap (λ q. q.state.seq) (nothing_done v.reads false T o.id)

  -- the system tables are the journal's
  were : (id : ℕ) → 1 ≤ id → cell_of id ≡ catalog_at → versions_at cells id ≡ versions_of T id
  were id l e = byk.by_keys (columns_at (defs_of T) id) (versions_at cells id) (versions_of T id) (S.rows_agree.rising id l) (rising_at o.id 0 id T T_sound.each)
      (λ key. sym (no_count id _) ∙ S.rows_agree.own j x o has_open K.unfixed id key l (record { tx = o.id; request = whole X }) (subst (λ (n : ℕ). In (record { tx = o.id; request = whole X }) (holds_at cells n)) (sym e) exclusive) refl (reaches_all key)
      ∙ ap (λ (U : Tables). of_key (columns_at (defs_of T) id) key (versions_of U id)) end_was)

  has_tables : HasTables old T
  has_tables = record { defs = old_defs; rows = λ id l e. sym (were_here cells catalog_at (Catalog old) (Catalog new) K.out id e) ∙ were id l e }

  change : (id : ℕ) (l : 1 ≤ id) (e : cell_of id ≡ catalog_at) → SystemChange o.id (versions_at cells id) (versions_in id (Catalog new)) (versions_of E id) p.seq
  change id l e = K.system has_tables id l e

  -- ---- the script

  same_script : script_so_far y p ≡ (text, reply_text r) ∷ []
  same_script = ap (λ (ls : List Line). ls ++ lines_at (inside text stage)) (K.alike.script ∙ none_said) ∙ (K.stage_is has_tables).lines

  end_state : (script_end v T y p).state ≡ record { tables = E; seq = p.seq; saved = [] }
  end_state = ap (λ (b : Bool). (script v.reads b T p.id (texts_so_far y p)).state) (K.alike.explicit ∙ K.alone) ∙ ap (λ (n : ℕ). (script v.reads false T n (texts_so_far y p)).state) K.alike.id
      ∙ ap (λ (ls : List Line). (script v.reads false T o.id (map (λ l. l.0) ls)).state) same_script ∙ one_text v o.id T text ∙ ap (λ (q : Step). q.0) (K.steps has_tables no_seq)

  end_replies : (script_end v T y p).replies ≡ r ∷ []
  end_replies = ap (λ (b : Bool). (script v.reads b T p.id (texts_so_far y p)).replies) (K.alike.explicit ∙ K.alone) ∙ ap (λ (n : ℕ). (script v.reads false T n (texts_so_far y p)).replies) K.alike.id
      ∙ ap (λ (ls : List Line). (script v.reads false T o.id (map (λ l. l.0) ls)).replies) same_script ∙ one_reply v o.id T text ∙ ap (λ (q : Step). q.1 ∷ []) (K.steps has_tables no_seq)

  end_tables : (script_end v T y p).state.tables ≡ E
  end_tables = ap (λ (q : State). q.tables) end_state

  counts_then : (id : ℕ) (vs : List Version) → counted p.id id y.place vs ≡ vs
  counts_then id vs = (K.stage_is has_tables).counts p.id id vs

  -- the cells have what the script has
  as_script : (id : ℕ) → 1 ≤ id → cell_of id ≡ catalog_at → versions_at C' id ≡ versions_of E id
  as_script id l e = rows_are id e ∙ sym (change id l e).script

  -- ---- rows

  undone_is : (id : ℕ) (l : 1 ≤ id) (e : cell_of id ≡ catalog_at) → versions_undone o.id 0 (versions_at C' id) ≡ versions_of T id
  undone_is id l e = let c = change id l e in ap (versions_undone o.id 0) (rows_are id e ∙ c.is) ∙ all_undo o.id 0 c.from (omega arith) c.changes (versions_at cells id) c.undoes
      ∙ ap (versions_undone o.id 0) (were id l e) ∙ nothing_undone o.id 0 (versions_of T id) (before_at o.id 0 id T T_sound.each)

  was_before : (id : ℕ) (l : 1 ≤ id) (e : cell_of id ≡ catalog_at) (n : ℕ) → AllByRecursion (MadeBefore o.id n) (versions_at cells id)
  was_before id l e n = subst (λ (vs : List Version). AllByRecursion (MadeBefore o.id n) vs) (sym (were id l e))
      (all_weaker (MadeBefore o.id 0) (MadeBefore o.id n) (λ w k. subst (λ (m : ℕ). MadeBefore o.id m w) (let z : 0 + n ≡ n = omega arith in z) (later o.id 0 n w k)) (versions_of T id) (before_at o.id 0 id T T_sound.each))

  rising_then : (id : ℕ) → 1 ≤ id → Rising (versions_at C' id)
  rising_then = by_cell (λ id. Rising (versions_at C' id))
      (λ id l e. let c = change id l e in subst Rising (sym (rows_are id e ∙ c.is)) (all_rising o.id c.from c.changes (versions_at cells id) (was_before id l e c.from) (S.rows_agree.rising id l)))
      (λ id l ne. subst Rising (sym (rows_else id ne)) (S.rows_agree.rising id l))

  before_then : (id : ℕ) → 1 ≤ id → AllByRecursion (MadeBefore o.id p.seq) (versions_at C' id)
  before_then = by_cell (λ id. AllByRecursion (MadeBefore o.id p.seq) (versions_at C' id))
      (λ id l e. let c = change id l e in subst (AllByRecursion (MadeBefore o.id p.seq)) (sym (rows_are id e ∙ c.is))
      (all_weaker (MadeBefore o.id (c.from + length c.changes)) (MadeBefore o.id p.seq) (λ w k. subst (λ (m : ℕ). MadeBefore o.id m w) (let q = c.within in let z : (c.from + length c.changes) + (p.seq - (c.from + length c.changes)) ≡ p.seq = omega (arith, q) in z) (later o.id (c.from + length c.changes) (p.seq - (c.from + length c.changes)) w k))
      (changed_all o.id c.from c.changes (versions_at cells id)) (all_before o.id c.from c.changes (versions_at cells id) (was_before id l e c.from))))
      (λ id l ne. subst (AllByRecursion (MadeBefore o.id p.seq)) (sym (rows_else id ne))
      (all_weaker (MadeBefore o.id o.seq) (MadeBefore o.id p.seq) (λ w k. subst (λ (m : ℕ). MadeBefore o.id m w) (let z : o.seq + p.seq ≡ p.seq = let q = no_seq in omega (arith, q) in z) (later o.id o.seq p.seq w k)) (versions_at cells id)
      (subst (AllByRecursion (MadeBefore o.id o.seq)) (no_count id (versions_at cells id)) (S.rows_agree.before j x o has_open K.unfixed id l))))

  was_held : (n : ℕ) (h : Hold) → In h (holds_at C' n) → In h (holds_at cells n)
  was_held n h has = subst (In h) (held_same n) has

  -- in the catalog there is no lock but its own
  mine_there : (id : ℕ) → cell_of id ≡ catalog_at → (h : Hold) → In h (holds_at C' (cell_of id)) → h.tx ≡ o.id
  mine_there id e h has = none_besides v cells seats S o.id exclusive h (subst (λ (n : ℕ). In h (holds_at cells n)) e (was_held (cell_of id) h has))

  not_free : (id : ℕ) (key : Key) → cell_of id ≡ catalog_at → IsFree (holds_at C' (cell_of id)) S.ledger key → ⊥
  not_free id key e f = let z : in_journal S.ledger.items (o.id, 0) ≡ true = f (record { tx = o.id; request = whole X }) (subst (In (record { tx = o.id; request = whole X })) (sym (held_same (cell_of id))) (subst (λ (n : ℕ). In (record { tx = o.id; request = whole X }) (holds_at cells n)) (sym e) exclusive)) (reaches_all key) in let q = mine_out 0 in cc

  key_else : (id : ℕ) (key : Key) (q : List Version → List Version) → cell_of id ≢ catalog_at → q (of_key (columns_at (defs_of T) id) key (versions_at C' id)) ≡ q (of_key (columns_at (defs_of T) id) key (versions_at cells id))
  key_else id key q ne = ap (λ (vs : List Version). q (of_key (columns_at (defs_of T) id) key vs)) (rows_else id ne)

  rows_agree : RowsAgree v C' S.ledger seats'
  rows_agree = record {
    free = λ id key l. by_cell (λ id. IsFree (holds_at C' (cell_of id)) S.ledger key → of_key (columns_at (defs_of T) id) key (versions_at C' id) ≡ of_key (columns_at (defs_of T) id) key (versions_of T id))
        (λ id l e f. absurd (not_free id key e f))
        (λ id l ne f. key_else id key (λ vs. vs) ne ∙ S.rows_agree.free id key l (λ h has q. f h (subst (In h) (sym (held_same (cell_of id))) has) q)) id l;
    own = each_open seats j (sits s y) x o y p goes
        (λ n z q. q.end ≡ unfixed → (id : ℕ) (key : Key) → 1 ≤ id → (h : Hold) → In h (holds_at C' (cell_of id)) → h.tx ≡ q.id → lets_change key h.request ≡ true
        → counted q.id id z.place (of_key (columns_at (defs_of T) id) key (versions_at C' id)) ≡ of_key (columns_at (defs_of T) id) key (versions_of (script_end v T z q).state.tables id))
        (λ e id key l. by_cell (λ id. (h : Hold) → In h (holds_at C' (cell_of id)) → h.tx ≡ p.id → lets_change key h.request ≡ true
        → counted p.id id y.place (of_key (columns_at (defs_of T) id) key (versions_at C' id)) ≡ of_key (columns_at (defs_of T) id) key (versions_of (script_end v T y p).state.tables id))
        (λ id l e h has m reach. counts_then id _ ∙ ap (of_key (columns_at (defs_of T) id) key) (as_script id l e) ∙ ap (λ (U : Tables). of_key (columns_at (defs_of T) id) key (versions_of U id)) (sym end_tables))
        (λ id l ne h has m reach. counts_then id _ ∙ key_else id key (λ vs. vs) ne ∙ sym (no_count id _) ∙ S.rows_agree.own j x o has_open K.unfixed id key l h (was_held (cell_of id) h has) (m ∙ K.alike.id) reach
        ∙ ap (λ (U : Tables). of_key (columns_at (defs_of T) id) key (versions_of U id)) end_was ∙ ap (of_key (columns_at (defs_of T) id) key) (sym (K.users id ne)) ∙ ap (λ (U : Tables). of_key (columns_at (defs_of T) id) key (versions_of U id)) (sym end_tables)) id l)
        (λ n z q ne g f id key l. by_cell (λ id. (h : Hold) → In h (holds_at C' (cell_of id)) → h.tx ≡ q.id → lets_change key h.request ≡ true
        → counted q.id id z.place (of_key (columns_at (defs_of T) id) key (versions_at C' id)) ≡ of_key (columns_at (defs_of T) id) key (versions_of (script_end v T z q).state.tables id))
        (λ id l e h has m reach. absurd (other_id n z q ne g (sym m ∙ mine_there id e h has)))
        (λ id l nc h has m reach. key_else id key (counted q.id id z.place) nc ∙ S.rows_agree.own n z q g f id key l h (was_held (cell_of id) h has) m reach) id l);
    undone = λ id key l. by_cell (λ id. (h : Hold) → In h (holds_at C' (cell_of id)) → in_journal S.ledger.items (h.tx, 0) ≡ false → lets_change key h.request ≡ true
        → versions_undone h.tx 0 (of_key (columns_at (defs_of T) id) key (versions_at C' id)) ≡ of_key (columns_at (defs_of T) id) key (versions_of T id))
        (λ id l e h has u reach. ap (λ (n : ℕ). versions_undone n 0 (of_key (columns_at (defs_of T) id) key (versions_at C' id))) (mine_there id e h has)
        ∙ undone_of_key (columns_at (defs_of T) id) key o.id 0 (versions_at C' id) ∙ ap (of_key (columns_at (defs_of T) id) key) (undone_is id l e))
        (λ id l ne h has u reach. key_else id key (versions_undone h.tx 0) ne ∙ S.rows_agree.undone id key l h (was_held (cell_of id) h has) u reach) id l;
    rising = rising_then;
    back = each_open seats j (sits s y) x o y p goes (λ n z q. GoesBackTo z.place q.seq) ((K.stage_is has_tables).goes_to p.seq) (λ n z q ne g. S.rows_agree.back n z q g);
    explicit = each_open seats j (sits s y) x o y p goes (λ n z q. IsExplicitAt z.place q.explicit) (subst (IsExplicitAt (inside text stage)) (sym (K.alike.explicit ∙ K.alone)) (K.stage_is has_tables).explicit) (λ n z q ne g. S.rows_agree.explicit n z q g);
    before = each_open seats j (sits s y) x o y p goes
        (λ n z q. q.end ≡ unfixed → (id : ℕ) → 1 ≤ id → AllByRecursion (MadeBefore q.id q.seq) (counted q.id id z.place (versions_at C' id)))
        (λ e id l. subst (AllByRecursion (MadeBefore p.id p.seq)) (sym (counts_then id _)) (subst (λ (n : ℕ). AllByRecursion (MadeBefore n p.seq) (versions_at C' id)) (sym K.alike.id) (before_then id l)))
        (λ n z q ne g f. by_cell (λ id. AllByRecursion (MadeBefore q.id q.seq) (counted q.id id z.place (versions_at C' id)))
        (λ id l e. others_before n z q ne g f id l e (counted_is q.id id z.place) (S.rows_agree.back n z q g))
        (λ id l nc. subst (λ (vs : List Version). AllByRecursion (MadeBefore q.id q.seq) (counted q.id id z.place vs)) (sym (rows_else id nc)) (S.rows_agree.before n z q g f id l)));
  }
    where
      others_before : (n : ℕ) (z : Session) (q : OpenTransaction) → n ≢ j → HasOpen seats n z q → q.end ≡ unfixed → (id : ℕ) → 1 ≤ id → cell_of id ≡ catalog_at → IsCounted q.id id z.place → GoesBackTo z.place q.seq → AllByRecursion (MadeBefore q.id q.seq) (counted q.id id z.place (versions_at C' id))
      others_before n z q ne g f id l e (all_count same) back = let c = change id l e in subst (AllByRecursion (MadeBefore q.id q.seq)) (sym (same _ ∙ rows_are id e ∙ c.is))
          (all_untouched o.id q.id q.seq (λ k. other_id n z q ne g (sym k)) c.from c.changes (versions_at cells id) (subst (AllByRecursion (MadeBefore q.id q.seq)) (same _) (S.rows_agree.before n z q g f id l)))
      others_before n z q ne g f id l e (some_undone k to same) back = subst (AllByRecursion (MadeBefore q.id q.seq)) (sym (same _)) (subst (λ (m : ℕ). AllByRecursion (MadeBefore q.id m) (versions_undone q.id k (versions_at C' id))) (to q.seq back) (undone_before q.id k _))

  -- ---- scripts

  abbrev seen : List Cell → Session → OpenTransaction → ℕ → List Version
  seen cs z q id = touched q.id (counted q.id id z.place (versions_at cs id))

  -- what another one did isn't there
  module _ (n : ℕ) (z : Session) (q : OpenTransaction) (ne : n ≢ j) (g : HasOpen seats n z q) (f : q.end ≡ unfixed) where
    none_here : (id : ℕ) → 1 ≤ id → cell_of id ≡ catalog_at → AllByRecursion (MadeBefore q.id 0) (versions_at cells id)
    none_here id l e = subst (AllByRecursion (MadeBefore q.id 0)) (sym (were id l e)) (before_at q.id 0 id T (sound v cells seats S n z q g f).each)

    none_then : (id : ℕ) → 1 ≤ id → cell_of id ≡ catalog_at → AllByRecursion (MadeBefore q.id 0) (versions_at C' id)
    none_then id l e = let c = change id l e in subst (AllByRecursion (MadeBefore q.id 0)) (sym (rows_are id e ∙ c.is)) (all_untouched o.id q.id 0 (λ k. other_id n z q ne g (sym k)) c.from c.changes (versions_at cells id) (none_here id l e))

    key_none : (id : ℕ) (vs : List Version) (key : Key) → AllByRecursion (MadeBefore q.id 0) vs → AllByRecursion (MadeBefore q.id 0) (of_key (columns_at (defs_of T) id) key vs)
    key_none id vs key h = all_filter (MadeBefore q.id 0) (λ (w : Version). same_key (version_key (columns_at (defs_of T) id) w) key) vs h

    same_here : (id : ℕ) (l : 1 ≤ id) (e : cell_of id ≡ catalog_at) → IsCounted q.id id z.place → touched q.id (counted q.id id z.place (versions_at C' id)) ≡ touched q.id (counted q.id id z.place (versions_at cells id))
    same_here id l e (all_count same) = ap (touched q.id) (same _) ∙ touched_agree q.id (columns_at (defs_of T) id) (versions_at C' id) (versions_at cells id) (rising_then id l) (S.rows_agree.rising id l) (λ key. inr (key_none id _ key (none_then id l e), key_none id _ key (none_here id l e))) ∙ ap (touched q.id) (sym (same _))
    same_here id l e (some_undone k to same) = ap (touched q.id) (same _)
        ∙ touched_agree q.id (columns_at (defs_of T) id) (versions_undone q.id k (versions_at C' id)) (versions_undone q.id k (versions_at cells id)) (rising_undone q.id k _ (rising_then id l)) (rising_undone q.id k _ (S.rows_agree.rising id l))
        (λ key. inr (key_none id _ key (undone_untouched q.id q.id k 0 _ (none_then id l e)), key_none id _ key (undone_untouched q.id q.id k 0 _ (none_here id l e)))) ∙ ap (touched q.id) (sym (same _))

    seen_stays : (id : ℕ) → 1 ≤ id → seen C' z q id ≡ seen cells z q id
    seen_stays = by_cell (λ id. seen C' z q id ≡ seen cells z q id)
        (λ id l e. same_here id l e (counted_is q.id id z.place))
        (λ id l nc. ap (λ (vs : List Version). touched q.id (counted q.id id z.place vs)) (rows_else id nc))

  seen_mine : (id : ℕ) → 1 ≤ id → seen C' y p id ≡ touched p.id (versions_of (script_end v T y p).state.tables id)
  seen_mine = by_cell (λ id. seen C' y p id ≡ touched p.id (versions_of (script_end v T y p).state.tables id))
      (λ id l e. ap (touched p.id) (counts_then id _ ∙ as_script id l e) ∙ ap (λ (U : Tables). touched p.id (versions_of U id)) (sym end_tables))
      (λ id l ne. ap (touched p.id) (counts_then id _ ∙ rows_else id ne) ∙ ap (λ (n : ℕ). touched n (versions_at cells id)) K.alike.id ∙ ap (touched o.id) (sym (no_count id _))
      ∙ (S.open_scripts j x o has_open K.unfixed).versions id l ∙ ap (λ (U : Tables). touched o.id (versions_of U id)) end_was ∙ ap (touched o.id) (sym (K.users id ne)) ∙ ap (λ (n : ℕ). touched n (versions_of E id)) (sym K.alike.id)
      ∙ ap (λ (U : Tables). touched p.id (versions_of U id)) (sym end_tables))

  scripts : OpenScripts v C' S.ledger seats'
  scripts = each_open seats j (sits s y) x o y p goes (λ n z q. q.end ≡ unfixed → IsOfItsScript v C' T z q)
      (λ e. record {
        replies = ap (map (λ (l : Line). l.1)) same_script ∙ ap (map reply_text) (sym end_replies);
        versions = seen_mine;
        counter = ap (λ (q : State). q.seq) (sym end_state);
        alone = λ a. K.alike.script ∙ none_said;
      })
      (λ n z q ne h e. let was = S.open_scripts n z q h e in record { replies = was.replies; versions = λ id l. seen_stays n z q ne h e id l ∙ was.versions id l; counter = was.counter; alone = was.alone })

  -- ---- locks

  open_now : HasOpen seats' j y p
  open_now = open_here seats j (sits s y) x o y p goes

  lock_was : (n id : ℕ) → HasLock C' n id → HasLock cells n id
  lock_was n id l = record { hold = l.hold; has = was_held n l.hold l.has; mine = l.mine }

  lock_is : (n id : ℕ) → HasLock cells n id → HasLock C' n id
  lock_is n id l = record { hold = l.hold; has = subst (In l.hold) (sym (held_same n)) l.has; mine = l.mine }

  belongs_then : (n : ℕ) (h : Hold) → Belongs seats n h → Belongs seats' n h
  belongs_then n h b = ⊎_elim
      (λ (e : b.j ≡ j).
      let same = one_session seats j b.x x b.o o (subst (λ (m : ℕ). HasOpen seats m b.x b.o) e b.has) has_open in
      record {
        j = j;
        x = y;
        o = p;
        has = open_now;
        mine = K.alike.id ∙ ap (λ (q : OpenTransaction). q.id) (sym same.1) ∙ b.mine;
        only = λ m z q g f. only m z q g f ∙ e;
        visited = subst (In n) (sym K.same_visited) (subst (λ (q : OpenTransaction). In n q.visited) same.1 b.visited);
        unreleased = λ q. b.unreleased (subst (λ (u : OpenTransaction). In n u.released) (sym same.1) (subst (In n) K.same_released q));
      })
      (λ (ne : b.j ≢ j). record { j = b.j; x = b.x; o = b.o; has = open_else seats j (sits s y) x o y p goes b.j b.x b.o ne b.has; mine = b.mine; only = only; visited = b.visited; unreleased = b.unreleased })
      (cases_eq b.j j)
    where
      only : (m : ℕ) (z : Session) (q : OpenTransaction) → HasOpen seats' m z q → q.id ≡ h.tx → m ≡ b.j
      only = each_open seats j (sits s y) x o y p goes (λ m z q. q.id ≡ h.tx → m ≡ b.j) (λ e. b.only j x o has_open (sym K.alike.id ∙ e)) (λ m z q ne g e. b.only m z q g e)

  covers_same : (q : OpenTransaction) (m : ℕ) (ls : List Line) → Each (λ l. Each (Holds (holds_at cells m) q.id) (requests_in v (defs_of T) q.explicit m l.0)) ls → Each (λ l. Each (Holds (holds_at C' m) q.id) (requests_in v (defs_of T) q.explicit m l.0)) ls
  covers_same q m ls h = subst (λ (hs : List Hold). Each (λ l. Each (Holds hs q.id) (requests_in v (defs_of T) q.explicit m l.0)) ls) (sym (held_same m)) h

  looked_still : (place : SessionStatus) (q : OpenTransaction) → HoldsInCatalog v cells T place q → HoldsInCatalog v C' T place q
  looked_still place q h = record { lock = lock_is catalog_at q.id h.lock; requests = λ u e. subst (λ (hs : List Hold). Each (Holds hs q.id) (of_catalog (text_requests (defs_of T) q.explicit (v.reads u)).catalog)) (sym (held_same catalog_at)) (h.requests u e) }

  whole_held : Holds (holds_at C' catalog_at) o.id (whole X)
  whole_held = record { hold = record { tx = o.id; request = whole X }; has = subst (In _) (sym (held_same catalog_at)) exclusive; mine = refl; item = whole_same; mode = refl }

  -- its wants are the catalog's X alone
  its_requests : (m : ℕ) → Each (Holds (holds_at C' m) o.id) (requests_in v (defs_of T) false m text)
  its_requests m = subst (Each (Holds (holds_at C' m) o.id)) (sym requests_are) (⊎_elim
      (λ (e : m ≡ catalog_at). subst (λ (n : ℕ). Each (Holds (holds_at C' n) o.id) (if n == catalog_at then whole X ∷ [] else [])) (sym e) (whole_held, tt))
      (λ (ne : m ≢ catalog_at). subst (λ (b : Bool). Each (Holds (holds_at C' m) o.id) (if b then whole X ∷ [] else [])) (sym (ne_eqb m catalog_at ne)) tt)
      (cases_eq m catalog_at))
    where
      requests_are : requests_in v (defs_of T) false m text ≡ (if m == catalog_at then whole X ∷ [] else [])
      requests_are = ap (λ (q : Option Stmt). requests_at m (text_requests (defs_of T) false q)) K.is
          ∙ ap₂ (λ q c. (if m == catalog_at then of_catalog q else []) ++ of_cell m c) (x_of stmt K.creates) (no_cell (defs_of T) stmt K.creates) ∙ append-nil (if m == catalog_at then whole X ∷ [] else [])

  its_request : Each (Holds (holds_at C' catalog_at) o.id) (of_catalog (text_requests (defs_of T) false (v.reads text)).catalog)
  its_request = subst (λ (q : Option Stmt). Each (Holds (holds_at C' catalog_at) o.id) (of_catalog (text_requests (defs_of T) false q).catalog)) (sym K.is)
      (subst (λ (q : Option Mode). Each (Holds (holds_at C' catalog_at) o.id) (of_catalog q)) (sym (x_of stmt K.creates)) (whole_held, tt))

  lies_then : (id : ℕ) (w : Version) (e : EventId) → LiesUnder cells T id w e → LiesUnder C' T id w e
  lies_then id w e u = record { hold = u.hold; has = subst (In u.hold) (sym (held_same (cell_of id))) u.has; mine = u.mine; reaches = u.reaches }

  end_then : (id : ℕ) (w : Version) (e : Option EventId) → EndLiesUnder v cells S.ledger id w e → EndLiesUnder v C' S.ledger id w e
  end_then id w None u = tt
  end_then id w (Some e) u = λ q. lies_then id w e (u q)

  -- in the catalog all that isn't committed is its own
  module _ (id : ℕ) (l : 1 ≤ id) (e : cell_of id ≡ catalog_at) (w : Version) (there : In w (versions_at C' id)) where
    under_mine : (at : EventId) → at.0 ≡ o.id → LiesUnder C' T id w at
    under_mine at m = record { hold = record { tx = o.id; request = whole X }; has = subst (In _) (sym (held_same (cell_of id))) (subst (λ (n : ℕ). In (record { tx = o.id; request = whole X }) (holds_at cells n)) (sym e) exclusive); mine = sym m; reaches = reaches_all (version_key (columns_at (defs_of T) id) w) }

    of_others : (tx : ℕ) → tx ≢ o.id → in_journal S.ledger.items (tx, 0) ≡ false → MadeBefore tx 0 w
    of_others tx ne f = at_in (MadeBefore tx 0) (versions_at C' id) w (let c = change id l e in subst (AllByRecursion (MadeBefore tx 0)) (sym (rows_are id e ∙ c.is))
        (all_untouched o.id tx 0 (λ k. ne (sym k)) c.from c.changes (versions_at cells id) (subst (AllByRecursion (MadeBefore tx 0)) (sym (were id l e)) (before_at tx 0 id T (legal_sound v.reads S.ledger.items tx S.ledger_is_legal.legal (absent_others S.ledger.items tx f)).each)))) there

    its_mine : (at : EventId) → ((tx : ℕ) → MadeBefore tx 0 w → tx ≡ at.0 → ⊥) → in_journal S.ledger.items at ≡ false → LiesUnder C' T id w at
    its_mine at no_one f = ⊎_elim (λ (m : at.0 ≡ o.id). under_mine at m) (λ (ne : at.0 ≢ o.id). absurd (no_one at.0 (of_others at.0 ne f) refl)) (cases_eq at.0 o.id)

    end_mine : (at : Option EventId) → ((tx : ℕ) → MadeBefore tx 0 w → EndsBefore tx 0 at) → EndLiesUnder v C' S.ledger id w at
    end_mine None h = tt
    end_mine (Some at) h = its_mine at (λ tx m q. let z = h tx m (sym q) in omega arith)

    all_mine : IsUnderLocks v C' S.ledger id w
    all_mine = record { start = its_mine w.start (λ tx m q. let z = m.start (sym q) in omega arith); end = end_mine w.end (λ tx m. m.end) }

  under_then : (id : ℕ) → 1 ≤ id → Each (IsUnderLocks v C' S.ledger id) (versions_at C' id)
  under_then = by_cell (λ id. Each (IsUnderLocks v C' S.ledger id) (versions_at C' id))
      (λ id l e. all_at (IsUnderLocks v C' S.ledger id) (versions_at C' id) (all_mine id l e))
      (λ id l ne. subst (Each (IsUnderLocks v C' S.ledger id)) (sym (rows_else id ne))
      (each_weaker (IsUnderLocks v cells S.ledger id) (IsUnderLocks v C' S.ledger id) (λ w u. record { start = λ q. lies_then id w w.start (u.start q); end = end_then id w w.end u.end }) (versions_at cells id) (S.locks_cover.under id l)))

  alone_then : HasAlone (contents C') p.id
  alone_then = subst (λ (n : ℕ). In (record { tx = n; request = whole X }) (holds_at C' catalog_at)) (sym K.alike.id) (subst (In _) (sym (held_same catalog_at)) exclusive)

  covered : LocksCover v C' S.ledger seats'
  covered = record {
    belong = λ n h has. belongs_then n h (S.locks_cover.belong n h (was_held n h has));
    unreleased = each_open seats j (sits s y) x o y p goes (λ n z q. q.end ≡ unfixed → q.released ≡ []) (λ e. K.same_released ∙ S.locks_cover.unreleased j x o has_open K.unfixed) (λ n z q ne h. S.locks_cover.unreleased n z q h);
    intents = λ n h has m. subst (λ (hs : List Hold). HasIntent hs h) (sym (held_same n)) (S.locks_cover.intents n h (was_held n h has) m);
    looked = each_open seats j (sits s y) x o y p goes (λ n z q. q.end ≡ unfixed → LookedAt v C' T z.place q)
        (λ e. looked_so v C' T p y.place (λ h. record {
          lock = record { hold = record { tx = o.id; request = whole X }; has = subst (In _) (sym (held_same catalog_at)) exclusive; mine = sym K.alike.id };
          requests = λ u f. let one : text ≡ u = cc in subst (λ (t : Text). Each (Holds (holds_at C' catalog_at) p.id) (of_catalog (text_requests (defs_of T) p.explicit (v.reads t)).catalog)) one
              (subst (λ (b : Bool). Each (Holds (holds_at C' catalog_at) p.id) (of_catalog (text_requests (defs_of T) b (v.reads text)).catalog)) (sym (K.alike.explicit ∙ K.alone)) (subst (λ (n : ℕ). Each (Holds (holds_at C' catalog_at) n) (of_catalog (text_requests (defs_of T) false (v.reads text)).catalog)) (sym K.alike.id) its_request));
        }))
        (λ n z q ne h e. looked_so v C' T q z.place (λ l. looked_still z.place q (looked_now v cells T q z.place (S.locks_cover.looked n z q h e) l)));
    on_whole = λ h has. S.locks_cover.on_whole h (was_held catalog_at h has);
    looked_first = each_open seats j (sits s y) x o y p goes (λ n z q. q.end ≡ unfixed → LookedFirst z.place → RequestsNone v C' T q) (λ e h. absurd ((K.stage_is has_tables).not_first h))
        (λ n z q ne h e f. let was = S.locks_cover.looked_first n z q h e f in record { before = was.before; shares = λ h has m. was.shares h (was_held catalog_at h has) m; elsewhere = λ m l. was.elsewhere m (lock_was (suc m) q.id l) });
    cover = each_open seats j (sits s y) x o y p goes (λ n z q. (m : ℕ) → KeepsLocks q m → Each (λ l. Each (Holds (holds_at C' m) q.id) (requests_in v (defs_of T) q.explicit m l.0)) (script_so_far z q))
        (λ m u. subst (Each (λ l. Each (Holds (holds_at C' m) p.id) (requests_in v (defs_of T) p.explicit m l.0))) (sym same_script)
        (subst (λ (b : Bool). Each (Holds (holds_at C' m) p.id) (requests_in v (defs_of T) b m text)) (sym (K.alike.explicit ∙ K.alone)) (subst (λ (n : ℕ). Each (Holds (holds_at C' m) n) (requests_in v (defs_of T) false m text)) (sym K.alike.id) (its_requests m)), tt))
        (λ n z q ne h m u. covers_same q m (script_so_far z q) (S.locks_cover.cover n z q h m u));
    catalog = λ n id l. lock_is catalog_at id (S.locks_cover.catalog n id (lock_was (suc n) id l));
    definitions = λ n z q m h e l. each_open seats j (sits s y) x o y p goes (λ n z q. (m : ℕ) → EndsAt q.end m → HasLock C' catalog_at q.id → defs_of T ≡ defs_of (serial v.reads (upto S.ledger.items m)))
        (λ m e l. absurd (subst (λ (u : End). EndsAt u m) (K.alike.end ∙ K.unfixed) e))
        (λ n z q ne h m e l. S.locks_cover.definitions n z q m h e (lock_was catalog_at q.id l)) n z q h m e l;
    got = each_open seats j (sits s y) x o y p goes (λ n z q. HasLock C' catalog_at q.id → IsGotAt v C' T q.id (not (in_journal S.ledger.items (q.id, 0))) z.place)
        (λ l. subst (λ (b : Bool). IsGotAt v C' T p.id b y.place) (sym (ap (λ (n : ℕ). not (in_journal S.ledger.items (n, 0))) K.alike.id ∙ ap not (mine_out 0))) (got_at_more v T (Unit {0}) (HasAlone (contents C') p.id) true (λ u. alone_then) y.place (K.stage_is has_tables).got))
        (λ n z q ne h l. got_at_more v T (HasAlone (contents cells) q.id) (HasAlone (contents C') q.id) (not (in_journal S.ledger.items (q.id, 0))) (subst (In _) (sym (held_same catalog_at))) z.place (S.locks_cover.got n z q h (lock_was catalog_at q.id l)));
    dropping = each_open seats j (sits s y) x o y p goes (λ n z q. IsDropping z.place q → In (record { tx = q.id; request = whole X }) (holds_at C' catalog_at)) (λ h. absurd ((K.stage_is has_tables).not_dropping p h))
        (λ n z q ne g h. subst (In _) (sym (held_same catalog_at)) (S.locks_cover.dropping n z q g h));
    under = under_then;
  }

  agree : LocksAgree C' seats'
  agree m n k a b ne f g = S.locks_agree m n k a b ne (had m n a f) (had m k b g)
    where
      had : (m n : ℕ) (h : Hold) → SeatHas C' seats' m n h → SeatHas cells seats m n h
      had m n h q = each_open seats j (sits s y) x o y p goes (λ n z u. u.id ≡ h.tx → SeatHas cells seats m n h)
          (λ e. record { x = x; o = o; open_one = has_open; lock = was_held m h q.lock; mine = sym K.alike.id ∙ e })
          (λ n z u ne g e. record { x = z; o = u; open_one = g; lock = was_held m h q.lock; mine = e })
          n q.x q.o q.open_one q.mine

  -- ---- tables

  it_creates : Creates v C' seats' S.ledger y stmt
  it_creates = record {
    j = j;
    o = p;
    has = open_now;
    own = K.alike.explicit ∙ K.alone;
    outside = ap (λ (n : ℕ). in_journal S.ledger.items (n, 0)) K.alike.id ∙ mine_out 0;
    text = text;
    stands = refl;
    is = K.is;
    creates = K.creates;
    acted = (K.stage_is has_tables).acted;
    exclusive = subst (λ (n : ℕ). In (record { tx = n; request = whole X }) (holds_at C' catalog_at)) (sym K.alike.id) (subst (In _) (sym (held_same catalog_at)) exclusive);
  }

  definitions_then : AreDefinitions v C' seats' S.ledger new.defs new.creator
  unfolding it_creates
  definitions_then = ⊎_elim
      (λ (e : (new.defs ≡ old.defs) × (new.creator ≡ old.creator)). inl (e.0 ∙ old_defs))
      (λ (e : (new.creator ≡ Some (record { tx = o.id; before = old.defs })) × (HasTables old T → new.defs ≡ defs_of (defined (change_set T stmt).definition T))).
      inr (record { x = y; stmt = stmt; by = it_creates; has_creator = e.0 ∙ ap₂ (λ (n : ℕ) (ds : Defs). Some (record { tx = n; before = ds })) (sym K.alike.id) old_defs; is = e.1 has_tables }))
      K.creator

  creator_then : (k : Creator) → new.creator ≡ Some k → GoesBack v C' S.ledger k
  creator_then k f = ⊎_elim
      (λ (e : (new.defs ≡ old.defs) × (new.creator ≡ old.creator)). let was = S.tables_are_serial.goes_back k (ap (λ (q : CatalogCell). q.creator) (sym is_catalog) ∙ sym e.1 ∙ f) in
      record { exclusive = subst (In (record { tx = k.tx; request = whole X })) (sym (held_same catalog_at)) was.exclusive; before = was.before })
      (λ (e : (new.creator ≡ Some (record { tx = o.id; before = old.defs })) × (HasTables old T → new.defs ≡ defs_of (defined (change_set T stmt).definition T))).
      let one : Some (record { tx = o.id; before = old.defs }) ≡ Some k = sym e.0 ∙ f in
      let same : record { tx = o.id; before = old.defs } ≡ k = cc in
      subst (GoesBack v C' S.ledger) same (record { exclusive = subst (In (record { tx = o.id; request = whole X })) (sym (held_same catalog_at)) exclusive; before = λ u. old_defs }))
      K.creator

  indexes_then : (def : TableDef) (xs : List (List ℕ)) → AreIndexes v cells seats S.ledger def xs → AreIndexes v C' seats' S.ledger def xs
  indexes_then def xs h = ⊎_elim (λ (e : xs ≡ ordinals_of def.indexes). inl e)
      (λ (k : (z : Session) × (q : Stmt) × (after : TableDef) × (by : Creates v cells seats S.ledger z q) × (def_at (defs_of (defined (change_set T q).definition T)) def.id ≡ Some after) × (xs ≡ ordinals_of after.indexes) × IsAdding z.place by.o after (cell_of def.id)). absurd (none_acts k.0 k.1 k.3)) h

  stands_then : (cell : TableCell) (def : Option TableDef) → StandsAs v cells seats S.ledger cell def → StandsAs v C' seats' S.ledger cell def
  stands_then cell None h = h
  stands_then cell (Some def) h = record { key = h.key; fit = h.fit; in_key_order = h.in_key_order; keys_differ = h.keys_differ; projections = h.projections; indexes = indexes_then def (map (λ q. q.ordinals) cell.indexes) h.indexes }

  table_was : (n : ℕ) (cell : TableCell) → table_found (get_elem? C' n) ≡ some cell → table_found (get_elem? cells n) ≡ some cell
  table_was n cell f = let e = table_there (get_elem? C' n) cell f in ⊎_elim
      (λ (q : n ≡ catalog_at). absurd (let f : some (Catalog new) ≡ some (Rows cell) = sym (set_here cells catalog_at (Catalog old) (Catalog new) K.out) ∙ ap (get_elem? C') (sym q) ∙ e in cc))
      (λ (ne : n ≢ catalog_at). ap table_found (sym (set_else cells catalog_at n (Catalog new) ne) ∙ e))
      (cases_eq n catalog_at)

  indexed_else : (place : SessionStatus) → IsIndexed cells place → IsIndexed C' place
  indexed_else (inside at (made def true)) was = λ m cell f k. was m cell (table_was m cell f) k
  indexed_else (inside at (made def false)) was = tt
  indexed_else place was = tt

  -- ---- what is shown

  act : TranscriptsAgree v (history ++ by (g v cells seats S j s K.there x K.role o K.open_one).runs.number (looks text false) ∷ []) S.ledger seats'
  act = let stands = K.stage_is has_tables in
      asks_act v cells seats S j s K.there x K.role o K.open_one K.unfixed text begun K.place refl false stage p K.alike stands.asks (λ f. cc)
      (λ answered a h. ⊎_elim (λ (k : IsAnswered answered a). inl k) (λ (k : ⊥). absurd k) h)
      (from_at v.meaning x y (inside text begun) (Some o) [] K.place K.open_one refl (λ n i f. let z = fits_if v.meaning n text begun o false K.alone f in record {
        shown = append-nil _ ∙ (λ m. shown_with v.meaning (K.alone m) o.id text begun ++ end_shown o.end) ∙ ap (λ (l : List Fact). (began o.id false ∷ l) ++ end_shown o.end) (sym stands.shows)
            ∙ (λ m. shown_with v.meaning (sym (K.alike.explicit ∙ K.alone) m) (sym K.alike.id m) text stage ++ end_shown (sym K.alike.end m));
        before = (λ m. if K.alone m then (if is_begin begun then None else Some o.id) else None) ∙ (λ m. if sym (K.alike.explicit ∙ K.alone) m then (if is_begin stage then None else Some p.id) else None);
        images = sym stands.image;
        fits = if_fits v.meaning n text stage p false (K.alike.explicit ∙ K.alone) (subst (EndsOwn (kind_of (v.meaning.reads text))) (sym K.alike.end) z.0, stands.fits n (subst (EndsOwn (kind_of (v.meaning.reads text))) K.unfixed z.0));
      }))

  act_owner : act.owner (g v cells seats S j s K.there x K.role o K.open_one).runs.number ≡ j
  unfolding act
  act_owner = asks_owner _ _ _ _ _ _ _ _ _ _ _ _ _ _ _ _ _ _ _ _ _ _ _ _

  events_all : (n : ℕ) (z : Session) (q : OpenTransaction) → n ≢ j → HasOpen seats n z q → q.end ≡ unfixed → (id : ℕ) → 1 ≤ id → events_counted C' z q id ≡ events_counted cells z q id
  events_all n z q ne h e id l = events_of_touched q.id id _ ∙ ap (events_in q.id id) (seen_stays n z q ne h e id l) ∙ sym (events_of_touched q.id id _)

  -- ---- trees

  -- it has no event before
  none_yet : (id : ℕ) → 1 ≤ id → events_counted cells x o id ≡ []
  none_yet id l = events_of_touched o.id id _ ∙ ap (events_in o.id id) ((S.open_scripts j x o has_open K.unfixed).versions id l ∙ ap (λ (U : Tables). touched o.id (versions_of U id)) end_was) ∙ sym (events_of_touched o.id id (versions_of T id)) ∙ no_events o.id id (versions_of T id) (before_at o.id 0 id T T_sound.each)

  none_saved : (script_end v T x o).state.saved ≡ []
  none_saved = ap (λ (b : Bool). (script v.reads b T o.id (texts_so_far x o)).state.saved) K.alone ∙ ap (λ (ls : List Line). (script v.reads false T o.id (map (λ l. l.0) ls)).state.saved) (whole_script ∙ none_said) ∙ ap (λ q. q.state.saved) (nothing_done v.reads false T o.id)

  pub events_then : (id : ℕ) → events_counted C' y p id ≡ events_in o.id id (versions_at C' id)
  events_then id = ap (events_in p.id id) (counts_then id _) ∙ ap (λ (n : ℕ). events_in n id (versions_at C' id)) K.alike.id

  pub was_trees : AreTrees (λ id. []) o.trees
  was_trees = trees_from x o x o (no_change x o) v (events_counted cells x o) (λ id. []) o.trees (λ id l. sym (none_yet id l)) (S.trees_are_of_events j x o has_open K.unfixed).trees

  -- what it didn't do anything in
  pub none_elsewhere : (id : ℕ) → 1 ≤ id → cell_of id ≢ catalog_at → events_in o.id id (versions_at C' id) ≡ []
  none_elsewhere id l ne = ap (events_in o.id id) (rows_else id ne ∙ sym (no_count id _)) ∙ none_yet id l

  pub same_here_none : (id : ℕ) → 1 ≤ id → versions_at C' id ≡ versions_at cells id → events_in o.id id (versions_at C' id) ≡ []
  same_here_none id l e = ap (events_in o.id id) (e ∙ sym (no_count id _)) ∙ none_yet id l

  module _ (its_trees : AreTrees (λ id. events_in o.id id (versions_at C' id)) p.trees) where
    trees : TreesAreOfEvents v C' S.ledger seats'
    trees = each_open seats j (sits s y) x o y p goes (λ n z q. q.end ≡ unfixed → HasItsTrees v C' S.ledger z q)
        (λ e. record {
          trees = trees_from x o x o (no_change x o) v (λ id. events_in o.id id (versions_at C' id)) (events_counted C' y p) p.trees (λ id l. events_then id) its_trees;
          open_savepoints = subst (λ (fs : List OpenSavepoint). AreOpenSavepoints p.id fs (script_end v T y p).state.saved) (sym K.same_savepoints) (subst (λ (q : List Saved). AreOpenSavepoints p.id o.open_savepoints q) (sym (ap (λ (q : State). q.saved) end_state))
              (subst (λ (n : ℕ). AreOpenSavepoints n o.open_savepoints []) (sym K.alike.id) (subst (AreOpenSavepoints o.id o.open_savepoints) none_saved (S.trees_are_of_events j x o has_open K.unfixed).open_savepoints)));
        })
        (λ n z q ne h e. let was = S.trees_are_of_events n z q h e in record { trees = trees_from z q z q (no_change z q) v (events_counted cells z q) (events_counted C' z q) q.trees (events_all n z q ne h e) was.trees; open_savepoints = was.open_savepoints })

    pub creates_there : StandsBy v j history o.id o.explicit (looks text false ∷ []) C' seats'
    creates_there = record {
      session = _;
      of = its_session v.meaning history (S.transcripts_agree.of_seat j) x o (g v cells seats S j s K.there x K.role o K.open_one);
      stands = record {
        catalog = new;
        ledger = S.ledger;
        are_cells = catalog_changed cells S.catalog S.ledger new S.are_cells;
        ledger_is_legal = S.ledger_is_legal;
        tables_are_serial = record {
          definitions = definitions_then;
          goes_back = creator_then;
          carried = each_open seats j (sits s y) x o y p goes (λ n z q. q.end ≡ unfixed → IsCarried new.defs T (script_end v T z q).state.tables)
              (λ e. inl (K.left has_tables ∙ ap defs_of (sym end_tables)))
              (λ n z q ne h e. inr (others_keep v cells seats S o.id exclusive n z q h e (other_id n z q ne h)));
          indexed = each_open seats j (sits s y) x o y p goes (λ n z q. q.end ≡ unfixed → IsIndexed C' z.place) (λ e. (K.stage_is has_tables).indexed C') (λ n z q ne h e. indexed_else z.place (S.tables_are_serial.indexed n z q h e));
          versions = by_cell (λ id. committed S.ledger.items (versions_at C' id) ≡ versions_of T id)
              (λ id l e. committed_undone S.ledger.items o.id (mine_out 0) (versions_at C' id) ∙ ap (committed S.ledger.items) (undone_is id l e ∙ sym (were id l e)) ∙ S.tables_are_serial.versions id l)
              (λ id l ne. ap (committed S.ledger.items) (rows_else id ne) ∙ S.tables_are_serial.versions id l);
          tables = λ n cell e. stands_then cell (def_at (defs_of T) cell.id) (S.tables_are_serial.tables n cell (table_was n cell e));
        };
        rows_agree = rows_agree;
        open_scripts = scripts;
        locks_cover = covered;
        locks_agree = agree;
        trees_are_of_events = trees;
        transcripts_agree = act;
      };
      mine = act_owner;
    }
