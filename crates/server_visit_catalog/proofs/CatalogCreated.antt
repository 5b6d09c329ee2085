-- Statements that create, alter or drop, and have their X in the catalog.
use Rattle.std.proofs.Common.{◌≡◌, ◌≢◌, ◌⊎◌, ℕ, ◌+◌, ◌<◌, ◌≤◌, Bool, true, false, List, [], ◌∷◌, Option, Some, None, Ok, Err, length, map, refl, sym, ap, ◌∙◌, subst, ⊎_elim, arith}
use Rattle.std.specs.Prelude.{not, vec_capacity, ◌&&◌, ◌||◌, nat_lt, nat_le}
use Rattle.std.specs.List.{AllByRecursion, list_all}
use Rattle.std.proofs.lemmas.List.{append-nil}
use Rattle.sql_value.specs.declared.refusal.Refusal.{Refusal}
use Rattle.sql_value.specs.declared.refusal.Refusal.TheVariants.{NoSuchTable, NameConflict, NoSuchColumn, ReadOnlyTable, LimitExceeded, NoMemory}
use Rattle.sql_types.specs.declared.lock.Hold.{Hold}
use Rattle.sql_types.specs.declared.lock.Mode.TheVariants as mode
use Rattle.sql_types.specs.declared.reply.Reply.{Reply}
use Rattle.sql_types.specs.declared.reply.Reply.TheVariants as reply
use Rattle.sql_types.specs.declared.statement.Alter.{Alter}
use Rattle.sql_types.specs.declared.statement.CreateIndex.{CreateIndex}
use Rattle.sql_types.specs.declared.statement.CreateTable.{CreateTable}
use Rattle.sql_types.specs.declared.statement.Stmt.{Stmt}
use Rattle.sql_types.specs.declared.statement.Stmt.TheVariants as st
use Rattle.sql_types.specs.declared.table.IndexDef.{IndexDef}
use Rattle.sql_types.specs.declared.table.Part.{Part}
use Rattle.sql_types.specs.declared.table.Part.TheVariants.{Base, History, View, System}
use Rattle.sql_types.specs.declared.table.TableDef.{TableDef}
use Rattle.sql_types.specs.declared.version.Version.{Version}
use Rattle.spec_model.specs.Alter.{Altered, alteration, table_drop}
use Rattle.spec_model.specs.Catalog.{Defs, NamedPart, find_part}
use Rattle.spec_model.specs.Checks.{is_base, is_declared, refused_if}
use Rattle.spec_model.specs.Create.{create_check, index_check, index_check_in, index_def, is_long, with_index}
use Rattle.spec_model.specs.Holds.{holds_after}
use Rattle.spec_model.specs.Limits.{max_index_columns, max_indexes}
use Rattle.spec_model.specs.Lists.{has_name, repeats}
use Rattle.spec_model.specs.Locks.{whole}
use Rattle.spec_model.specs.Refusals.{Checked, and_then, or_refused}
use Rattle.spec_model.specs.Runs.{MadeBefore}
use Rattle.spec_model.specs.LiveColumns.{live_columns}
use Rattle.spec_model.specs.ScriptRequests.{runs}
use Rattle.spec_model.specs.SystemTables.{columns_id}
use Rattle.server_session.specs.CatalogVisits.{alters_in, with_altered, with_altered_leaves, with_holds, with_new_index, with_system_leaves, with_table, AltersTable, CreateRefused, CreatesIndex, CreatesTable, RefusesCreate}
use Rattle.server_session.specs.Cells.{CatalogCell, Catalog, catalog_at, versions_at}
use Rattle.server_session.specs.Doing.{done, events_from, grown, no_memory, stage_after, with_reply}
use Rattle.server_session.specs.Lists.{Text}
use Rattle.server_session.specs.Moves.{at_place, noting, sits, then_at, visiting, InOpenTransaction}
use Rattle.server_session.specs.OpenScripts.{counted}
use Rattle.server_session.specs.Seats.{OpenTransaction, SessionStatus, Tree, begun, inside, made, SeatState}
use Rattle.server_session.specs.TablesAreSerial.{HasActed}
use Rattle.server_session.specs.Visits.{alter_table, create_index, create_table, refuse_create}
use Rattle.law_protocol_steps.proofs.CellsAfter.{were_here}
use Rattle.store_catalog.specs.Calls.{HasAltered, HasIndex, HasTable, IndexMade, LocksTaken, MayCreate, TableAltered, TableMade}
use Rattle.server_visit_catalog.specs.InCatalog.{AlterFails, Creates, GoesAgain, HasMade, HasVisited, IndexFails, IsAltered, IsIndex, IsRefused, IsSame, IsTable, KeepsLock, MayLookFor, TableFails}
use Rattle.server_session.specs.KeptCell.{catalog_seen}
use Rattle.server_session.specs.Needs.{stage_visits}
use Rattle.server_session.specs.Sits.{IsRunning, OfStmt, Sits, line_of}
use Rattle.server_session.specs.Sits as sit
use Rattle.server_session.specs.Stages.{done_stage, stopped_stage}
use Rattle.server_session.specs.Steps.{Among, IsVisit}
use Rattle.server_session.specs.SessionOutput.{plainly}
use Rattle.server_session.specs.VisitedCells.{IsTableCell, table_cell}
use Rattle.server_session.specs.declared.running.Running.{Running}
use Rattle.server_session.specs.declared.seat.Seat.{Seat}
use Rattle.server_session.specs.declared.stage.ControlPoint.TheVariants.{Inside}
use Rattle.server_session.specs.declared.stage.Stage.{Stage}
use Rattle.server_session.specs.declared.stage.Stage.TheVariants.{Looking, Made, Replied}
use Rattle.server_session.proofs.Alone.{then_seat, adds_at}
use Rattle.server_session.proofs.Sitting.{sits_at, sits_done, visits_once}
use Rattle.server_visit_catalog.proofs.CatalogFound.{definitions_are, found_cell}
use Rattle.server_visit_catalog.proofs.CatalogLocks.{cell_again, holds_nothing}
use Rattle.server_visit_catalog.proofs.CatalogLooked.{fewer_now}
use Rattle.server_visit_catalog.proofs.CatalogSitting.{IsIn, is_open, is_out, may_look, open_at_stage, some_stmt, running_now, script_now, room_now}
use Rattle.server_visit_catalog.proofs.CatalogStopped.{stops, stopped_few}

-- ---- the table of an index

index_named : (defs : Defs) (create : CreateIndex) (def : TableDef) (index : IndexDef) → index_check defs create ≡ Ok (def, index) → (part : Part) × (find_part defs create.table ≡ Some (def, part)) × (part ≢ System)
unfolding index_check
index_named defs create def index is = by_found (find_part defs create.table) refl is
  where
    by_tests : (n : NamedPart) (a b : Bool) (part : Part) (gone last : Bool)
        → refused_if {A = TableDef × IndexDef} a NameConflict (refused_if {A = TableDef × IndexDef} b LimitExceeded (refused_if {A = TableDef × IndexDef} (not (is_base part && not gone)) ReadOnlyTable (refused_if {A = TableDef × IndexDef} (not last) NoSuchColumn (Ok (n.0, index_def n.0 create))))) ≡ Ok (def, index) → (n.0 ≡ def) × (part ≢ System)
    by_tests n true b part gone last e = absurd cc
    by_tests n false true part gone last e = absurd cc
    by_tests n false false History gone last e = absurd cc
    by_tests n false false View gone last e = absurd cc
    by_tests n false false System gone last e = absurd cc
    by_tests n false false Base true last e = absurd cc
    by_tests n false false Base false false e = absurd cc
    by_tests n false false Base false true e = (ap (λ (m : Checked (TableDef × IndexDef)). elim m [ Ok p ↦ p.0 | Err r ↦ def ]) e, λ f. cc)

    by_found : (n : Option NamedPart) → find_part defs create.table ≡ n → and_then (or_refused NoSuchTable n) (index_check_in create) ≡ Ok (def, index) → (part : Part) × (find_part defs create.table ≡ Some (def, part)) × (part ≢ System)
    by_found None e f = absurd cc
    by_found (Some n) e f =
        let p = by_tests n (has_name (map (λ i. i.name) n.0.indexes) create.name || repeats create.columns)
        (nat_lt max_index_columns (length create.columns) || nat_le max_indexes (length n.0.indexes) || is_long create.name) n.1 n.0.gone (list_all (is_declared (live_columns n.0)) create.columns) f in
        (n.1, e ∙ ap (λ (def : TableDef). Some (def, n.1)) p.0, p.1)

-- ---- what it needs

own_table : (b : Bool) (create : CreateTable) → runs b (st.Create create) ≡ true → b ≡ false
own_table false create e = refl
own_table true create e = absurd cc

own_index : (b : Bool) (create : CreateIndex) → runs b (st.Index create) ≡ true → b ≡ false
own_index false create e = refl
own_index true create e = absurd cc

own_alter : (b : Bool) (alter : Alter) → runs b (st.Alter alter) ≡ true → b ≡ false
own_alter false alter e = refl
own_alter true alter e = absurd cc

own_drop : (b : Bool) (name : Text) → runs b (st.Drop name) ≡ true → b ≡ false
own_drop false name e = refl
own_drop true name e = absurd cc

module _ {H : Type 0} (digest : H → List ℕ → List ℕ) (y : Seat H) (c : CatalogCell) (a : Among digest y (catalog_seen c)) (i : IsIn digest y c a Looking) where
  its_place : a.sits.x.place ≡ inside y.text begun
  its_place = (open_at_stage digest y c a Looking i).stands.place

  made_before : (id : ℕ) → 1 ≤ id → (vs : List Version) → versions_at a.cells id ≡ vs → AllByRecursion (MadeBefore i.o.id i.o.seq) vs
  made_before id low vs are = subst (AllByRecursion (MadeBefore i.o.id i.o.seq)) (ap (λ (p : SessionStatus). counted i.o.id id p (versions_at a.cells id)) its_place ∙ are)
      (a.together.stands.rows_agree.before a.j a.sits.x i.o (is_open digest y c a Looking i) i.unfixed id low)

  may_create : MayCreate digest i.r.context c
  may_create = record {
    h = a.h;
    o = i.o;
    is = i.run.context;
    tables = made_before 1 (omega arith) c.tables (were_here a.cells catalog_at (Catalog c) (Catalog c) (is_out digest y c a) 1 refl);
    columns = made_before 2 (omega arith) c.columns (were_here a.cells catalog_at (Catalog c) (Catalog c) (is_out digest y c a) 2 refl);
  }

  may_look_by : (s : Stmt) → runs i.o.explicit s ≡ true → MayLookFor digest s i.r c
  may_look_by s = by i.o.explicit s
    where
      by : (b : Bool) (s : Stmt) → runs b s ≡ true → MayLookFor digest s i.r c
      by b (st.Create create) e = may_create
      by b (st.Index create) e = may_create
      by b (st.Alter alter) e = may_create
      by b (st.Drop name) e = may_create
      by b (st.Change row) e = tt
      by b (st.Select q) e = tt
      by true st.Begin e = absurd cc
      by false st.Begin e = absurd cc
      by true st.Commit e = absurd cc
      by false st.Commit e = absurd cc
      by true (st.Save name) e = absurd cc
      by false (st.Save name) e = absurd cc
      by true (st.Rollback name) e = absurd cc
      by false (st.Rollback name) e = absurd cc
      by true st.Digest e = absurd cc
      by false st.Digest e = absurd cc
      by true st.Image e = absurd cc
      by false st.Image e = absurd cc

  pub may_look_for : MayLookFor digest i.stmt i.r c
  may_look_for = may_look_by i.stmt (may_look digest y c a i).runs

  pub own_by_table : (create : CreateTable) → i.stmt ≡ st.Create create → i.o.explicit ≡ false
  own_by_table create is = own_table i.o.explicit create (subst (λ (s : Stmt). runs i.o.explicit s ≡ true) is (may_look digest y c a i).runs)

  pub own_by_index : (create : CreateIndex) → i.stmt ≡ st.Index create → i.o.explicit ≡ false
  own_by_index create is = own_index i.o.explicit create (subst (λ (s : Stmt). runs i.o.explicit s ≡ true) is (may_look digest y c a i).runs)

  pub own_by_alter : (alter : Alter) → i.stmt ≡ st.Alter alter → i.o.explicit ≡ false
  own_by_alter alter is = own_alter i.o.explicit alter (subst (λ (s : Stmt). runs i.o.explicit s ≡ true) is (may_look digest y c a i).runs)

  pub own_by_drop : (name : Text) → i.stmt ≡ st.Drop name → i.o.explicit ≡ false
  own_by_drop name is = own_drop i.o.explicit name (subst (λ (s : Stmt). runs i.o.explicit s ≡ true) is (may_look digest y c a i).runs)

-- ---- its visit

module _ {H : Type 0} (digest : H → List ℕ → List ℕ) (y : Seat H) (c d : CatalogCell) (a : Among digest y (catalog_seen c)) (i : IsIn digest y c a Looking)
    (q : Running H) (alone : i.o.explicit ≡ false) (l : CatalogCell) (fresh : Bool) (k : LocksTaken c i.o.id (whole mode.X ∷ []) fresh l) where
  abbrev at : InOpenTransaction a.v a.s i.o
  at = open_at_stage digest y c a Looking i

  abbrev then_at_stage : Stage → Seat H
  then_at_stage stage = then_seat y y.started y.text y.stmt (Some q) (Inside stage)

  abbrev noted : ℕ → List Tree → OpenTransaction
  noted seq trees = noting seq trees (visiting catalog_at i.o)

  script : q.script ≡ i.r.script → i.o.script ≡ map line_of q.script.items
  script same = script_now digest y c a Looking i q same refl

  room : q.script ≡ i.r.script → q.explicit ≡ i.r.explicit → q.explicit ≡ true → length q.script.items < vec_capacity q.script
  room same explicit may = room_now digest y c a Looking i q same (sym explicit ∙ may)

  room_own : q.script ≡ i.r.script → i.o.explicit ≡ true → length q.script.items < vec_capacity q.script
  room_own same may = room_now digest y c a Looking i q same (i.run.explicit ∙ may)

  sits_replied : (r : Reply) (seq : ℕ) (trees : List Tree) → q.script ≡ i.r.script → IsRunning digest a.h q (noted seq trees)
      → Sits digest a.h (then_at_stage (done_stage i.o.explicit r)) (sits a.s (at_place (Some (with_reply y.text r (noted seq trees))) (inside y.text (stage_after i.o.explicit r)) a.sits.x))
  sits_replied r seq trees same running = sits_done digest a.h y a.s a.sits (noted seq trees) i.unfixed q running (script same) (room_own same) r (some_stmt digest y c a Looking i)

  as_own : (r : Reply) → IsVisit digest y (catalog_seen c) a (catalog_seen d) (then_at_stage (done_stage i.o.explicit r)) → IsVisit digest y (catalog_seen c) a (catalog_seen d) (then_at_stage (Replied r))
  as_own r w = subst (λ (b : Bool). IsVisit digest y (catalog_seen c) a (catalog_seen d) (then_at_stage (done_stage b r))) alone w

  -- refused, and the X stays
  stays_locked : (e : Refusal) → CreateRefused c i.stmt e → IsSame digest i.r q → HasVisited i.r q → d ≡ l → IsVisit digest y (catalog_seen c) a (catalog_seen d) (then_at_stage (Replied (reply.Refused e)))
  stays_locked e fails same visited cell =
      let o1 : OpenTransaction = visiting catalog_at i.o in
      let refuses : RefusesCreate a.v c a.s d (done a.s at.stands o1 (reply.Refused e)) = record {
        o = i.o;
        at = at;
        at_begin = refl;
        alone = alone;
        free = k.free;
        refusal = e;
        is = fails;
        cell = cell ∙ k.cell;
        seat = refl;
      } in
      as_own (reply.Refused e) (visits_once digest y (catalog_seen c) a (catalog_seen d) (then_at_stage (done_stage i.o.explicit (reply.Refused e))) (done a.s at.stands o1 (reply.Refused e)) refuse_create (λ out. refuses) (λ out. plainly (tt, tt) refl)
      (sits_replied (reply.Refused e) i.o.seq i.o.trees same.script (running_now digest y c a Looking i q i.o.seq i.o.trees (same.context a.h i.o i.run.context) same.explicit same.end visited))
      [] tt (adds_at a.s a.sits.x (Some (with_reply y.text (reply.Refused e) o1)) (inside y.text (stage_after i.o.explicit (reply.Refused e))) a.sits.role) tt)

  -- for want of memory the X goes again
  goes_again : IsSame digest i.r q → GoesAgain digest i.r l q d (stopped_stage NoMemory) → IsVisit digest y (catalog_seen c) a (catalog_seen d) (then_at_stage (stopped_stage NoMemory))
  goes_again same g = stops digest y c d a Looking i q (same.context a.h i.o i.run.context) same.script same.explicit same.end g.left refl NoMemory refl no_memory
      (g.cell a.h i.o i.run.context ∙ cell_again i.o.id (whole mode.X) c l
      (holds_nothing a.v a.cells a.seats a.together.stands a.j a.sits.x i.o c (is_open digest y c a Looking i) ((may_look digest y c a i).new alone) (is_out digest y c a)) k.cell)

  refused_create : (e : Refusal) (stage : Stage) → (e ≢ NoMemory → CreateRefused c i.stmt e) → IsRefused digest e i.r l q d stage → IsVisit digest y (catalog_seen c) a (catalog_seen d) (then_at_stage stage)
  refused_create e stage fails w = ⊎_elim
      (λ (g : GoesAgain digest i.r l q d stage). subst (λ (s : Stage). IsVisit digest y (catalog_seen c) a (catalog_seen d) (then_at_stage s)) (sym g.stage_is)
      (goes_again w.same (record { cell = g.cell; left = g.left; stage_is = refl })))
      (λ (g : KeepsLock e i.r l q d stage). subst (λ (s : Stage). IsVisit digest y (catalog_seen c) a (catalog_seen d) (then_at_stage s)) (sym g.stage_is)
      (stays_locked e (fails g.not_memory) w.same g.visited g.cell))
      w.how

  -- a table is made
  makes_table : (create : CreateTable) → i.stmt ≡ st.Create create → TableMade digest l i.r.context create d q.context → HasMade i.r q → IsVisit digest y (catalog_seen c) a (catalog_seen d) (then_at_stage (Replied reply.Made))
  makes_table create is m kept =
      let def : TableDef = m.def in
      let t : HasTable digest a.h l def i.o d q.context = m.made a.h i.o i.run.context in
      let seq : ℕ = i.o.seq + 1 + length def.columns in
      let trees : List Tree = with_system_leaves i.o.id i.o.seq d i.o.trees in
      let creates : CreatesTable a.v c a.s d (done a.s at.stands (noted seq trees) reply.Made) = record {
        o = i.o;
        at = at;
        at_begin = refl;
        alone = alone;
        create = create;
        creates = is;
        free = k.free;
        def = def;
        passes = ap (λ (x : CatalogCell). create_check x.defs create) (sym k.cell) ∙ m.passes;
        cell = t.cell ∙ ap (λ (x : CatalogCell). with_table i.o.id i.o.seq def x.holds x) k.cell;
        seat = refl;
      } in
      as_own reply.Made (visits_once digest y (catalog_seen c) a (catalog_seen d) (then_at_stage (done_stage i.o.explicit reply.Made)) (done a.s at.stands (noted seq trees) reply.Made) create_table (λ out. creates) (λ out. plainly (tt, tt) refl)
      (sits_replied reply.Made seq trees kept.0 (running_now digest y c a Looking i q seq trees t.context kept.1 kept.2 kept.3))
      [] tt (adds_at a.s a.sits.x (Some (with_reply y.text reply.Made (noted seq trees))) (inside y.text (stage_after i.o.explicit reply.Made)) a.sits.role) tt)

  -- an index is made
  makes_index : (create : CreateIndex) (now : TableDef) → i.stmt ≡ st.Index create → IndexMade digest l i.r.context create now d q.context → HasMade i.r q → IsVisit digest y (catalog_seen c) a (catalog_seen d) (then_at_stage (Made now false))
  makes_index create now is m kept =
      let def : TableDef = m.def in
      let t : HasIndex digest a.h l def m.index i.o d q.context = m.made a.h i.o i.run.context in
      let seq : ℕ = i.o.seq + length m.index.ordinals in
      let trees : List Tree = grown columns_id (events_from i.o.id i.o.seq columns_id d.columns) i.o.trees in
      let u : SeatState = then_at a.s at.stands (Some (noted seq trees)) (made (with_index def m.index) false) in
      let creates : CreatesIndex a.v c a.s d u = record {
        o = i.o;
        at = at;
        at_begin = refl;
        alone = alone;
        create = create;
        creates = is;
        free = k.free;
        def = def;
        index = m.index;
        passes = ap (λ (x : CatalogCell). index_check x.defs create) (sym k.cell) ∙ m.passes;
        cell = t.cell ∙ ap (λ (x : CatalogCell). with_new_index i.o.id i.o.seq def m.index x.holds x) k.cell;
        seat = refl;
      } in
      let n = index_named c.defs create def m.index creates.passes in
      let here : IsTableCell (table_cell def.id) = found_cell a.v a.cells a.seats a.together.stands c.defs create.table def n.0
      (definitions_are a.v a.cells a.seats a.together.stands a.j a.sits.x i.o c (is_open digest y c a Looking i)
      (λ acted. subst HasActed at.stands.place acted)
      (is_out digest y c a) mode.X k.free) n.1 n.2 in
      subst (λ (e : TableDef). IsVisit digest y (catalog_seen c) a (catalog_seen d) (then_at_stage (Made e false))) (sym m.now)
      (visits_once digest y (catalog_seen c) a (catalog_seen d) (then_at_stage (Made (with_index def m.index) false)) u create_index (λ out. creates) (λ out. plainly (tt, tt) refl)
      (sits_at digest a.h y a.s a.sits (Some q) (Some (noted seq trees)) (Made (with_index def m.index) false)
      (running_now digest y c a Looking i q seq trees t.context kept.1 kept.2 kept.3)
      (λ free. script kept.0 ∙ sym (append-nil (map line_of q.script.items))) (room kept.0 kept.1)
      ((i.unfixed, alone), subst (OfStmt sit.IsIndex) (sym (i.has_stmt ∙ ap (λ (s : Stmt). Some s) is)) tt, here))
      [] tt (adds_at a.s a.sits.x (Some (noted seq trees)) (inside y.text (made (with_index def m.index) false)) a.sits.role) tt)

  -- a table is altered or dropped
  alters : (meant : CatalogCell → Checked Altered) → alters_in c i.stmt ≡ Some (meant c) → meant l ≡ meant c → TableAltered digest l i.r.context (meant l) d q.context → HasMade i.r q
      → IsVisit digest y (catalog_seen c) a (catalog_seen d) (then_at_stage (Replied reply.Made))
  alters meant is same m kept =
      let t : HasAltered digest a.h l m.a i.o d q.context = m.made a.h i.o i.run.context in
      let seq : ℕ = i.o.seq + length m.a.first + length m.a.second in
      let trees : List Tree = with_altered_leaves i.o.id i.o.seq m.a.first d i.o.trees in
      let alters_now : AltersTable a.v c a.s d (done a.s at.stands (noted seq trees) reply.Made) = record {
        o = i.o;
        at = at;
        at_begin = refl;
        alone = alone;
        free = k.free;
        made_is = m.a;
        passes = is ∙ ap (λ (x : Checked Altered). Some x) (sym same ∙ m.passes);
        cell = t.cell ∙ ap (λ (x : CatalogCell). with_altered i.o.id i.o.seq m.a x.holds x) k.cell;
        seat = refl;
      } in
      as_own reply.Made (visits_once digest y (catalog_seen c) a (catalog_seen d) (then_at_stage (done_stage i.o.explicit reply.Made)) (done a.s at.stands (noted seq trees) reply.Made) alter_table (λ out. alters_now) (λ out. plainly (tt, tt) refl)
      (sits_replied reply.Made seq trees kept.0 (running_now digest y c a Looking i q seq trees t.context kept.1 kept.2 kept.3))
      [] tt (adds_at a.s a.sits.x (Some (with_reply y.text reply.Made (noted seq trees))) (inside y.text (stage_after i.o.explicit reply.Made)) a.sits.role) tt)

-- ---- how many visits are left

module _ {H : Type 0} (digest : H → List ℕ → List ℕ) (r q : Running H) (l d : CatalogCell) (stage : Stage) where
  pub refused_fewer : (e : Refusal) → IsRefused digest e r l q d stage → stage_visits stage (Some q) < length r.visited.left + 6
  refused_fewer e w = ⊎_elim
      (λ (g : GoesAgain digest r l q d stage). subst (λ (s : Stage). stage_visits s (Some q) < length r.visited.left + 6) (sym g.stage_is) (let few = stopped_few NoMemory q r g.left in omega (arith, few)))
      (λ (g : KeepsLock e r l q d stage). fewer_now r q stage g.visited (subst (λ (s : Stage). stage_visits s (Some q) ≤ length q.visited.left + 4) (sym g.stage_is) (omega arith)))
      w.how

  pub table_fewer : (create : CreateTable) → IsTable digest create r l q d stage → stage_visits stage (Some q) < length r.visited.left + 6
  table_fewer create m = fewer_now r q stage m.1.3 (subst (λ (s : Stage). stage_visits s (Some q) ≤ length q.visited.left + 4) (sym m.2) (omega arith))

  pub index_fewer : (create : CreateIndex) → IsIndex digest create r l q d stage → stage_visits stage (Some q) < length r.visited.left + 6
  index_fewer create m = fewer_now r q stage m.2.3 (subst (λ (s : Stage). stage_visits s (Some q) ≤ length q.visited.left + 4) (sym m.3) (omega arith))

  pub altered_fewer : (meant : CatalogCell → Checked Altered) → IsAltered digest meant r l q d stage → stage_visits stage (Some q) < length r.visited.left + 6
  altered_fewer meant m = fewer_now r q stage m.1.3 (subst (λ (s : Stage). stage_visits s (Some q) ≤ length q.visited.left + 4) (sym m.2) (omega arith))

-- ---- as the code has it

module _ {H : Type 0} (digest : H → List ℕ → List ℕ) (y : Seat H) (c d : CatalogCell) (a : Among digest y (catalog_seen c)) (i : IsIn digest y c a Looking) (q : Running H) (stage : Stage) where
  abbrev Then : Type 0
  Then = IsVisit digest y (catalog_seen c) a (catalog_seen d) (then_seat y y.started y.text y.stmt (Some q) (Inside stage))

  same_fails : (l : CatalogCell) (fresh : Bool) (e : Refusal) → LocksTaken c i.o.id (whole mode.X ∷ []) fresh l → CreateRefused l i.stmt e → CreateRefused c i.stmt e
  same_fails l fresh e k = by i.stmt
    where
      by : (s : Stmt) → CreateRefused l s e → CreateRefused c s e
      by (st.Create create) f = ap (λ (x : CatalogCell). create_check x.defs create) (sym k.cell) ∙ f
      by (st.Index create) f = ap (λ (x : CatalogCell). index_check x.defs create) (sym k.cell) ∙ f
      by (st.Alter alter) f = ap (λ (x : CatalogCell). alteration x.defs x.tables x.columns alter) (sym k.cell) ∙ f
      by (st.Drop name) f = ap (λ (x : CatalogCell). table_drop x.defs x.tables x.columns name) (sym k.cell) ∙ f
      by (st.Change row) f = absurd f
      by (st.Select s) f = absurd f
      by st.Begin f = absurd f
      by st.Commit f = absurd f
      by (st.Save name) f = absurd f
      by (st.Rollback name) f = absurd f
      by st.Digest f = absurd f
      by st.Image f = absurd f

  pub table_so : (create : CreateTable) → i.stmt ≡ st.Create create
      → Creates digest (TableFails create) (λ l p e at. IsTable digest create i.r l p e at) i.r c q d stage → Then
  table_so create is k =
      let own = own_by_table digest y c a i create is in
      let t : LocksTaken c i.o.id (whole mode.X ∷ []) k.fresh k.locked = k.takes a.h i.o i.run.context in
      ⊎_elim
      (λ (f : (e : Refusal) × (e ≢ NoMemory → TableFails create k.locked e) × IsRefused digest e i.r k.locked q d stage).
      refused_create digest y c d a i q own k.locked k.fresh t f.0 stage
      (λ ne. same_fails k.locked k.fresh f.0 t (subst (λ (s : Stmt). CreateRefused k.locked s f.0) (sym is) (f.1 ne))) f.2)
      (λ (m : IsTable digest create i.r k.locked q d stage). subst (λ (s : Stage). IsVisit digest y (catalog_seen c) a (catalog_seen d) (then_seat y y.started y.text y.stmt (Some q) (Inside s))) (sym m.2)
      (makes_table digest y c d a i q own k.locked k.fresh t create is m.0 m.1))
      k.how

  pub index_so : (create : CreateIndex) → i.stmt ≡ st.Index create
      → Creates digest (IndexFails create) (λ l p e at. IsIndex digest create i.r l p e at) i.r c q d stage → Then
  index_so create is k =
      let own = own_by_index digest y c a i create is in
      let t : LocksTaken c i.o.id (whole mode.X ∷ []) k.fresh k.locked = k.takes a.h i.o i.run.context in
      ⊎_elim
      (λ (f : (e : Refusal) × (e ≢ NoMemory → IndexFails create k.locked e) × IsRefused digest e i.r k.locked q d stage).
      refused_create digest y c d a i q own k.locked k.fresh t f.0 stage
      (λ ne. same_fails k.locked k.fresh f.0 t (subst (λ (s : Stmt). CreateRefused k.locked s f.0) (sym is) (f.1 ne))) f.2)
      (λ (m : IsIndex digest create i.r k.locked q d stage). subst (λ (s : Stage). IsVisit digest y (catalog_seen c) a (catalog_seen d) (then_seat y y.started y.text y.stmt (Some q) (Inside s))) (sym m.3)
      (makes_index digest y c d a i q own k.locked k.fresh t create m.0 is m.1 m.2))
      k.how

  -- what it makes doesn't depend on the locks
  pub altered_so : (meant : CatalogCell → Checked Altered) → i.o.explicit ≡ false → ((x : CatalogCell) → alters_in x i.stmt ≡ Some (meant x)) → ((holds : List Hold) → meant (with_holds holds c) ≡ meant c)
      → ((x : CatalogCell) (e : Refusal) → meant x ≡ Err e → CreateRefused x i.stmt e) → Creates digest (AlterFails meant) (λ l p e at. IsAltered digest meant i.r l p e at) i.r c q d stage → Then
  altered_so meant own is same fails k =
      let t : LocksTaken c i.o.id (whole mode.X ∷ []) k.fresh k.locked = k.takes a.h i.o i.run.context in
      ⊎_elim
      (λ (f : (e : Refusal) × (e ≢ NoMemory → AlterFails meant k.locked e) × IsRefused digest e i.r k.locked q d stage).
      refused_create digest y c d a i q own k.locked k.fresh t f.0 stage
      (λ ne. same_fails k.locked k.fresh f.0 t (fails k.locked f.0 (f.1 ne))) f.2)
      (λ (m : IsAltered digest meant i.r k.locked q d stage). subst (λ (s : Stage). IsVisit digest y (catalog_seen c) a (catalog_seen d) (then_seat y y.started y.text y.stmt (Some q) (Inside s))) (sym m.2)
      (alters digest y c d a i q own k.locked k.fresh t meant (is c)
      (ap meant t.cell ∙ same (holds_after c.holds i.o.id (whole mode.X ∷ []))) m.0 m.1))
      k.how
