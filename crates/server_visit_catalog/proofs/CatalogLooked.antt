-- A statement of rows that has its S in the catalog, and what it comes to there.
use Rattle.std.proofs.Common.{◌≡◌, ◌≢◌, ◌⊎◌, ℕ, ◌+◌, ◌<◌, ◌≤◌, Bool, true, false, List, [], ◌∷◌, Option, Some, None, Ok, Err, length, map, refl, sym, ap, ◌∙◌, subst, inl, inr, ⊎_elim, arith}
use Rattle.std.specs.Prelude.{vec_capacity}
use Rattle.std.proofs.lemmas.List.{append-nil}
use Rattle.sql_value.specs.declared.refusal.Refusal.{Refusal}
use Rattle.sql_value.specs.declared.refusal.Refusal.TheVariants.{NoMemory}
use Rattle.sql_types.specs.declared.lock.Mode.TheVariants as mode
use Rattle.sql_types.specs.declared.reply.Reply.{Reply}
use Rattle.sql_types.specs.declared.reply.Reply.TheVariants as reply
use Rattle.sql_types.specs.declared.statement.Select.{Select}
use Rattle.sql_types.specs.declared.statement.Stmt.{Stmt}
use Rattle.sql_types.specs.declared.statement.Stmt.TheVariants as st
use Rattle.sql_types.specs.declared.table.Part.{Part}
use Rattle.sql_types.specs.declared.table.Part.TheVariants.{System}
use Rattle.sql_types.specs.declared.table.TableDef.{TableDef}
use Rattle.spec_model.specs.Catalog.{Defs, NamedPart, find_part}
use Rattle.spec_model.specs.Effect.{query_rows}
use Rattle.spec_model.specs.Locks.{catalog_request, whole}
use Rattle.spec_model.specs.Query.{query_check}
use Rattle.spec_model.specs.Refusals.{Checked}
use Rattle.spec_model.specs.Rows.{Row}
use Rattle.server_session.specs.Lists.{Text, Each}
use Rattle.server_session.specs.ActsOf.{checked_acts, done_acts}
use Rattle.server_session.specs.Alone.{none, more, no_memory_then, refused_checked}
use Rattle.server_session.specs.Answering.{refused_by_check}
use Rattle.server_session.specs.CatalogVisits.{Looks, ReadsSystem}
use Rattle.server_session.specs.Cells.{Catalog, CatalogCell, catalog_at, versions_in}
use Rattle.server_session.specs.Doing.{done, rows_reply, stage_after, stage_refused, with_reply}
use Rattle.server_session.specs.LocksCover.{name_of, table_of}
use Rattle.server_session.specs.Moves.{at_place, sits, then_at, visiting, InOpenTransaction}
use Rattle.server_session.specs.Seats.{OpenTransaction, found, inside, SeatState}
use Rattle.server_session.specs.TablesAreSerial.{HasActed}
use Rattle.server_session.specs.Visits.{look, read_system}
use Rattle.store_catalog.specs.Calls.{LocksTaken}
use Rattle.server_visit_catalog.specs.InCatalog.{got_stage, refused_stage, Gets, HasVisited, IsBlocked, IsFound, IsLookedUp, IsSame, IsShown}
use Rattle.server_session.specs.KeptCell.{catalog_seen}
use Rattle.server_session.specs.Needs.{stage_visits}
use Rattle.server_session.specs.Sits.{IsOfRows, IsRunning, OfStmt, Sits, line_of}
use Rattle.server_session.specs.Stages.{done_stage, stopped_behind_lock, stopped_stage}
use Rattle.server_session.specs.Steps.{Among, IsVisit}
use Rattle.server_session.specs.SessionOutput.{IsPlain, plainly}
use Rattle.server_session.specs.VisitedCells.{IsTableCell, table_cell}
use Rattle.server_visit_catalog.specs.declared.got.LookupResult.{LookupResult}
use Rattle.server_visit_catalog.specs.declared.got.LookupResult.TheVariants as got
use Rattle.server_session.specs.declared.running.Running.{Running}
use Rattle.server_session.specs.declared.seat.Seat.{Seat}
use Rattle.server_session.specs.declared.stage.ControlPoint.TheVariants.{Inside}
use Rattle.server_session.specs.declared.stage.Stage.{Stage}
use Rattle.server_session.specs.declared.stage.Stage.TheVariants.{Found, GivingBack, Looking}
use Rattle.server_session.proofs.Alone.{then_seat, adds_at}
use Rattle.server_session.proofs.Sitting.{plain_anonymous_acts, sits_at, sits_done, visits_once, visits_then}
use Rattle.server_visit_catalog.proofs.CatalogFound.{definitions_are, found_cell}
use Rattle.server_visit_catalog.proofs.CatalogSitting.{IsIn, is_open, is_out, open_at_stage, some_stmt, running_now, script_now, room_now, end_few, put_few}

-- ---- statements of rows

pub shares : (b : Bool) (s : Stmt) → IsOfRows s → catalog_request b s ≡ Some mode.S
shares true (st.Change row) k = refl
shares false (st.Change row) k = refl
shares true (st.Select q) k = refl
shares false (st.Select q) k = refl
shares b (st.Create create) k = absurd k
shares b (st.Index create) k = absurd k
shares b (st.Alter altered) k = absurd k
shares b (st.Drop name) k = absurd k
shares b st.Begin k = absurd k
shares b st.Commit k = absurd k
shares b (st.Save name) k = absurd k
shares b (st.Rollback name) k = absurd k
shares b st.Digest k = absurd k
shares b st.Image k = absurd k

pub name_there : (s : Stmt) → IsOfRows s → (name : Text) × (name_of s ≡ Some name)
name_there (st.Change row) k = (table_of row, refl)
name_there (st.Select q) k = (q.table, refl)
name_there (st.Create create) k = absurd k
name_there (st.Index create) k = absurd k
name_there (st.Alter altered) k = absurd k
name_there (st.Drop name) k = absurd k
name_there st.Begin k = absurd k
name_there st.Commit k = absurd k
name_there (st.Save name) k = absurd k
name_there (st.Rollback name) k = absurd k
name_there st.Digest k = absurd k
name_there st.Image k = absurd k

-- ---- acts

checked_plain : (b : Bool) (text : Text) (r : Reply) → Each IsPlain (checked_acts b text r)
checked_plain true text r = (tt, tt)
checked_plain false text r = tt

done_plain : (b : Bool) (text : Text) (table : Bool) (r : Reply) → Each IsPlain (done_acts b text table r)
done_plain true text table r = (tt, tt)
done_plain false text table r = (tt, tt)

-- ---- stages

pub memory_or_not : (e : Refusal) → (e ≡ NoMemory) ⊎ (e ≢ NoMemory)
memory_or_not NoMemory = inl refl
memory_or_not e = inr (λ f. cc)

refused_other : (explicit fresh : Bool) (e : Refusal) → e ≢ NoMemory → refused_stage explicit fresh e ≡ done_stage explicit (reply.Refused e)
refused_other explicit fresh NoMemory ne = absurd (ne refl)
refused_other explicit fresh e ne = refl

module _ {H : Type 0} (q : Running H) where
  pub done_few : (b : Bool) (r : Reply) → stage_visits (done_stage b r) (Some q) ≤ length q.visited.left + 4
  done_few true r = let few = end_few q.explicit q.end q.visited.left in omega (arith, few)
  done_few false r = omega arith

  lacking_few : (b : Bool) → stage_visits (stopped_behind_lock b NoMemory) (Some q) ≤ length q.visited.left + 4
  lacking_few true = omega arith
  lacking_few false = let few = end_few q.explicit q.end q.visited.left in omega (arith, few)

  refused_few : (explicit fresh : Bool) (e : Refusal) → stage_visits (refused_stage explicit fresh e) (Some q) ≤ length q.visited.left + 4
  refused_few explicit fresh NoMemory = lacking_few fresh
  refused_few explicit fresh e = done_few explicit (reply.Refused e)

  got_few : (explicit fresh : Bool) (g : Checked LookupResult) → stage_visits (got_stage explicit fresh g) (Some q) ≤ length q.visited.left + 4
  got_few explicit fresh (Ok (got.Table def part)) = omega arith
  got_few explicit fresh (Ok (got.Rows rows)) = done_few explicit (reply.Rows rows)
  got_few explicit fresh (Err e) = refused_few explicit fresh e

-- fewer visits are left than there were
pub fewer_now : {H : Type 0} (r q : Running H) (stage : Stage) → HasVisited r q → stage_visits stage (Some q) ≤ length q.visited.left + 4 → stage_visits stage (Some q) < length r.visited.left + 6
fewer_now r q stage visited few =
    let more : length q.visited.left ≤ length r.visited.left + 1 = subst (λ (l : List ℕ). length l ≤ length r.visited.left + 1) (sym visited) (put_few r.visited.left) in
    omega (arith, few, more)

-- ---- its visit

module _ {H : Type 0} (digest : H → List ℕ → List ℕ) (y : Seat H) (c d : CatalogCell) (a : Among digest y (catalog_seen c)) (i : IsIn digest y c a Looking)
    (q : Running H) (same : IsSame digest i.r q) (visited : HasVisited i.r q) (fresh : Bool) (l : LocksTaken c i.o.id (whole mode.S ∷ []) fresh d) (of_rows : IsOfRows i.stmt) where
  abbrev o1 : OpenTransaction
  o1 = visiting catalog_at i.o

  abbrev at : InOpenTransaction a.v a.s i.o
  at = open_at_stage digest y c a Looking i

  abbrev then_at_stage : Stage → Seat H
  then_at_stage stage = then_seat y y.started y.text y.stmt (Some q) (Inside stage)

  defs : d.defs ≡ c.defs
  defs = ap (λ (x : CatalogCell). x.defs) l.cell

  running : IsRunning digest a.h q o1
  running = running_now digest y c a Looking i q i.o.seq i.o.trees (same.context a.h i.o i.run.context) same.explicit same.end visited

  script : i.o.script ≡ map line_of q.script.items
  script = script_now digest y c a Looking i q same.script refl

  room : q.explicit ≡ true → length q.script.items < vec_capacity q.script
  room may = room_now digest y c a Looking i q same.script (sym same.explicit ∙ may)

  room_own : o1.explicit ≡ true → length q.script.items < vec_capacity q.script
  room_own may = room_now digest y c a Looking i q same.script (i.run.explicit ∙ may)

  -- done, with this reply
  sits_replied : (r : Reply) → Sits digest a.h (then_at_stage (done_stage i.o.explicit r)) (sits a.s (at_place (Some (with_reply y.text r o1)) (inside y.text (stage_after i.o.explicit r)) a.sits.x))
  sits_replied r = sits_done digest a.h y a.s a.sits o1 i.unfixed q running script room_own r (some_stmt digest y c a Looking i)

  -- as the code has whether BEGIN opened it
  by_running : (r : Reply) → IsVisit digest y (catalog_seen c) a (catalog_seen d) (then_at_stage (done_stage i.o.explicit r)) → IsVisit digest y (catalog_seen c) a (catalog_seen d) (then_at_stage (done_stage i.r.explicit r))
  by_running r w = subst (λ (b : Bool). IsVisit digest y (catalog_seen c) a (catalog_seen d) (then_at_stage (done_stage b r))) (sym i.run.explicit) w

  module _ (name : Text) (named : name_of i.stmt ≡ Some name) (n : Option NamedPart) (finds : find_part d.defs name ≡ n) where
    abbrev t1 : SeatState
    t1 = then_at a.s at.stands (Some o1) (found n fresh)

    abbrev at1 : InOpenTransaction a.v t1 o1
    at1 = record {
      stands = record {
        x = at_place (Some o1) (inside y.text (found n fresh)) a.sits.x;
        role = refl;
        text = y.text;
        stage = found n fresh;
        place = refl;
        stmt = i.stmt;
        is = at.stands.is;
      };
      open_one = refl;
      unfixed = i.unfixed;
    }

    looks : Looks a.v c a.s d t1
    looks = record {
      o = i.o;
      at = at;
      at_begin = refl;
      shares = shares i.o.explicit i.stmt of_rows;
      name = name;
      named = named;
      free = l.free;
      cell = l.cell;
      seat = ap (λ (m : Option NamedPart). then_at a.s at.stands (Some o1) (found m fresh)) (sym finds ∙ ap (λ (ds : Defs). find_part ds name) defs)
          ∙ ap (λ (b : Bool). then_at a.s at.stands (Some o1) (found (find_part c.defs name) b)) l.fresh;
    }

    -- it goes on to the table's cell
    goes_on : (def : TableDef) (part : Part) → n ≡ Some (def, part) → refused_by_check (Some (def, part)) i.stmt ≡ None → IsTableCell (table_cell def.id)
        → IsVisit digest y (catalog_seen c) a (catalog_seen d) (then_at_stage (Found def part fresh))
    goes_on def part is passes cell = visits_once digest y (catalog_seen c) a (catalog_seen d) (then_at_stage (Found def part fresh)) t1 look (λ out. looks) (λ out. plainly (tt, tt) refl)
        (subst (λ (m : Option NamedPart). Sits digest a.h (then_at_stage (Found def part fresh)) (then_at a.s at.stands (Some o1) (found m fresh))) (sym is)
        (sits_at digest a.h y a.s a.sits (Some q) (Some o1) (Found def part fresh) running (λ free. script ∙ sym (append-nil (map line_of q.script.items))) room
        (i.unfixed, subst (OfStmt (λ s. IsOfRows s × (refused_by_check (Some (def, part)) s ≡ None))) (sym i.has_stmt) (of_rows, passes), cell)))
        [] tt (adds_at a.s a.sits.x (Some o1) (inside y.text (found n fresh)) a.sits.role) tt

    -- its checks refuse it
    is_refused : (e : Refusal) → refused_by_check n i.stmt ≡ Some e → IsVisit digest y (catalog_seen c) a (catalog_seen d) (then_at_stage (done_stage i.o.explicit (reply.Refused e)))
    is_refused e fails = visits_then digest y (catalog_seen c) a (catalog_seen d) (then_at_stage (done_stage i.o.explicit (reply.Refused e))) t1 (done t1 at1.stands o1 (reply.Refused e)) look (λ out. looks)
        (more none (refused_checked o1 at1 n fresh e refl fails)) refl
        (λ out. plainly (tt, plain_anonymous_acts (checked_acts i.o.explicit y.text (reply.Refused e)) (checked_plain i.o.explicit y.text (reply.Refused e))) refl)
        (sits_replied (reply.Refused e)) [] tt
        (adds_at a.s a.sits.x (Some (with_reply y.text (reply.Refused e) o1)) (inside y.text (stage_after i.o.explicit (reply.Refused e))) a.sits.role) tt

    sits_lacking : (b : Bool) → Sits digest a.h (then_at_stage (stopped_behind_lock b NoMemory)) (sits a.s (at_place (Some o1) (inside y.text (stage_refused b (reply.Refused NoMemory))) a.sits.x))
    sits_lacking true = sits_at digest a.h y a.s a.sits (Some q) (Some o1) (GivingBack NoMemory) running (λ free. script ∙ sym (append-nil (map line_of q.script.items))) room (i.unfixed, some_stmt digest y c a Looking i)
    sits_lacking false = sits_at digest a.h y a.s a.sits (Some q) (Some o1) (stopped_stage NoMemory) running (λ free. script ∙ sym (append-nil (map line_of q.script.items)))
        (λ said. absurd (let no : false ≡ true = said in cc)) (λ free. refl, λ own. refl)

    -- there is no memory behind the lock
    lacks_memory : IsVisit digest y (catalog_seen c) a (catalog_seen d) (then_at_stage (stopped_behind_lock fresh NoMemory))
    lacks_memory = visits_then digest y (catalog_seen c) a (catalog_seen d) (then_at_stage (stopped_behind_lock fresh NoMemory)) t1 (then_at t1 at1.stands (Some o1) (stage_refused fresh (reply.Refused NoMemory))) look (λ out. looks)
        (more none (no_memory_then o1 at1 n fresh refl)) refl (λ out. plainly (tt, (tt, tt)) refl)
        (sits_lacking fresh) [] tt (adds_at a.s a.sits.x (Some o1) (inside y.text (stage_refused fresh (reply.Refused NoMemory))) a.sits.role) tt

  -- it reads a system table
  shows : (rows : Checked (List Row)) → IsShown d i.stmt rows → IsVisit digest y (catalog_seen c) a (catalog_seen d) (then_at_stage (done_stage i.o.explicit (rows_reply rows)))
  shows rows k =
      let r : Reply = rows_reply rows in
      let here : query_rows k.q (k.def, System) (versions_in k.def.id (Catalog c)) ≡ rows = ap (λ (x : CatalogCell). query_rows k.q (k.def, System) (versions_in k.def.id (Catalog x))) (sym l.cell) ∙ k.reads in
      let reads : ReadsSystem a.v c a.s d (done a.s at.stands o1 r) = record {
        o = i.o;
        at = at;
        at_begin = refl;
        q = k.q;
        selects = k.selects;
        def = k.def;
        passes = ap (λ (ds : Defs). query_check ds k.q) (sym defs) ∙ k.passes;
        free = l.free;
        cell = l.cell;
        seat = ap (λ (m : Checked (List Row)). done a.s at.stands o1 (rows_reply m)) (sym here);
      } in
      visits_once digest y (catalog_seen c) a (catalog_seen d) (then_at_stage (done_stage i.o.explicit r)) (done a.s at.stands o1 r) read_system (λ out. reads)
      (λ out. plainly (
        tt,
        plain_anonymous_acts (done_acts i.o.explicit y.text true (rows_reply (query_rows k.q (k.def, System) (versions_in k.def.id (Catalog c)))))
            (done_plain i.o.explicit y.text true (rows_reply (query_rows k.q (k.def, System) (versions_in k.def.id (Catalog c))))),
      ) refl)
      (sits_replied r) [] tt (adds_at a.s a.sits.x (Some (with_reply y.text r o1)) (inside y.text (stage_after i.o.explicit r)) a.sits.role) tt

  found_so : (def : TableDef) (part : Part) → IsFound d i.stmt (def, part) → IsVisit digest y (catalog_seen c) a (catalog_seen d) (then_at_stage (Found def part fresh))
  found_so def part k = goes_on k.name k.named (Some (def, part)) k.finds def part refl k.passes
      (found_cell a.v a.cells a.seats a.together.stands d.defs k.name def part
      (defs ∙ definitions_are a.v a.cells a.seats a.together.stands a.j a.sits.x i.o c (is_open digest y c a Looking i)
      (λ acted. subst HasActed at.stands.place acted)
      (is_out digest y c a) mode.S l.free)
      k.finds k.of_user)

  refused_so : (e : Refusal) → e ≢ NoMemory → IsBlocked d i.stmt e ⊎ IsShown d i.stmt (Err e) → IsVisit digest y (catalog_seen c) a (catalog_seen d) (then_at_stage (refused_stage i.r.explicit fresh e))
  refused_so e ne k = subst (λ (s : Stage). IsVisit digest y (catalog_seen c) a (catalog_seen d) (then_at_stage s)) (sym (refused_other i.r.explicit fresh e ne)) (by_running (reply.Refused e)
      (⊎_elim (λ (b : IsBlocked d i.stmt e). is_refused b.name b.named (find_part d.defs b.name) refl e b.fails) (λ (s : IsShown d i.stmt (Err e)). shows (Err e) s) k))

  err_so : (e : Refusal) → (e ≢ NoMemory → IsBlocked d i.stmt e ⊎ IsShown d i.stmt (Err e)) → IsVisit digest y (catalog_seen c) a (catalog_seen d) (then_at_stage (refused_stage i.r.explicit fresh e))
  err_so e k = ⊎_elim
      (λ (m : e ≡ NoMemory). subst (λ (f : Refusal). IsVisit digest y (catalog_seen c) a (catalog_seen d) (then_at_stage (refused_stage i.r.explicit fresh f))) (sym m)
      (let n = name_there i.stmt of_rows in lacks_memory n.0 n.1 (find_part d.defs n.0) refl))
      (λ (ne : e ≢ NoMemory). refused_so e ne (k ne))
      (memory_or_not e)

  pub got_so : (g : Checked LookupResult) → Gets d i.stmt g → IsVisit digest y (catalog_seen c) a (catalog_seen d) (then_at_stage (got_stage i.r.explicit fresh g))
  got_so (Ok (got.Table def part)) k = found_so def part k
  got_so (Ok (got.Rows rows)) k = by_running (reply.Rows rows) (shows (Ok rows) k)
  got_so (Err e) k = err_so e k

pub looked_up : {H : Type 0} (digest : H → List ℕ → List ℕ) (y : Seat H) (c d : CatalogCell) (a : Among digest y (catalog_seen c)) (i : IsIn digest y c a Looking) (q : Running H) (stage : Stage)
    → IsOfRows i.stmt → IsLookedUp digest i.stmt i.r c q d stage → IsVisit digest y (catalog_seen c) a (catalog_seen d) (then_seat y y.started y.text y.stmt (Some q) (Inside stage))
looked_up digest y c d a i q stage of_rows k = subst (λ (s : Stage). IsVisit digest y (catalog_seen c) a (catalog_seen d) (then_seat y y.started y.text y.stmt (Some q) (Inside s))) (sym k.stage_is)
    (got_so digest y c d a i q k.same k.visited k.fresh (k.takes a.h i.o i.run.context) of_rows k.got k.gets)

pub looked_fewer : {H : Type 0} (digest : H → List ℕ → List ℕ) (s : Stmt) (r : Running H) (c : CatalogCell) (q : Running H) (d : CatalogCell) (stage : Stage)
    → IsLookedUp digest s r c q d stage → stage_visits stage (Some q) < length r.visited.left + 6
looked_fewer digest s r c q d stage k = fewer_now r q stage k.visited (subst (λ (u : Stage). stage_visits u (Some q) ≤ length q.visited.left + 4) (sym k.stage_is) (got_few q r.explicit k.fresh k.got))
