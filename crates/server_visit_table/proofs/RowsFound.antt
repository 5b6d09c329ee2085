-- A seat runs a statement of rows in its table's cell.
use Rattle.std.proofs.Common.{◌≡◌, ℕ, ◌+◌, ◌<◌, ◌≤◌, Bool, true, false, List, [], ◌∷◌, ◌++◌, length, map, reverse, Option, Some, None, Result, Ok, Err, refl, sym, ap, ap₂, ◌∙◌, subst, arith}
use Rattle.std.proofs.lemmas.List.{append-nil}
use Rattle.std.specs.Vec.{vec_capacity}
use Rattle.sql_value.specs.declared.refusal.Refusal.{Refusal}
use Rattle.sql_types.specs.declared.lock.Hold.{Hold}
use Rattle.sql_types.specs.declared.lock.LockRequest.{LockRequest}
use Rattle.sql_types.specs.declared.reply.Reply.{Reply}
use Rattle.sql_types.specs.declared.reply.Reply.TheVariants as reply
use Rattle.sql_types.specs.declared.statement.Stmt.{Stmt}
use Rattle.sql_types.specs.declared.statement.Stmt.TheVariants as stmt
use Rattle.sql_types.specs.declared.table.TableDef.{TableDef}
use Rattle.sql_types.specs.declared.table.Part.{Part}
use Rattle.sql_types.specs.declared.statement.RowStmt.{RowStmt}
use Rattle.sql_types.specs.declared.statement.Select.{Select}
use Rattle.spec_model.specs.Catalog.{defs_of, find_part}
use Rattle.spec_model.specs.Changes.{Change, changed_all, row_changes}
use Rattle.spec_model.specs.Checks.{row_statement_check}
use Rattle.spec_model.specs.Holds.{holds_after}
use Rattle.spec_model.specs.InTheWay.{first_conflict}
use Rattle.spec_model.specs.Keys.{key_places}
use Rattle.spec_model.specs.Locks.{query_requests, row_requests}
use Rattle.spec_model.specs.Query.{query_check}
use Rattle.spec_model.specs.Effect.{query_rows}
use Rattle.spec_model.specs.Journals.{Line}
use Rattle.spec_model.specs.Refusals.{Checked}
use Rattle.spec_model.specs.Replies.{reply_text}
use Rattle.spec_model.specs.Rows.{Row}
use Rattle.server_session.specs.Acts.{fails}
use Rattle.server_session.specs.Lists.{Text, Each, In}
use Rattle.server_session.specs.Transactions.{unfixed}
use Rattle.server_session.specs.ActsOf.{done_acts}
use Rattle.server_session.specs.Alone.{none}
use Rattle.server_session.specs.Answering.{refused_by_check}
use Rattle.server_session.specs.Cells.{Rows, TableCell, catalog_at, cell_of}
use Rattle.server_session.specs.AnonymousActs.{did, stopped_acts}
use Rattle.server_session.specs.Doing.{blocked, done, events_from, grown, no_memory, rows_reply, stage_after, stage_refused, Stopped, with_line, with_reply}
use Rattle.server_session.specs.LocksCover.{IsNamed, name_of}
use Rattle.server_session.specs.Moves.{at_place, noting, put_in, InOpenTransaction, then_at, visiting}
use Rattle.server_session.specs.OpenOnes.{HasOpen}
use Rattle.server_session.specs.Seats.{OpenTransaction, found, inside, Session, SeatState, Tree}
use Rattle.server_session.specs.StandTogether.{Stands}
use Rattle.server_session.specs.TableVisits as table
use Rattle.server_session.specs.TableVisits.{requests_here, with_holds, with_versions, ChangesRows, ReadsRows, RefusesRows, StopsInTable}
use Rattle.server_session.specs.Visits.{change, read, refuse_change, stop_in_table}
use Rattle.server_session.specs.Represents.{Represents}
use Rattle.store_table.specs.Calls.{IsTable, LocksTaken}
use Rattle.server_session.specs.IsEnd.{IsEnd}
use Rattle.server_visit_table.specs.InTable.{KeepsRest, MayRun, RunsInTable, RunsInTableFor, changes, reads, refuses, refuses_to_read, stops}
use Rattle.server_session.specs.KeptCell.{rows_seen}
use Rattle.server_session.specs.Needs.{point_need}
use Rattle.server_session.specs.ControlPoints.{IsBegunAt, KeepsStatement, IsSamePhase}
use Rattle.server_session.specs.Sits.{Sits, IsOfRows, IsRunning, IsSome, IsUnfixed, HasScriptCapacity, HasScript, OfOpen, OfStmt, line_of}
use Rattle.server_session.specs.Stages.{done_stage, stopped_behind_lock}
use Rattle.server_session.specs.Steps.{Among, IsVisit}
use Rattle.server_visit_table.specs.TableStages.{RunsInTableTo, left_by, stage_by}
use Rattle.server_session.specs.SessionOutput.{Adds, IsPlainAnonymousAct, plainly}
use Rattle.server_session.specs.VisitedCells.{IsTableCell, table_cell}
use Rattle.sql_types.specs.declared.end_line.EndLine.{EndLine}
use Rattle.server_session.specs.declared.need.NextVisit.TheVariants as need
use Rattle.server_session.specs.declared.running.Running.{Running}
use Rattle.server_session.specs.declared.seat.Seat.{Seat}
use Rattle.server_session.specs.declared.stage.ControlPoint.{ControlPoint}
use Rattle.server_session.specs.declared.stage.ControlPoint.TheVariants.{Inside}
use Rattle.server_session.specs.declared.stage.Stage.{Stage}
use Rattle.server_session.specs.declared.stage.Stage.TheVariants.{Found}
use Rattle.server_session.proofs.Alone.{adds_at, scripted, sits_then, then_seat}
use Rattle.server_visit_table.proofs.RowsSeat.{RunsNow, at_place as cell_place, has_open, here, holds_there, its_id, place, put_visited, represents_too, runs_now, in_open_transaction}
use Rattle.server_visit_table.proofs.RowsThere as there
use Rattle.server_session.proofs.Sitting.{visited_left}

-- ---- what such a visit does is plain

plain_done : (b : Bool) (text : Text) (r : Reply) → Each IsPlainAnonymousAct (map did (done_acts b text true r) ++ [])
plain_done true text r = (tt, tt)
plain_done false text r = (tt, tt)

plain_stopped : (holds : List Hold) (id : ℕ) (requests : List LockRequest) (r : Reply) (s : Stopped holds id requests r) (text : Text) → Each IsPlainAnonymousAct (map did (stopped_acts s text (fails text ∷ [])) ++ [])
plain_stopped holds id requests _ (blocked c first) text = (tt, tt)
plain_stopped holds id requests _ no_memory text = (tt, tt)

module _ {H : Type 0} (digest : H → List ℕ → List ℕ) (y : Seat H) (r : Running H) (c : TableCell) (e : y.running ≡ Some r) (def : TableDef) (part : Part) (fresh : Bool) (p : y.point ≡ Inside (Found def part fresh)) (a : Among digest y (rows_seen c)) where
  abbrev stage : Stage
  stage = Found def part fresh

  k : RunsNow digest a.h a.sits.x r
  k = runs_now digest a.h y a.sits.x r a.sits.runs e

  abbrev o : OpenTransaction
  o = k.o

  abbrev x : Session
  x = a.sits.x

  needs : table_cell def.id ≡ a.i
  needs = let z : need.Cell (table_cell def.id) ≡ need.Cell a.i = ap (λ (q : ControlPoint). point_need q y.running) (sym p) ∙ a.needs in cc

  same_id : def.id ≡ c.id
  same_id = its_id digest y c a def.id needs

  abbrev IsRight : Stmt → Type 0
  IsRight s = IsOfRows s × (refused_by_check (Some (def, part)) s ≡ None)

  facts : OfOpen IsUnfixed (Some o) × OfStmt IsRight y.stmt × IsTableCell (table_cell def.id)
  facts = holds_there digest y (rows_seen c) a r e k stage p

  free : o.end ≡ unfixed
  free = facts.0

  has : HasOpen a.seats a.j x o
  has = has_open digest y (rows_seen c) a r e k

  abbrev S : Stands a.v a.together.history a.cells a.seats
  S = a.together.stands

  at_found : x.place ≡ inside y.text (found (Some (def, part)) fresh)
  at_found = place digest y (rows_seen c) a r e k stage p

  looked : In catalog_at o.visited
  looked = there.visited_by_lock a.v a.cells a.seats S a.j x o has free (there.looked_at a.v a.cells a.seats S a.j x o has free (inside y.text (found (Some (def, part)) fresh)) at_found tt).lock

  module _ (s : Stmt) (st : y.stmt ≡ Some s) where
    right : IsRight s
    right = subst (OfStmt IsRight) st facts.1

    abbrev open_at : InOpenTransaction a.v a.s o
    open_at = in_open_transaction digest y (rows_seen c) a r e k stage p s st free

    named : IsNamed (there.T a.v a.cells a.seats S a.j x o has free) (Some s) (Some (def, part))
    named = subst (λ (m : Option Stmt). IsNamed (there.T a.v a.cells a.seats S a.j x o has free) m (Some (def, part))) open_at.stands.is
        (there.got_at a.v a.cells a.seats S a.j x o has free (inside y.text (found (Some (def, part)) fresh)) at_found tt)

    finds : find_part (defs_of (there.T a.v a.cells a.seats S a.j x o has free)) named.0 ≡ Some (def, part)
    finds = sym named.2

    is_here : IsTable c def
    is_here = there.is_table_found a.v a.cells a.seats S a.j x o has free a.i c a.here (here digest y c a) (def, part) same_id named.0 finds

    one : 1 ≤ c.id
    one = let n = (cell_place digest y c a).id in omega (arith, n)

    -- what the statement relies on in the cell
    pub may_run : MayRun digest r.context c (def, part) s
    may_run = by s st right named.1
      where
        by : (u : Stmt) → y.stmt ≡ Some u → IsRight u → name_of u ≡ Some named.0 → MayRun digest r.context c (def, part) u
        by (stmt.Change row) f g n = record {
          table = is_here;
          fit = there.has_fit_found a.v a.cells a.seats S a.j x o has free a.i c a.here (here digest y c a) (def, part) same_id named.0 finds;
          passes = there.passes_rows (defs_of (there.T a.v a.cells a.seats S a.j x o has free)) (def, part) row named.0 n finds g.1;
          before = record { h = a.h; o = o; is = k.runs.context; before = there.before a.v a.cells a.seats S a.j x o has free a.i c a.here (here digest y c a) (inside y.text (found (Some (def, part)) fresh)) at_found one };
        }
        by (stmt.Select q) f g n = is_here
        by (stmt.Create q) f g n = absurd g.0
        by (stmt.Index q) f g n = absurd g.0
        by (stmt.Alter altered) f g n = absurd g.0
        by (stmt.Drop name) f g n = absurd g.0
        by stmt.Begin f g n = absurd g.0
        by stmt.Commit f g n = absurd g.0
        by (stmt.Save name) f g n = absurd g.0
        by (stmt.Rollback name) f g n = absurd g.0
        by stmt.Digest f g n = absurd g.0
        by stmt.Image f g n = absurd g.0

    -- ---- after it

    module _ (q : Running H) (d : TableCell) (kept : KeepsRest r q) where
      abbrev z : Stage → Seat H
      z after = then_seat y y.started y.text y.stmt (Some q) (Inside after)

      all : o.visited ≡ r.visited.left
      all = visited_left digest a.h r o k.runs free

      room : r.explicit ≡ true → length q.script.items < vec_capacity q.script
      room said = subst (λ v. length v.items < vec_capacity v) (sym kept.script) (subst (λ (m : ControlPoint). HasScriptCapacity m (Some r)) p (subst (HasScriptCapacity y.point) e a.sits.room) said)

      script : o.script ≡ map line_of q.script.items ++ []
      script = subst (λ (m : Option OpenTransaction). HasScript (Inside stage) y.text (Some r) m) k.open_one
          (subst (λ (m : Option (Running H)). HasScript (Inside stage) y.text m x.open_one) e (scripted digest a.h y a.s a.sits (Inside stage) p)) free
          ∙ ap (λ v. map line_of v.items ++ []) (sym kept.script)

      -- it is done: the transaction has this counter and these trees
      module _ (n : ℕ) (ts : List Tree) (rep : Reply) where
        abbrev o2 : OpenTransaction
        o2 = with_reply y.text rep (noting n ts (visiting (cell_of c.id) o))

        abbrev t2 : SeatState
        t2 = done a.s open_at.stands (noting n ts (visiting (cell_of c.id) o)) rep

        adds2 : Adds a.s [] [] [] t2
        adds2 = adds_at a.s x (Some o2) (inside y.text (stage_after o.explicit rep)) a.sits.role

      module _ (n : ℕ) (ts : List Tree) (rep : Reply) (context : Represents digest a.h q.context (noting n ts o)) (cells : q.visited.left ≡ put_in (table_cell def.id) r.visited.left) where
        cells_are : put_in (cell_of c.id) o.visited ≡ q.visited.left
        cells_are = ap₂ put_in (here digest y c a ∙ sym needs) all ∙ sym cells

        runs2 : IsRunning digest a.h q (o2 n ts rep)
        runs2 = record {
          context = represents_too digest a.h q.context (noting n ts o) (o2 n ts rep) refl refl refl refl refl context;
          explicit = kept.explicit ∙ k.runs.explicit;
          id = k.runs.id;
          end = subst (λ (l : Option EndLine). IsEnd o.id l o.end) (sym kept.end) k.runs.end;
          visited = cells_are ∙ ap (λ (l : List ℕ). reverse l ++ q.visited.left) (sym (k.runs.unreleased free));
          cells = put_visited (cell_of c.id) catalog_at o.visited (subst IsTableCell (needs ∙ sym (here digest y c a)) facts.2) looked k.runs.cells;
          unreleased = k.runs.unreleased;
        }

        sits_by : (b : Bool) → o.explicit ≡ b → Sits digest a.h (z (done_stage b rep)) (t2 n ts rep)
        sits_by true f = sits_then digest a.h y a.s a.sits (t2 n ts rep) (at_place (Some (o2 n ts rep)) (inside y.text (stage_after o.explicit rep)) x) y.started y.text y.stmt (Some q) (Inside (done_stage true rep)) refl refl refl a.sits.moment
            (ap (λ (b : Bool). inside y.text (stage_after b rep)) f) a.sits.reads runs2
            (λ g. ap (λ (b : Bool). with_line b (y.text, reply_text rep) o.script) f ∙ ap (λ (ls : List Line). ls ++ (y.text, reply_text rep) ∷ []) (script ∙ append-nil (map line_of q.script.items)))
            (λ said. room (k.runs.explicit ∙ f))
            ((λ g. refl), (λ g. absurd (let h : true ≡ false = sym f ∙ g in cc)))
        sits_by false f = sits_then digest a.h y a.s a.sits (t2 n ts rep) (at_place (Some (o2 n ts rep)) (inside y.text (stage_after o.explicit rep)) x) y.started y.text y.stmt (Some q) (Inside (done_stage false rep)) refl refl refl a.sits.moment
            (ap (λ (b : Bool). inside y.text (stage_after b rep)) f) a.sits.reads runs2
            (λ g. ap (λ (b : Bool). with_line b (y.text, reply_text rep) o.script) f ∙ script)
            (λ said. room (sym kept.explicit ∙ said))
            ((free, f), subst (OfStmt IsSome) (sym st) tt)

        sits_done : Sits digest a.h (z (done_stage r.explicit rep)) (t2 n ts rep)
        sits_done = subst (λ (b : Bool). Sits digest a.h (z (done_stage b rep)) (t2 n ts rep)) (sym k.runs.explicit) (sits_by o.explicit refl)

      -- it is stopped
      abbrev t0 : Refusal → SeatState
      t0 err = then_at a.s open_at.stands (Some o) (stage_refused fresh (reply.Refused err))

      adds0 : (err : Refusal) → Adds a.s [] [] [] (t0 err)
      adds0 err = adds_at a.s x (Some o) (inside y.text (stage_refused fresh (reply.Refused err))) a.sits.role

      module _ (err : Refusal) (context : Represents digest a.h q.context o) (cells : q.visited.left ≡ r.visited.left) where
        runs0 : IsRunning digest a.h q o
        runs0 = record {
          context = context;
          explicit = kept.explicit ∙ k.runs.explicit;
          id = k.runs.id;
          end = subst (λ (l : Option EndLine). IsEnd o.id l o.end) (sym kept.end) k.runs.end;
          visited = k.runs.visited ∙ ap (λ (l : List ℕ). reverse o.released ++ l) (sym cells);
          cells = k.runs.cells;
          unreleased = k.runs.unreleased;
        }

        stopped_by : (b : Bool) → Sits digest a.h (z (stopped_behind_lock b err)) (then_at a.s open_at.stands (Some o) (stage_refused b (reply.Refused err)))
        stopped_by true = sits_then digest a.h y a.s a.sits (then_at a.s open_at.stands (Some o) (stage_refused true (reply.Refused err))) (at_place (Some o) (inside y.text (stage_refused true (reply.Refused err))) x) y.started y.text y.stmt (Some q) (Inside (stopped_behind_lock true err)) refl refl refl a.sits.moment
            refl a.sits.reads runs0 (λ g. script) (λ said. room (sym kept.explicit ∙ said)) (free, subst (OfStmt IsSome) (sym st) tt)
        stopped_by false = sits_then digest a.h y a.s a.sits (then_at a.s open_at.stands (Some o) (stage_refused false (reply.Refused err))) (at_place (Some o) (inside y.text (stage_refused false (reply.Refused err))) x) y.started y.text y.stmt (Some q) (Inside (stopped_behind_lock false err)) refl refl refl a.sits.moment
            refl a.sits.reads runs0 (λ g. script) (λ said. absurd (let h : false ≡ true = said in cc)) ((λ g. refl), (λ g. refl))

    abbrev found_at : table.Found a.v c a.s o (def, part) fresh
    found_at = record { at = open_at; at_found = refl; here = same_id }

  -- ---- the visits

  module _ (q : Running H) (kept : KeepsRest r q) where
    abbrev z_at : Stage → Seat H
    z_at after = then_seat y y.started y.text y.stmt (Some q) (Inside after)

    plainly_noting : Represents digest a.h q.context o → Represents digest a.h q.context (noting o.seq o.trees o)
    plainly_noting w = represents_too digest a.h q.context o (noting o.seq o.trees o) refl refl refl refl refl w

    row_passes : (row : RowStmt) (st : y.stmt ≡ Some (stmt.Change row)) → row_statement_check (def ∷ []) row ≡ Ok def
    row_passes row st = there.passes_rows (defs_of (there.T a.v a.cells a.seats S a.j x o has free)) (def, part) row (named (stmt.Change row) st).0 (named (stmt.Change row) st).1 (finds (stmt.Change row) st) (right (stmt.Change row) st).1

    query_passes : (sel : Select) (st : y.stmt ≡ Some (stmt.Select sel)) → query_check (def ∷ []) sel ≡ Ok (def, part)
    query_passes sel st = there.passes_query (defs_of (there.T a.v a.cells a.seats S a.j x o has free)) (def, part) sel (named (stmt.Select sel) st).0 (named (stmt.Select sel) st).1 (finds (stmt.Select sel) st) (right (stmt.Select sel) st).1

    abbrev trees_grown : TableCell → List Tree
    trees_grown d = grown c.id (events_from o.id o.seq c.id d.versions) o.trees

    abbrev changes_rows : (row : RowStmt) (st : y.stmt ≡ Some (stmt.Change row)) (cs : List Change) (count : ℕ) (d : TableCell) → first_conflict c.holds o.id (row_requests def row) ≡ None → row_changes def c.versions row ≡ Ok (cs, count)
        → d ≡ with_holds (holds_after c.holds o.id (row_requests def row)) (with_versions (key_places def.columns) (changed_all o.id o.seq cs c.versions) c)
        → ChangesRows a.v c a.s d (t2 (stmt.Change row) st q d kept (o.seq + length cs) (trees_grown d) (reply.Changed count))
    changes_rows row st cs count d no_conflict changed cell = record {
      o = o;
      named = (def, part);
      fresh = fresh;
      at = found_at (stmt.Change row) st;
      row = row;
      is = refl;
      passes = row_passes row st;
      free = no_conflict;
      changes = cs;
      count = count;
      changed = changed;
      cell = cell;
      seat = refl;
    }

    abbrev refuses_rows : (row : RowStmt) (st : y.stmt ≡ Some (stmt.Change row)) (err : Refusal) (d : TableCell) → row_changes def c.versions row ≡ Err err → LocksTaken c o.id (row_requests def row) d
        → RefusesRows a.v c a.s d (t2 (stmt.Change row) st q d kept o.seq o.trees (reply.Refused err))
    refuses_rows row st err d refused locks = record {
      o = o;
      named = (def, part);
      fresh = fresh;
      at = found_at (stmt.Change row) st;
      row = row;
      is = refl;
      passes = row_passes row st;
      free = locks.free;
      refusal = err;
      refuses = refused;
      cell = locks.cell;
      seat = refl;
    }

    abbrev reads_rows : (sel : Select) (st : y.stmt ≡ Some (stmt.Select sel)) (d : TableCell) (m : Checked (List Row)) → query_rows sel (def, part) c.versions ≡ m → LocksTaken c o.id (query_requests (def, part) sel) d
        → ReadsRows a.v c a.s d (t2 (stmt.Select sel) st q d kept o.seq o.trees (rows_reply m))
    reads_rows sel st d m shown locks = record {
      o = o;
      named = (def, part);
      fresh = fresh;
      at = found_at (stmt.Select sel) st;
      q = sel;
      is = refl;
      passes = query_passes sel st;
      free = locks.free;
      cell = locks.cell;
      seat = ap (λ (u : Checked (List Row)). t2 (stmt.Select sel) st q d kept o.seq o.trees (rows_reply u)) (sym shown);
    }

    abbrev stops_there : (s : Stmt) (st : y.stmt ≡ Some s) (err : Refusal) → Stopped c.holds o.id (requests_here (def, part) s) (reply.Refused err) → StopsInTable a.v c a.s (t0 s st q c kept err)
    stops_there s st err stopped = record {
      o = o;
      named = (def, part);
      fresh = fresh;
      at = found_at s st;
      passes = (right s st).1;
      r = reply.Refused err;
      stopped = stopped;
      seat = refl;
    }

    read_so : (sel : Select) (st : y.stmt ≡ Some (stmt.Select sel)) (d : TableCell) (m : Checked (List Row)) → query_rows sel (def, part) c.versions ≡ m → LocksTaken c o.id (query_requests (def, part) sel) d
        → Represents digest a.h q.context o → q.visited.left ≡ put_in (table_cell def.id) r.visited.left → IsVisit digest y (rows_seen c) a (rows_seen d) (z_at (done_stage r.explicit (rows_reply m)))
    read_so sel st d m shown locks context cells = record {
      t = t2 (stmt.Select sel) st q d kept o.seq o.trees (rows_reply m);
      may = λ out. record { visit = read; old = Rows c; rest = out; is_out = refl; begun = a.s; before = none; ended = t2 (stmt.Select sel) st q d kept o.seq o.trees (rows_reply m); happens = reads_rows sel st d m shown locks; after = none };
      lines = λ out. refl;
      did = λ out. plainly (plain_done o.explicit y.text (rows_reply (query_rows sel (def, part) c.versions))) refl;
      sits = sits_done (stmt.Select sel) st q d kept o.seq o.trees (rows_reply m) (plainly_noting context) cells;
      moments = [];
      at_start = tt;
      adds = adds2 (stmt.Select sel) st q d kept o.seq o.trees (rows_reply m);
      keeps = tt;
    }

    went : (s : Stmt) (result : Result Reply Refusal) (d : TableCell) (o1 : OpenTransaction) → RunsInTable c o (def, part) s result d o1 → y.stmt ≡ Some s
        → Represents digest a.h q.context o1 → q.visited.left ≡ left_by (table_cell def.id) result r.visited.left
        → IsVisit digest y (rows_seen c) a (rows_seen d) (z_at (stage_by r.explicit fresh result))
    went _ _ _ _ (changes row cs count d no_conflict changed cell) st context cells = record {
      t = t2 (stmt.Change row) st q d kept (o.seq + length cs) (trees_grown d) (reply.Changed count);
      may = λ out. record { visit = change; old = Rows c; rest = out; is_out = refl; begun = a.s; before = none; ended = t2 (stmt.Change row) st q d kept (o.seq + length cs) (trees_grown d) (reply.Changed count); happens = changes_rows row st cs count d no_conflict changed cell; after = none };
      lines = λ out. refl;
      did = λ out. plainly (plain_done o.explicit y.text (reply.Changed count)) refl;
      sits = sits_done (stmt.Change row) st q d kept (o.seq + length cs) (trees_grown d) (reply.Changed count) context cells;
      moments = [];
      at_start = tt;
      adds = adds2 (stmt.Change row) st q d kept (o.seq + length cs) (trees_grown d) (reply.Changed count);
      keeps = tt;
    }
    went _ _ _ _ (refuses row err d refused locks) st context cells = record {
      t = t2 (stmt.Change row) st q d kept o.seq o.trees (reply.Refused err);
      may = λ out. record { visit = refuse_change; old = Rows c; rest = out; is_out = refl; begun = a.s; before = none; ended = t2 (stmt.Change row) st q d kept o.seq o.trees (reply.Refused err); happens = refuses_rows row st err d refused locks; after = none };
      lines = λ out. refl;
      did = λ out. plainly (plain_done o.explicit y.text (reply.Refused err)) refl;
      sits = sits_done (stmt.Change row) st q d kept o.seq o.trees (reply.Refused err) (plainly_noting context) cells;
      moments = [];
      at_start = tt;
      adds = adds2 (stmt.Change row) st q d kept o.seq o.trees (reply.Refused err);
      keeps = tt;
    }
    went _ _ _ _ (reads sel rows d shown) st context cells = read_so sel st d (Ok rows) shown.shown shown.locks context cells
    went _ _ _ _ (refuses_to_read sel err d refused locks) st context cells = read_so sel st d (Err err) refused locks context cells
    went _ _ _ _ (stops s err stopped) st context cells = record {
      t = t0 s st q c kept err;
      may = λ out. record { visit = stop_in_table; old = Rows c; rest = out; is_out = refl; begun = a.s; before = none; ended = t0 s st q c kept err; happens = (stops_there s st err stopped, refl); after = none };
      lines = λ out. refl;
      did = λ out. plainly (plain_stopped c.holds o.id (requests_here (def, part) s) (reply.Refused err) stopped y.text) refl;
      sits = stopped_by s st q c kept err context cells fresh;
      moments = [];
      at_start = tt;
      adds = adds0 s st q c kept err;
      keeps = tt;
    }

  -- ---- the statement, its seat's transaction and the cell then

  module _ (s : Stmt) (st : y.stmt ≡ Some s) (d : TableCell) (q : Running H) (after : Stage) (run : RunsInTableTo digest c r (def, part) fresh s d q after) where
    abbrev then_z : Seat H
    then_z = then_seat y y.started y.text y.stmt (Some q) (Inside after)

    pub visits : IsVisit digest y (rows_seen c) a (rows_seen d) then_z
    visits = let f : RunsInTableFor digest a.h c o (def, part) s run.result d q.context = run.run a.h o k.runs.context in
        subst (λ (g : Stage). IsVisit digest y (rows_seen c) a (rows_seen d) (then_seat y y.started y.text y.stmt (Some q) (Inside g))) (sym run.stage)
        (went q run.rest s run.result d f.p f.ran st f.context run.left)

    pub stays : KeepsStatement y then_z
    stays = record {
      point = subst (λ (g : ControlPoint). IsSamePhase g (Inside after)) (sym p) tt;
      begun = λ b. absurd (not_begun r.explicit fresh run.result (subst (λ (g : Stage). IsBegunAt (Inside g)) run.stage b));
      started = refl;
      name = refl;
      text = refl;
    }
      where
        not_begun : (b f : Bool) (result : Result Reply Refusal) → IsBegunAt (Inside (stage_by b f result)) → ⊥
        not_begun true f (Ok rep) g = g
        not_begun false f (Ok rep) g = g
        not_begun b true (Err err) g = g
        not_begun b false (Err err) g = g
