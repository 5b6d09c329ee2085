-- A seat adds the index of CREATE INDEX in its table's cell.
use Rattle.std.proofs.Common.{◌≡◌, ℕ, ◌<◌, Bool, true, false, List, [], ◌++◌, length, map, reverse, Option, Some, refl, sym, ap, ap₂, ◌∙◌, subst, arith}
use Rattle.std.specs.Vec.{vec_capacity}
use Rattle.sql_types.specs.declared.statement.Stmt.{Stmt}
use Rattle.sql_types.specs.declared.table.TableDef.{TableDef}
use Rattle.server_session.specs.Lists.{In}
use Rattle.server_session.specs.Transactions.{unfixed}
use Rattle.server_session.specs.Alone.{none}
use Rattle.server_session.specs.Cells.{Rows, TableCell, catalog_at, cell_of, ledger_at}
use Rattle.server_session.specs.Moves.{at_place, put_in, InOpenTransaction, then_at, visiting}
use Rattle.server_session.specs.OpenOnes.{HasOpen}
use Rattle.server_session.specs.Seats.{OpenTransaction, inside, made, Session, SeatState}
use Rattle.server_session.specs.StandTogether.{Stands}
use Rattle.server_session.specs.Visits.{add_index, nothing}
use Rattle.store_table.specs.Calls.{IsTable, LacksLast}
use Rattle.server_session.specs.Represents.{Represents}
use Rattle.server_session.specs.Context.{TxCtx}
use Rattle.server_session.specs.IsEnd.{IsEnd}
use Rattle.server_visit_table.specs.InTable.{KeepsRest}
use Rattle.server_session.specs.KeptCell.{rows_seen}
use Rattle.server_session.specs.Needs.{point_need}
use Rattle.server_session.specs.ControlPoints.{IsBegunAt, KeepsStatement, IsSamePhase}
use Rattle.server_session.specs.Sits.{IsIndex, IsOwn, IsRunning, HasScriptCapacity, HasScript, OfOpen, OfStmt, Runs, line_of}
use Rattle.server_session.specs.Steps.{Among, IsVisit}
use Rattle.server_visit_table.specs.TableStages.{IndexMade, made_stage}
use Rattle.server_session.specs.SessionOutput.{plainly}
use Rattle.server_session.specs.VisitedCells.{IsTableCell, table_cell}
use Rattle.sql_types.specs.declared.end_line.EndLine.{EndLine}
use Rattle.server_session.specs.declared.need.NextVisit.TheVariants as need
use Rattle.server_session.specs.declared.running.Running.{Running}
use Rattle.server_session.specs.declared.seat.Seat.{Seat}
use Rattle.server_session.specs.declared.stage.ControlPoint.{ControlPoint}
use Rattle.server_session.specs.declared.stage.ControlPoint.TheVariants.{Inside}
use Rattle.server_session.specs.declared.stage.Stage.TheVariants.{Made, LacksIndex}
use Rattle.server_session.proofs.Alone.{adds_at, adds_none, scripted, sits_then, then_seat}
use Rattle.server_visit_table.proofs.RowsSeat.{RunsNow, has_open, here, holds_there, is_table, its_id, place, put_visited, represents_too, runs_now, in_open_transaction}
use Rattle.server_visit_table.proofs.RowsThere as there
use Rattle.server_session.proofs.Sitting.{stmt_found, visited_left}

module _ {H : Type 0} (digest : H → List ℕ → List ℕ) (y : Seat H) (r : Running H) (c : TableCell) (e : y.running ≡ Some r) (def : TableDef) (indexed : Bool) (p : y.point ≡ Inside (Made def indexed)) (a : Among digest y (rows_seen c)) where
  k : RunsNow digest a.h a.sits.x r
  k = runs_now digest a.h y a.sits.x r a.sits.runs e

  abbrev o : OpenTransaction
  o = k.o

  abbrev x : Session
  x = a.sits.x

  -- the cell lacks the index
  not_yet : indexed ≡ false
  not_yet = by indexed (ap (λ (q : ControlPoint). point_need q y.running) (sym p) ∙ a.needs)
    where
      by : (b : Bool) → point_need (Inside (Made def b)) y.running ≡ need.Cell a.i → b ≡ false
      by true f = absurd (let z : ledger_at ≡ a.i = cc in let two = is_table digest y c a in omega (arith, z, two))
      by false f = refl

  there_point : y.point ≡ Inside (Made def false)
  there_point = p ∙ ap (λ (b : Bool). Inside (Made def b)) not_yet

  needs : table_cell def.id ≡ a.i
  needs = let z : need.Cell (table_cell def.id) ≡ need.Cell a.i = ap (λ (q : ControlPoint). point_need q y.running) (sym there_point) ∙ a.needs in cc

  same_id : def.id ≡ c.id
  same_id = its_id digest y c a def.id needs

  facts : OfOpen IsOwn (Some o) × OfStmt IsIndex y.stmt × IsTableCell (table_cell def.id)
  facts = holds_there digest y (rows_seen c) a r e k (Made def false) there_point

  free : o.end ≡ unfixed
  free = facts.0.0

  statement : (s : Stmt) × (y.stmt ≡ Some s) × IsIndex s
  statement = stmt_found IsIndex y.stmt facts.1

  has : HasOpen a.seats a.j x o
  has = has_open digest y (rows_seen c) a r e k

  abbrev S : Stands a.v a.together.history a.cells a.seats
  S = a.together.stands

  at_made : x.place ≡ inside y.text (made def false)
  at_made = place digest y (rows_seen c) a r e k (Made def false) there_point

  looked : In catalog_at o.visited
  looked = there.visited_by_lock a.v a.cells a.seats S a.j x o has free (there.looked_at a.v a.cells a.seats S a.j x o has free (inside y.text (made def false)) at_made tt).lock

  abbrev open_at : InOpenTransaction a.v a.s o
  open_at = in_open_transaction digest y (rows_seen c) a r e k (Made def false) there_point statement.0 statement.1 free

  pub its_table : IsTable c def
  its_table = there.is_table_made a.v a.cells a.seats S a.j x o has free a.i c a.here (here digest y c a) y.text def at_made same_id statement.0 open_at.stands.is

  pub its_indexes : LacksLast c def
  its_indexes = there.lacks_last a.v a.cells a.seats S a.j x o has free a.i c a.here (here digest y c a) y.text def at_made same_id statement.0 open_at.stands.is

  -- ---- after it

  module _ (q : Running H) (d : TableCell) (context : q.context ≡ r.context) (kept : KeepsRest r q) where
    abbrev z : Bool → Seat H
    z added = then_seat y y.started y.text y.stmt (Some q) (Inside (made_stage def added))

    room : r.explicit ≡ true → length q.script.items < vec_capacity q.script
    room said = subst (λ v. length v.items < vec_capacity v) (sym kept.script) (subst (λ (m : ControlPoint). HasScriptCapacity m (Some r)) there_point (subst (HasScriptCapacity y.point) e a.sits.room) said)

    script : o.script ≡ map line_of q.script.items ++ []
    script = subst (λ (m : Option OpenTransaction). HasScript (Inside (Made def false)) y.text (Some r) m) k.open_one
        (subst (λ (m : Option (Running H)). HasScript (Inside (Made def false)) y.text m x.open_one) e (scripted digest a.h y a.s a.sits (Inside (Made def false)) there_point)) free
        ∙ ap (λ v. map line_of v.items ++ []) (sym kept.script)

    abbrev o2 : OpenTransaction
    o2 = visiting (cell_of c.id) o

    abbrev t2 : SeatState
    t2 = then_at a.s open_at.stands (Some o2) (made def true)

    runs2 : q.visited.left ≡ put_in (table_cell def.id) r.visited.left → IsRunning digest a.h q o2
    runs2 cells = record {
      context = subst (λ (ctx : TxCtx H). Represents digest a.h ctx o2) (sym context) (represents_too digest a.h r.context o o2 refl refl refl refl refl k.runs.context);
      explicit = kept.explicit ∙ k.runs.explicit;
      id = k.runs.id;
      end = subst (λ (l : Option EndLine). IsEnd o.id l o.end) (sym kept.end) k.runs.end;
      visited = ap₂ put_in (here digest y c a ∙ sym needs) (visited_left digest a.h r o k.runs free) ∙ sym cells ∙ ap (λ (l : List ℕ). reverse l ++ q.visited.left) (sym (k.runs.unreleased free));
      cells = put_visited (cell_of c.id) catalog_at o.visited (subst IsTableCell (needs ∙ sym (here digest y c a)) facts.2) looked k.runs.cells;
      unreleased = k.runs.unreleased;
    }

    runs0 : q.visited.left ≡ r.visited.left → IsRunning digest a.h q o
    runs0 cells = record {
      context = subst (λ (ctx : TxCtx H). Represents digest a.h ctx o) (sym context) k.runs.context;
      explicit = kept.explicit ∙ k.runs.explicit;
      id = k.runs.id;
      end = subst (λ (l : Option EndLine). IsEnd o.id l o.end) (sym kept.end) k.runs.end;
      visited = k.runs.visited ∙ ap (λ (l : List ℕ). reverse o.released ++ l) (sym cells);
      cells = k.runs.cells;
      unreleased = k.runs.unreleased;
    }

    pub visits : (added : Bool) → IndexMade c r def d q added → IsVisit digest y (rows_seen c) a (rows_seen d) (z added)
    visits true w = record {
      t = t2;
      may = λ out. record { visit = add_index; old = Rows c; rest = out; is_out = refl; begun = a.s; before = none; ended = t2; happens = record { o = o; at = open_at; def = def; at_made = refl; here = same_id; cell = w.0; seat = refl }; after = none };
      lines = λ out. refl;
      did = λ out. plainly tt refl;
      sits = sits_then digest a.h y a.s a.sits t2 (at_place (Some o2) (inside y.text (made def true)) x) y.started y.text y.stmt (Some q) (Inside (Made def true)) refl refl refl a.sits.moment
          refl a.sits.reads (runs2 w.1) (λ g. script) (λ said. room (sym kept.explicit ∙ said)) facts;
      moments = [];
      at_start = tt;
      adds = adds_at a.s x (Some o2) (inside y.text (made def true)) a.sits.role;
      keeps = tt;
    }
    visits false w = record {
      t = a.s;
      may = λ out. record { visit = nothing; old = Rows c; rest = out; is_out = refl; begun = a.s; before = none; ended = a.s; happens = (ap Rows w.0, refl); after = none };
      lines = λ out. refl;
      did = λ out. plainly tt refl;
      sits = sits_then digest a.h y a.s a.sits a.s x y.started y.text y.stmt (Some q) (Inside (LacksIndex def)) a.sits.role refl refl a.sits.moment
          at_made a.sits.reads (subst (λ (m : Option OpenTransaction). Runs digest a.h (Some q) m) (sym k.open_one) (runs0 w.1))
          (subst (λ (m : Option OpenTransaction). HasScript (Inside (LacksIndex def)) y.text (Some q) m) (sym k.open_one) (λ g. script))
          (λ said. room (sym kept.explicit ∙ said))
          (subst (λ (m : Option OpenTransaction). OfOpen IsOwn m) (sym k.open_one) facts.0, facts.1);
      moments = [];
      at_start = tt;
      adds = adds_none a.s x a.sits.role;
      keeps = tt;
    }

    pub stays : (added : Bool) → KeepsStatement y (z added)
    stays added = record { point = subst (λ (g : ControlPoint). IsSamePhase g (Inside (made_stage def added))) (sym p) tt; begun = λ b. absurd (not_begun added b); started = refl; name = refl; text = refl }
      where
        not_begun : (b : Bool) → IsBegunAt (Inside (made_stage def b)) → ⊥
        not_begun true g = g
        not_begun false g = g
