-- A seat on its way back to a savepoint goes back in a table's cell.
use Rattle.std.proofs.Common.{◌≡◌, ℕ, zero, suc, ◌+◌, ◌<◌, ◌≤◌, Bool, true, false, List, [], ◌∷◌, ◌++◌, drop, length, map, Option, Some, None, refl, sym, ap, ◌∙◌, subst, inl, arith}
use Rattle.std.proofs.lemmas.Bool.{ne_eqb, le-leb}
use Rattle.std.proofs.lemmas.List.{append-nil}
use Rattle.std.specs.Vec.{vec_capacity}
use Rattle.std.specs.Prelude.{◌==◌, if◌then◌else◌, slice_get}
use Rattle.sql_types.specs.declared.reply.Reply.TheVariants as reply
use Rattle.sql_types.specs.declared.statement.Stmt.{Stmt}
use Rattle.spec_model.specs.Journals.{Line}
use Rattle.spec_model.specs.Replies.{reply_text}
use Rattle.server_session.specs.Lists.{Text}
use Rattle.server_session.specs.Transactions.{unfixed}
use Rattle.server_session.specs.Alone.{is_back, more, none}
use Rattle.server_session.specs.Cells.{Rows, TableCell, catalog_at, cell_of}
use Rattle.server_session.specs.Doing.{done, stage_after, with_line, with_reply}
use Rattle.server_session.specs.Moves.{at_place, InOpenTransaction, then_at}
use Rattle.server_session.specs.Seats.{OpenTransaction, going_back, inside, Session, SeatState}
use Rattle.server_session.specs.UndoVisits.{undone_to, UndoesTo}
use Rattle.server_session.specs.Visits.{undo_to}
use Rattle.server_session.specs.Represents.{Represents}
use Rattle.server_session.specs.KeptCell.{rows_seen}
use Rattle.server_session.specs.Needs.{back_need, cell_or_done, end_visits, point_need, stage_visits, visits_left}
use Rattle.server_session.specs.ControlPoints.{IsBegunAt, KeepsStatement, IsSamePhase}
use Rattle.server_session.specs.Sits.{IsRunning, IsSome, HasScriptCapacity, HasScript, HasCellToUndo, OfStmt, Runs, left_of, line_of}
use Rattle.server_session.specs.Steps.{Among, ComesOn, IsVisit}
use Rattle.server_visit_table.specs.TableStages.{back_by, back_stage}
use Rattle.server_session.specs.SessionOutput.{plainly}
use Rattle.server_session.specs.VisitedCells.{AreVisited, next_back, not_catalog, tables_in}
use Rattle.sql_types.specs.declared.end_line.EndLine.{EndLine}
use Rattle.server_session.specs.declared.need.NextVisit.TheVariants as need
use Rattle.server_session.specs.declared.running.Running.{Running}
use Rattle.server_session.specs.declared.seat.Seat.{Seat}
use Rattle.server_session.specs.declared.stage.ControlPoint.{ControlPoint}
use Rattle.server_session.specs.declared.stage.ControlPoint.TheVariants.{Inside}
use Rattle.server_session.specs.declared.stage.Stage.{Stage}
use Rattle.server_session.specs.declared.stage.Stage.TheVariants.{GoingBack, Answering as Answered}
use Rattle.server_session.proofs.Alone.{adds_at, adds_both, scripted, sits_then, then_seat}
use Rattle.server_visit_table.proofs.RowsSeat.{RunsNow, here, holds_there, is_table, none_ended, represents_too, runs_now, in_open_transaction, visited_tail}
use Rattle.server_session.proofs.Sitting.{stmt_found, visited_left}

-- ---- the cells that are passed

back_is : (o : Option ℕ) (i : ℕ) → not_catalog o ≡ Some i → o ≡ Some i
back_is None i e = absurd cc
back_is (Some j) i e = by (j == catalog_at) e
  where
    by : (b : Bool) → (if b then None else Some j) ≡ Some i → Some j ≡ Some i
    by true f = absurd cc
    by false f = f

needed : (o : Option ℕ) (i : ℕ) → cell_or_done o ≡ need.Cell i → o ≡ Some i
needed None i e = absurd cc
needed (Some j) i e = let z : j ≡ i = cc in ap (λ (k : ℕ). Some k) z

drop_one : (left : List ℕ) (n i : ℕ) → slice_get left n ≡ Some i → drop n left ≡ i ∷ drop (suc n) left
drop_one [] n i e = absurd cc
drop_one (j ∷ js) zero i e = let z : j ≡ i = cc in ap (λ (k : ℕ). k ∷ js) z
drop_one (j ∷ js) (suc n) i e = drop_one js n i e

drop_next : (left : List ℕ) (n i : ℕ) → slice_get left n ≡ Some i → drop n left ≡ i ∷ drop (n + 1) left
drop_next left n i e = let m : suc n ≡ n + 1 = omega arith in drop_one left n i e ∙ ap (λ (k : ℕ). i ∷ drop k left) m

table_first : (i : ℕ) (is : List ℕ) → 2 ≤ i → tables_in (i ∷ is) ≡ i ∷ tables_in is
table_first i is two = ap (λ (b : Bool). if b then i ∷ tables_in is else tables_in is) (le-leb 1 i (omega (arith, two)))

-- where no table's cell is next none is left
none_left : (left : List ℕ) → AreVisited left → (n : ℕ) → next_back left n ≡ None → tables_in (drop n left) ≡ []
none_left [] v zero e = refl
none_left [] v (suc n) e = refl
none_left (j ∷ []) v zero e = ap (λ (k : ℕ). tables_in (k ∷ [])) v
none_left (j ∷ k ∷ ks) v zero e = absurd (let two = v.0.0 in let z : Some j ≡ None = sym (ap (λ (b : Bool). if b then None else Some j) (ne_eqb j catalog_at (λ f. omega (arith, two, f)))) ∙ e in cc)
none_left (j ∷ js) v (suc n) e = none_left js (visited_tail j js v) n e

-- ---- one that BEGIN opened

reply_there : (b : Bool) (text : Text) (lines : List Line) (line : Line) → b ≡ true → with_line b line lines ≡ lines ++ line ∷ []
reply_there true text lines line e = refl
reply_there false text lines line e = absurd cc

visits_none : (b : Bool) (left : List ℕ) → b ≡ true → end_visits b None left ≡ 0
visits_none true left e = refl
visits_none false left e = absurd cc

module _ {H : Type 0} (digest : H → List ℕ → List ℕ) (y : Seat H) (r : Running H) (c d : TableCell) (e : y.running ≡ Some r) (seq passed : ℕ) (p : y.point ≡ Inside (GoingBack seq passed)) (a : Among digest y (rows_seen c)) where
  next : next_back r.visited.left passed ≡ Some a.i
  next = needed (next_back r.visited.left passed) a.i (ap (λ (q : Option (Running H)). cell_or_done (back_need q passed)) (sym e) ∙ ap (λ (q : ControlPoint). point_need q y.running) (sym p) ∙ a.needs)

  at : slice_get r.visited.left passed ≡ Some a.i
  at = back_is (slice_get r.visited.left passed) a.i next

  dropped : drop passed r.visited.left ≡ a.i ∷ drop (passed + 1) r.visited.left
  dropped = drop_next r.visited.left passed a.i at

  k : RunsNow digest a.h a.sits.x r
  k = runs_now digest a.h y a.sits.x r a.sits.runs e

  abbrev o : OpenTransaction
  o = k.o

  abbrev x : Session
  x = a.sits.x

  may : HasCellToUndo passed o
  may = (holds_there digest y (rows_seen c) a r e k (GoingBack seq passed) p).0

  free : o.end ≡ unfixed
  free = may.explicit.0

  explicit : o.explicit ≡ true
  explicit = may.explicit.1

  all : o.visited ≡ r.visited.left
  all = visited_left digest a.h r o k.runs free

  no_end : r.end ≡ None
  no_end = none_ended o.id r.end o.end k.runs.end free

  statement : (s : Stmt) × (y.stmt ≡ Some s) × IsSome s
  statement = stmt_found IsSome y.stmt (holds_there digest y (rows_seen c) a r e k (GoingBack seq passed) p).1

  abbrev open_at : InOpenTransaction a.v a.s o
  open_at = in_open_transaction digest y (rows_seen c) a r e k (GoingBack seq passed) p statement.0 statement.1 free

  room : r.explicit ≡ true → length r.script.items < vec_capacity r.script
  room = subst (λ (q : ControlPoint). HasScriptCapacity q (Some r)) p (subst (HasScriptCapacity y.point) e a.sits.room)

  script : o.script ≡ map line_of r.script.items ++ []
  script = subst (λ (m : Option OpenTransaction). HasScript (Inside (GoingBack seq passed)) y.text (Some r) m) k.open_one
      (subst (λ (q : Option (Running H)). HasScript (Inside (GoingBack seq passed)) y.text q x.open_one) e (scripted digest a.h y a.s a.sits (Inside (GoingBack seq passed)) p)) free

  same_cell : cell_of c.id ≡ a.i
  same_cell = here digest y c a

  abbrev rest : List ℕ
  rest = tables_in (drop (passed + 1) r.visited.left)

  goes : open_at.stands.stage ≡ going_back seq (cell_of c.id ∷ rest)
  goes = ap (λ (l : List ℕ). going_back seq (tables_in l)) dropped
      ∙ ap (going_back seq) (table_first a.i (drop (passed + 1) r.visited.left) (is_table digest y c a))
      ∙ ap (λ (n : ℕ). going_back seq (n ∷ rest)) (sym same_cell)

  abbrev z : Stage → Seat H
  z stage = then_seat y y.started y.text y.stmt y.running (Inside stage)

  module _ (cell : (h : H) (o : OpenTransaction) → Represents digest h r.context o → d ≡ undone_to o.id seq c) where
    undoes : (cells : List ℕ) → rest ≡ cells → UndoesTo a.v c a.s d (then_at a.s open_at.stands (Some o) (going_back seq cells))
    undoes cells f = record {
      o = o;
      at = open_at;
      seq = seq;
      rest = cells;
      goes = goes ∙ ap (λ (l : List ℕ). going_back seq (cell_of c.id ∷ l)) f;
      cell = cell a.h o k.runs.context;
      seat = refl;
    }

    runs_open : Runs digest a.h y.running (Some o)
    runs_open = subst (λ (q : Option (Running H)). Runs digest a.h q (Some o)) (sym e) k.runs

    -- another cell is next
    goes_on : (j : ℕ) → next_back r.visited.left (passed + 1) ≡ Some j → IsVisit digest y (rows_seen c) a (rows_seen d) (z (GoingBack seq (passed + 1)))
    goes_on j f = record {
      t = then_at a.s open_at.stands (Some o) (going_back seq rest);
      may = λ out. record { visit = undo_to; old = Rows c; rest = out; is_out = refl; begun = a.s; before = none; ended = then_at a.s open_at.stands (Some o) (going_back seq rest); happens = undoes rest refl; after = none };
      lines = λ out. refl;
      did = λ out. plainly tt refl;
      sits = sits_then digest a.h y a.s a.sits (then_at a.s open_at.stands (Some o) (going_back seq rest)) (at_place (Some o) (inside y.text (going_back seq rest)) x) y.started y.text y.stmt y.running (Inside (GoingBack seq (passed + 1))) refl refl refl a.sits.moment
          (ap (λ (q : Option (Running H)). inside y.text (going_back seq (tables_in (drop (passed + 1) (left_of q))))) (sym e))
          a.sits.reads runs_open
          (subst (λ (q : Option (Running H)). HasScript (Inside (GoingBack seq (passed + 1))) y.text q (Some o)) (sym e) (λ g. script))
          (subst (HasScriptCapacity (Inside (GoingBack seq (passed + 1)))) (sym e) room)
          (record { explicit = may.explicit; next = λ g. let h : Some j ≡ None = sym f ∙ ap (λ (l : List ℕ). next_back l (passed + 1)) (sym all) ∙ g in cc }, subst (OfStmt IsSome) (sym statement.1) tt);
      moments = [];
      at_start = tt;
      adds = adds_at a.s x (Some o) (inside y.text (going_back seq rest)) a.sits.role;
      keeps = tt;
    }

    -- the seat is back
    abbrev x1 : Session
    x1 = at_place (Some o) (inside y.text (going_back seq [])) x

    abbrev t1 : SeatState
    t1 = then_at a.s open_at.stands (Some o) (going_back seq [])

    abbrev at1 : InOpenTransaction a.v t1 o
    at1 = record {
      stands = record { x = x1; role = refl; text = y.text; stage = going_back seq []; place = refl; stmt = statement.0; is = open_at.stands.is };
      open_one = refl;
      unfixed = free;
    }

    abbrev o2 : OpenTransaction
    o2 = with_reply y.text reply.Back o

    abbrev x2 : Session
    x2 = at_place (Some o2) (inside y.text (stage_after o.explicit reply.Back)) x1

    abbrev t2 : SeatState
    t2 = done t1 at1.stands o reply.Back

    runs2 : IsRunning digest a.h r o2
    runs2 = record {
      context = represents_too digest a.h r.context o o2 refl refl refl refl refl k.runs.context;
      explicit = k.runs.explicit;
      id = k.runs.id;
      end = k.runs.end;
      visited = k.runs.visited;
      cells = k.runs.cells;
      unreleased = k.runs.unreleased;
    }

    comes_back : next_back r.visited.left (passed + 1) ≡ None → IsVisit digest y (rows_seen c) a (rows_seen d) (z (Answered (record { reply = reply.Back; said = true; def = None })))
    comes_back f = record {
      t = t2;
      may = λ out. record { visit = undo_to; old = Rows c; rest = out; is_out = refl; begun = a.s; before = none; ended = t1; happens = undoes [] (none_left r.visited.left (subst AreVisited all k.runs.cells) (passed + 1) f); after = more none (is_back o at1 seq refl) };
      lines = λ out. refl;
      did = λ out. plainly (tt, tt) refl;
      sits = sits_then digest a.h y a.s a.sits t2 x2 y.started y.text y.stmt y.running (Inside (Answered (record { reply = reply.Back; said = true; def = None }))) refl refl refl a.sits.moment
          (ap (λ (b : Bool). inside y.text (stage_after b reply.Back)) explicit)
          a.sits.reads
          (subst (λ (q : Option (Running H)). Runs digest a.h q (Some o2)) (sym e) runs2)
          (subst (λ (q : Option (Running H)). HasScript (Inside (Answered (record { reply = reply.Back; said = true; def = None }))) y.text q (Some o2)) (sym e)
          (λ g. reply_there o.explicit y.text o.script (y.text, reply_text reply.Back) explicit ∙ ap (λ (ls : List Line). ls ++ (y.text, reply_text reply.Back) ∷ []) (script ∙ append-nil (map line_of r.script.items))))
          (subst (HasScriptCapacity (Inside (Answered (record { reply = reply.Back; said = true; def = None })))) (sym e) (λ said. room (k.runs.explicit ∙ explicit)))
          ((λ g. refl), (λ g. absurd (let h : true ≡ false = sym explicit ∙ g in cc)));
      moments = [];
      at_start = tt;
      adds = adds_both a.s t1 t2 (adds_at a.s x (Some o) (inside y.text (going_back seq [])) a.sits.role)
          (adds_at t1 x1 (Some o2) (inside y.text (stage_after o.explicit reply.Back)) refl);
      keeps = tt;
    }

    pub goes_back : (stage : Stage) → stage ≡ back_stage seq (passed + 1) r.visited.left → IsVisit digest y (rows_seen c) a (rows_seen d) (z stage)
    goes_back stage f = subst (λ (s : Stage). IsVisit digest y (rows_seen c) a (rows_seen d) (z s)) (sym f) (by (next_back r.visited.left (passed + 1)) refl)
      where
        by : (m : Option ℕ) → next_back r.visited.left (passed + 1) ≡ m → IsVisit digest y (rows_seen c) a (rows_seen d) (z (back_by seq (passed + 1) m))
        by (Some j) g = goes_on j g
        by None g = comes_back g

  pub comes_on : (stage : Stage) → stage ≡ back_stage seq (passed + 1) r.visited.left → ComesOn y (rows_seen c) (rows_seen d) (z stage)
  comes_on stage f = inl (subst (λ (n : ℕ). stage_visits stage y.running < n) (sym before) (subst (λ (s : Stage). stage_visits s y.running < suc (suc (length (drop (passed + 1) r.visited.left)))) (sym f) (by (next_back r.visited.left (passed + 1)))))
    where
      before : visits_left y ≡ suc (suc (length (drop (passed + 1) r.visited.left)))
      before = let n = length (drop (passed + 1) r.visited.left) in
          ap (λ (q : ControlPoint). visits_left (then_seat y y.started y.text y.stmt y.running q)) p
          ∙ ap (λ (q : Option (Running H)). stage_visits (GoingBack seq passed) q) e
          ∙ ap (λ (l : List ℕ). length l + 1) dropped ∙ (omega arith)

      by : (m : Option ℕ) → stage_visits (back_by seq (passed + 1) m) y.running < suc (suc (length (drop (passed + 1) r.visited.left)))
      by (Some j) = let n = ap (λ (q : Option (Running H)). stage_visits (GoingBack seq (passed + 1)) q) e in omega (arith, n)
      by None = let n = ap (λ (q : Option (Running H)). stage_visits (Answered (record { reply = reply.Back; said = true; def = None })) q) e ∙ ap (λ (l : Option EndLine). end_visits r.explicit l r.visited.left) no_end ∙ visits_none r.explicit r.visited.left (k.runs.explicit ∙ explicit) in omega (arith, n)

  pub stays : (stage : Stage) → stage ≡ back_stage seq (passed + 1) r.visited.left → KeepsStatement y (z stage)
  stays stage f = record {
    point = subst (λ (q : ControlPoint). IsSamePhase q (Inside stage)) (sym p) tt;
    begun = λ b. absurd (not_begun (next_back r.visited.left (passed + 1)) (subst (λ (g : Stage). IsBegunAt (Inside g)) f b));
    started = refl;
    name = refl;
    text = refl;
  }
    where
      not_begun : (m : Option ℕ) → IsBegunAt (Inside (back_by seq (passed + 1) m)) → ⊥
      not_begun (Some j) b = b
      not_begun None b = b
