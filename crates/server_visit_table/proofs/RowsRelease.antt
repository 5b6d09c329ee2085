-- A seat releases a table's cell, once the end of its transaction is fixed.
use Rattle.std.proofs.Common.{◌≡◌, ℕ, suc, ◌<◌, ◌≤◌, Bool, true, false, List, [], ◌∷◌, ◌++◌, length, reverse, Option, Some, None, refl, sym, ap, ap₂, ◌∙◌, subst, inl, arith}
use Rattle.std.proofs.lemmas.List.{append_assoc, reverse-append}
use Rattle.std.specs.Prelude.{slice_get}
use Rattle.std.specs.Vec.{vec_capacity}
use Rattle.sql_types.specs.declared.statement.Stmt.{Stmt}
use Rattle.sql_types.specs.declared.table.TableDef.{TableDef}
use Rattle.server_session.specs.Lists.{Text, In}
use Rattle.server_session.specs.Transactions.{End, unfixed, committed, ended}
use Rattle.server_session.specs.Alone.{none}
use Rattle.server_session.specs.Cells.{Rows, TableCell, cell_of, ledger_at, catalog_at}
use Rattle.server_session.specs.Moves.{at_place, releasing, sits}
use Rattle.server_session.specs.Seats.{OpenTransaction, answering, inside, Session, SeatState}
use Rattle.server_session.specs.UndoVisits.{index_dropped, refused_def, undone_unless, unlocked, ReleasesTable}
use Rattle.server_session.specs.Visits.{release}
use Rattle.server_session.specs.Represents.{Represents}
use Rattle.server_session.specs.Context.{TxCtx}
use Rattle.server_session.specs.IsEnd.{IsEnd}
use Rattle.server_visit_table.specs.InTable.{IsElsewhere, KeepsRest, def_to_drop, undone_by}
use Rattle.server_session.specs.KeptCell.{rows_seen}
use Rattle.server_session.specs.Needs.{cell_or_done, end_need, end_visits, point_need, point_visits, visits_left}
use Rattle.server_session.specs.Sits.{IsRunning, HasScriptCapacity, IsControlPoint, left_of, place_seen}
use Rattle.server_session.specs.Steps.{Among, ComesOn, IsVisit}
use Rattle.server_session.specs.SessionOutput.{plainly}
use Rattle.server_session.specs.VisitedCells.{AreVisited}
use Rattle.sql_types.specs.declared.end_line.EndLine.{EndLine}
use Rattle.sql_types.specs.declared.end_line.EndLine.TheVariants.{Committed, Ended}
use Rattle.server_session.specs.declared.need.NextVisit.TheVariants as need
use Rattle.server_session.specs.declared.running.Running.{Running}
use Rattle.server_session.specs.declared.seat.Seat.{Seat}
use Rattle.server_session.specs.declared.stage.Answering.{Answering}
use Rattle.server_session.specs.declared.stage.ControlPoint.{ControlPoint}
use Rattle.server_session.specs.declared.stage.ControlPoint.TheVariants.{Between, Inside, Leaving, Over}
use Rattle.server_session.specs.declared.stage.Stage.TheVariants.{Begun, AssigningId, Committing, RollingBack, Issuing, Keeping, Looking, Found, Made, LacksIndex, GoingBack, Replied, GivingBack, Answering as Answered}
use Rattle.server_session.proofs.Alone.{adds_at, sits_then, then_seat}
use Rattle.server_visit_table.proofs.RowsSeat.{RunsNow, end_fixed, here, in_reverse, in_right, is_table, once, represents_too, runs_now, visits_fixed}

-- ---- where a release is due

-- its reply is certain, or the session comes to its end
pub data IsLast : ControlPoint → Type 0 where
  answered : (a : Answering) → IsLast (Inside (Answered a))
  left : IsLast Leaving

-- the end is fixed, and this cell is the newest that is left
pub record IsDue {H : Type 0} (p : ControlPoint) (r : Running H) (i : ℕ) : Type 0 where
  pub last : IsLast p
  pub line : EndLine
  pub end : r.end ≡ Some line
  pub rest : List ℕ
  pub left : r.visited.left ≡ i ∷ rest

abbrev pub DueIn : {H : Type 0} → ControlPoint → Option (Running H) → ℕ → Type 0
DueIn p None i = ⊥
DueIn p (Some r) i = IsDue p r i

first_left : (left : List ℕ) (i : ℕ) → cell_or_done (slice_get left 0) ≡ need.Cell i → (rest : List ℕ) × (left ≡ i ∷ rest)
first_left [] i e = absurd cc
first_left (j ∷ js) i e = let z : j ≡ i = cc in (js, ap (λ (k : ℕ). k ∷ js) z)

ended_due : {H : Type 0} (p : ControlPoint) (r : Running H) (i : ℕ) → IsLast p → (line : EndLine) → r.end ≡ Some line → cell_or_done (slice_get r.visited.left 0) ≡ need.Cell i → IsDue p r i
ended_due p r i last line f n = let g = first_left r.visited.left i n in record { last = last; line = line; end = f; rest = g.0; left = g.1 }

due_by : {H : Type 0} (p : ControlPoint) (r : Running H) (i : ℕ) → IsLast p → 2 ≤ i → (b : Bool) (end : Option EndLine) → r.end ≡ end → end_need b end r.visited.left ≡ need.Cell i → IsDue p r i
due_by p r i last two true None f n = absurd cc
due_by p r i last two false None f n = absurd (let z : ledger_at ≡ i = cc in omega (arith, z, two))
due_by p r i last two true (Some line) f n = ended_due p r i last line f n
due_by p r i last two false (Some line) f n = ended_due p r i last line f n

not_ledger : (i : ℕ) → 2 ≤ i → need.Cell ledger_at ≡ need.Cell i → ⊥
not_ledger i two n = let z : ledger_at ≡ i = cc in omega (arith, z, two)

not_catalog_there : (i : ℕ) → 2 ≤ i → need.Cell catalog_at ≡ need.Cell i → ⊥
not_catalog_there i two n = let z : catalog_at ≡ i = cc in omega (arith, z, two)

-- who needs a table's cell elsewhere is to release it
pub due : {H : Type 0} (p : ControlPoint) (q : Option (Running H)) (i : ℕ) → 2 ≤ i → IsElsewhere p → point_need p q ≡ need.Cell i → DueIn p q i
due Between q i two k n = absurd (let z : need.Done ≡ need.Cell i = n in cc)
due Over q i two k n = absurd (let z : need.Done ≡ need.Cell i = n in cc)
due Leaving None i two k n = let z : need.Done ≡ need.Cell i = n in cc
due Leaving (Some r) i two k n = due_by Leaving r i left two false r.end refl n
due (Inside Begun) q i two k n = absurd (let z : need.Done ≡ need.Cell i = n in cc)
due (Inside (AssigningId explicit)) q i two k n = absurd (not_ledger i two n)
due (Inside Committing) q i two k n = absurd (not_ledger i two n)
due (Inside RollingBack) q i two k n = absurd (not_ledger i two n)
due (Inside Issuing) q i two k n = absurd (not_ledger i two n)
due (Inside Keeping) q i two k n = absurd (let z : need.All ≡ need.Cell i = n in cc)
due (Inside Looking) q i two k n = absurd (not_catalog_there i two n)
due (Inside (Found def part fresh)) q i two k n = absurd k
due (Inside (Made def indexed)) q i two k n = absurd k
due (Inside (LacksIndex def)) q i two k n = absurd (not_ledger i two n)
due (Inside (GoingBack seq passed)) q i two k n = absurd k
due (Inside (Replied reply)) q i two k n = absurd (not_ledger i two n)
due (Inside (GivingBack e)) q i two k n = absurd (not_catalog_there i two n)
due (Inside (Answered a)) None i two k n = let z : need.Done ≡ need.Cell i = n in cc
due (Inside (Answered a)) (Some r) i two k n = due_by (Inside (Answered a)) r i (answered a) two r.explicit r.end refl n

-- ---- what holds at such a point

drop_by : (a : Answering) (text : Text) (def : Option TableDef) → refused_def (inside text (answering a.reply def)) ≡ def
drop_by a text None = refl
drop_by a text (Some def) = refl

drop_is : (p : ControlPoint) → IsLast p → (text : Text) (cells : List ℕ) → refused_def (place_seen p text cells) ≡ def_to_drop p
drop_is _ (answered a) text cells = drop_by a text a.def
drop_is _ left text cells = refl

same_place : (p : ControlPoint) → IsLast p → (text : Text) (cells others : List ℕ) → place_seen p text cells ≡ place_seen p text others
same_place _ (answered a) text cells others = refl
same_place _ left text cells others = refl

room_kept : {H : Type 0} (p : ControlPoint) → IsLast p → (r q : Running H) → KeepsRest r q → HasScriptCapacity p (Some r) → HasScriptCapacity p (Some q)
room_kept _ (answered a) r q rest k = λ said. subst (λ s. length s.items < vec_capacity s) (sym rest.script) (k said)
room_kept _ left r q rest k = tt

still_there : (p : ControlPoint) → IsLast p → (i : ℕ) (s : Option Stmt) (o : OpenTransaction) (images : ℕ) → IsControlPoint p s (Some o) images → IsControlPoint p s (Some (releasing i o)) images
still_there _ (answered a) i s o images k = k
still_there _ left i s o images k = k

cells_left : {H : Type 0} (p : ControlPoint) → IsLast p → (r : Running H) (line : EndLine) → r.end ≡ Some line → point_visits p (Some r) ≡ length r.visited.left
cells_left _ (answered a) r line f = ap (λ (e : Option EndLine). end_visits r.explicit e r.visited.left) f ∙ visits_fixed r.explicit line r.visited.left
cells_left _ left r line f = ap (λ (e : Option EndLine). end_visits false e r.visited.left) f

undone_is : (id : ℕ) (line : EndLine) (e : End) (c : TableCell) → IsEnd id (Some line) e → undone_by (Some line) id c ≡ undone_unless e id c
undone_is id (Committed i place) unfixed c w = absurd w
undone_is id (Committed i place) (committed n) c w = refl
undone_is id (Committed i place) (ended n back) c w = absurd w
undone_is id (Ended i after) unfixed c w = absurd w
undone_is id (Ended i after) (committed n) c w = absurd w
undone_is id (Ended i after) (ended n back) c w = refl

-- ---- the visit

module _ {H : Type 0} (digest : H → List ℕ → List ℕ) (y : Seat H) (c : TableCell) (elsewhere : IsElsewhere y.point) (a : Among digest y (rows_seen c)) where
  its_turn : (r : Running H) → y.running ≡ Some r → IsDue y.point r a.i
  its_turn r e = due y.point (Some r) a.i (is_table digest y c a) elsewhere (ap (λ (q : Option (Running H)). point_need y.point q) (sym e) ∙ a.needs)

module _ {H : Type 0} (digest : H → List ℕ → List ℕ) (y : Seat H) (r q : Running H) (c d : TableCell) (e : y.running ≡ Some r) (elsewhere : IsElsewhere y.point)
    (cell : (h : H) (o : OpenTransaction) → Represents digest h r.context o → d ≡ unlocked o.id (index_dropped (def_to_drop y.point) (undone_by r.end o.id c)))
    (context : q.context ≡ r.context) (popped : (i : ℕ) (rest : List ℕ) → r.visited.left ≡ i ∷ rest → q.visited.left ≡ rest) (kept : KeepsRest r q) where
  abbrev z : Seat H
  z = then_seat y y.started y.text y.stmt (Some q) y.point

  pub comes_on : Among digest y (rows_seen c) → ComesOn y (rows_seen c) (rows_seen d) z
  comes_on a =
      let t = its_turn digest y c elsewhere a r e in
      let before : visits_left y ≡ suc (length t.rest) = ap (λ (k : Option (Running H)). point_visits y.point k) e ∙ cells_left y.point t.last r t.line t.end ∙ ap (λ (l : List ℕ). length l) t.left in
      let after : visits_left z ≡ length t.rest = cells_left y.point t.last q t.line (kept.end ∙ t.end) ∙ ap (λ (l : List ℕ). length l) (popped a.i t.rest t.left) in
      inl (omega (arith, before, after))

  module _ (a : Among digest y (rows_seen c)) where
    abbrev x : Session
    x = a.sits.x

    k : RunsNow digest a.h a.sits.x r
    k = runs_now digest a.h y a.sits.x r a.sits.runs e

    abbrev o : OpenTransaction
    o = k.o

    turn : IsDue y.point r a.i
    turn = its_turn digest y c elsewhere a r e

    fixed : o.end ≡ unfixed → ⊥
    fixed f = end_fixed o.id turn.line o.end (subst (λ (l : Option EndLine). IsEnd o.id l o.end) turn.end k.runs.end) f

    undone : undone_by r.end o.id c ≡ undone_unless o.end o.id c
    undone = ap (λ (l : Option EndLine). undone_by l o.id c) turn.end ∙ undone_is o.id turn.line o.end c (subst (λ (l : Option EndLine). IsEnd o.id l o.end) turn.end k.runs.end)

    dropped : def_to_drop y.point ≡ refused_def x.place
    dropped = sym (ap refused_def a.sits.place ∙ drop_is y.point turn.last y.text (left_of y.running))

    there : cell_of c.id ≡ a.i
    there = here digest y c a

    visited_is : o.visited ≡ reverse o.released ++ a.i ∷ turn.rest
    visited_is = k.runs.visited ∙ ap (λ (l : List ℕ). reverse o.released ++ l) turn.left

    visited : In (cell_of c.id) o.visited
    visited = subst (λ (n : ℕ). In n o.visited) (sym there) (subst (In a.i) (sym visited_is) (in_right a.i (reverse o.released) (a.i ∷ turn.rest) (inl refl)))

    not_yet : In (cell_of c.id) o.released → ⊥
    not_yet g = once a.i (reverse o.released) turn.rest (subst AreVisited visited_is k.runs.cells) (in_reverse a.i o.released (subst (λ (n : ℕ). In n o.released) there g))

    abbrev p : OpenTransaction
    p = releasing (cell_of c.id) o

    abbrev t : SeatState
    t = sits a.s (at_place (Some p) x.place x)

    visit : ReleasesTable c a.s d t
    visit = record {
      x = x;
      o = o;
      at = record { role = a.sits.role; open_one = k.open_one; fixed = fixed; visited = visited; not_yet = not_yet };
      cell = cell a.h o k.runs.context ∙ ap₂ (λ (def : Option TableDef) (u : TableCell). unlocked o.id (index_dropped def u)) dropped undone;
      seat = refl;
    }

    one_less : p.visited ≡ reverse p.released ++ q.visited.left
    one_less = visited_is ∙ sym (append_assoc (reverse o.released) (a.i ∷ []) turn.rest)
        ∙ ap (λ (l : List ℕ). l ++ turn.rest) (sym (reverse-append (a.i ∷ []) o.released))
        ∙ ap (λ (n : ℕ). reverse (n ∷ o.released) ++ turn.rest) (sym there)
        ∙ ap (λ (l : List ℕ). reverse (cell_of c.id ∷ o.released) ++ l) (sym (popped a.i turn.rest turn.left))

    runs : IsRunning digest a.h q p
    runs = record {
      context = subst (λ (ctx : TxCtx H). Represents digest a.h ctx p) (sym context) (represents_too digest a.h r.context o p refl refl refl refl refl k.runs.context);
      explicit = kept.explicit ∙ k.runs.explicit;
      id = k.runs.id;
      end = subst (λ (l : Option EndLine). IsEnd o.id l o.end) (sym kept.end) k.runs.end;
      visited = one_less;
      cells = k.runs.cells;
      unreleased = λ f. absurd (fixed f);
    }

    pub releases : IsVisit digest y (rows_seen c) a (rows_seen d) z
    releases = record {
      t = t;
      may = λ out. record { visit = release; old = Rows c; rest = out; is_out = refl; begun = a.s; before = none; ended = t; happens = visit; after = none };
      lines = λ out. refl;
      did = λ out. plainly tt refl;
      sits = sits_then digest a.h y a.s a.sits t (at_place (Some p) x.place x) y.started y.text y.stmt (Some q) y.point refl refl refl a.sits.moment
          (a.sits.place ∙ same_place y.point turn.last y.text (left_of y.running) (left_of (Some q)))
          a.sits.reads runs (λ f. absurd (fixed f))
          (room_kept y.point turn.last r q kept (subst (HasScriptCapacity y.point) e a.sits.room))
          (still_there y.point turn.last (cell_of c.id) y.stmt o y.images (subst (λ (m : Option OpenTransaction). IsControlPoint y.point y.stmt m y.images) k.open_one a.sits.stands));
      moments = [];
      at_start = tt;
      adds = adds_at a.s x (Some p) x.place a.sits.role;
      keeps = tt;
    }
