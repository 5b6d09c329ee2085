-- The release of the catalog, which comes last of the cells that a transaction visited.
use Rattle.std.proofs.Common.{◌≡◌, ◌≢◌, ◌⊎◌, ℕ, ◌+◌, ◌<◌, ◌≤◌, Bool, true, false, List, [], ◌∷◌, ◌++◌, Option, Some, None, reverse, refl, sym, ap, ◌∙◌, subst, subst₂, inl, inr, ⊎_elim, arith}
use Rattle.std.specs.Prelude.{◌==◌, slice_get, if◌then◌else◌}
use Rattle.std.proofs.lemmas.List.{append-nil, append_assoc, reverse-append}
use Rattle.server_session.specs.Lists.{Each, In}
use Rattle.server_session.specs.Transactions.{End, unfixed, committed, ended}
use Rattle.server_session.specs.Cells.{CatalogCell, Creator, catalog_at, ledger_at}
use Rattle.server_session.specs.Moves.{at_place, releasing, sits}
use Rattle.server_session.specs.Seats.{OpenTransaction, Session}
use Rattle.server_session.specs.UndoVisits.{catalog_left, creator_left, ReleasesCatalog}
use Rattle.server_session.specs.Visits.{release_catalog}
use Rattle.store_catalog.specs.Calls.{left, undone}
use Rattle.server_session.specs.Represents.{Represents}
use Rattle.server_session.specs.IsEnd.{IsEnd}
use Rattle.server_visit_catalog.specs.InCatalog.{released_by, with_visited, Passes, ReleasesNext}
use Rattle.server_session.specs.KeptCell.{catalog_seen}
use Rattle.server_session.specs.Needs.{answer_need, back_need, cell_or_done, end_need, end_visits, leaving_need, point_need, point_visits}
use Rattle.server_session.specs.Sits.{HasScriptCapacity, IsControlPoint, IsRunning, Runs, Sits, left_of, place_seen}
use Rattle.server_session.specs.Steps.{Among, ComesOn, IsVisit}
use Rattle.server_session.specs.SessionOutput.{plainly}
use Rattle.server_session.specs.VisitedCells.{AreVisited, IsTableCell, not_catalog, table_cell}
use Rattle.sql_types.specs.declared.end_line.EndLine.{EndLine}
use Rattle.sql_types.specs.declared.end_line.EndLine.TheVariants.{Committed, Ended}
use Rattle.server_session.specs.declared.need.NextVisit.{NextVisit}
use Rattle.server_session.specs.declared.need.NextVisit.TheVariants as need
use Rattle.server_session.specs.declared.running.Running.{Running}
use Rattle.server_session.specs.declared.seat.Seat.{Seat}
use Rattle.server_session.specs.declared.stage.Answering.{Answering}
use Rattle.server_session.specs.declared.stage.ControlPoint.{ControlPoint}
use Rattle.server_session.specs.declared.stage.ControlPoint.TheVariants.{Between, Inside, Leaving, Over}
use Rattle.server_session.specs.declared.stage.Stage.{Stage}
use Rattle.server_session.specs.declared.stage.Stage.TheVariants.{Begun, AssigningId, Committing, RollingBack, Issuing, Keeping, Looking, Found, Made, LacksIndex, GoingBack, Replied, GivingBack, Answering as Answered}
use Rattle.server_session.proofs.Alone.{then_seat, adds_at, sits_then, holds_at_point}
use Rattle.server_session.proofs.Ending.{all_released}
use Rattle.server_session.proofs.Sitting.{transaction_found, visits_once}
use Rattle.server_visit_catalog.proofs.CatalogSitting.{at_catalog}

-- ---- the catalog is the first that was visited

others_visited : (i : ℕ) (is : List ℕ) → AreVisited (i ∷ is) → AreVisited is
others_visited i [] a = tt
others_visited i (j ∷ js) a = a.2

visited_behind : (is js : List ℕ) → AreVisited (is ++ js) → AreVisited js
visited_behind [] js a = a
visited_behind (i ∷ is) js a = visited_behind is js (others_visited i (is ++ js) a)

catalog_alone : (js : List ℕ) → AreVisited (catalog_at ∷ js) → js ≡ []
catalog_alone [] a = refl
catalog_alone (j ∷ js) a = absurd (let low : 2 ≤ 0 = a.0.0 in omega (arith, low))

-- where the catalog is next, none is left behind it
last_left : (back left rest : List ℕ) → AreVisited (reverse back ++ left) → left ≡ catalog_at ∷ rest → left ≡ catalog_at ∷ []
last_left back left rest a e = e ∙ ap (λ (l : List ℕ). catalog_at ∷ l) (catalog_alone rest (subst AreVisited e (visited_behind (reverse back) left a)))

-- those before it are tables'
tables_before : (back js : List ℕ) (j : ℕ) → AreVisited (reverse back ++ (j ∷ js)) → Each (λ i. 2 ≤ i) back
tables_before [] js j a = tt
tables_before (i ∷ is) js j a =
    let moved : AreVisited (reverse is ++ (i ∷ j ∷ js)) = subst AreVisited (ap (λ (l : List ℕ). l ++ (j ∷ js)) (reverse-append (i ∷ []) is) ∙ append_assoc (reverse is) (i ∷ []) (j ∷ js)) a in
    let here : AreVisited (i ∷ j ∷ js) = visited_behind (reverse is) (i ∷ j ∷ js) moved in
    (here.0.0, tables_before is (j ∷ js) i moved)

not_among : (is : List ℕ) → Each (λ i. 2 ≤ i) is → In catalog_at is → ⊥
not_among [] e k = k
not_among (i ∷ is) e k = ⊎_elim (λ (f : i ≡ catalog_at). let low : 2 ≤ i = e.0 in absurd (omega (arith, low, f))) (λ (r : In catalog_at is). not_among is e.1 r) k

in_behind : (is js : List ℕ) (i : ℕ) → In i js → In i (is ++ js)
in_behind [] js i k = k
in_behind (j ∷ is) js i k = inr (in_behind is js i k)

each_turned : (i : ℕ) (is js : List ℕ) → Each (λ k. In k (i ∷ is)) js → Each (λ k. (k ≡ i) ⊎ In k is) js
each_turned i is [] a = tt
each_turned i is (j ∷ js) a = (⊎_elim (λ (e : i ≡ j). inl (sym e)) (λ (r : In j is). inr r) a.0, each_turned i is js a.1)

-- ---- what is left of the cell

left_twice : (tx : ℕ) (k : Option Creator) → creator_left tx (creator_left tx k) ≡ creator_left tx k
left_twice tx None = refl
left_twice tx (Some k) = by (k.tx == tx) refl
  where
    by : (b : Bool) → (k.tx == tx) ≡ b → creator_left tx (if b then None else Some k) ≡ (if b then None else Some k)
    by true e = refl
    by false e = ap (λ (c : Bool). if c then None else Some k) e

cell_left : (line : EndLine) (e : End) (tx : ℕ) (c : CatalogCell) → IsEnd tx (Some line) e → released_by (Some line) tx c ≡ catalog_left e tx c
cell_left (Committed id place) unfixed tx c k = absurd k
cell_left (Committed id place) (committed n) tx c k = refl
cell_left (Committed id place) (ended n back) tx c k = absurd k
cell_left (Ended id after) unfixed tx c k = absurd k
cell_left (Ended id after) (committed n) tx c k = absurd k
cell_left (Ended id after) (ended n back) tx c k = ap (λ (r : Option Creator). record {
  defs = (undone tx c).defs;
  creator = r;
  tables = (undone tx c).tables;
  columns = (undone tx c).columns;
  holds = Rattle.spec_model.specs.Holds.released c.holds tx;
}) (left_twice tx c.creator)

is_fixed : (line : EndLine) (e : End) (tx : ℕ) → IsEnd tx (Some line) e → e ≢ unfixed
is_fixed (Committed id place) unfixed tx k f = absurd k
is_fixed (Committed id place) (committed n) tx k f = cc
is_fixed (Committed id place) (ended n back) tx k f = absurd k
is_fixed (Ended id after) unfixed tx k f = absurd k
is_fixed (Ended id after) (committed n) tx k f = absurd k
is_fixed (Ended id after) (ended n back) tx k f = cc

-- ---- where it stands

-- a seat with a transaction whose end is fixed, of which the catalog alone is left
pub record IsLast {H : Type 0} (digest : H → List ℕ → List ℕ) (y : Seat H) (c : CatalogCell) (a : Among digest y (catalog_seen c)) : Type 0 where
  pub r : Running H
  pub has_running : y.running ≡ Some r
  pub line : EndLine
  pub ends : r.end ≡ Some line
  pub rest : List ℕ
  pub left : r.visited.left ≡ catalog_at ∷ rest

-- it answers, or its session comes to its end
abbrev pub IsAtEnd : ControlPoint → Type 0
IsAtEnd (Inside (Answered a)) = Unit {0}
IsAtEnd Leaving = Unit {0}
IsAtEnd _ = ⊥

at_end_by : (P : ControlPoint → Type 0) (p : ControlPoint) → IsAtEnd p → ((w : Answering) → P (Inside (Answered w))) → P Leaving → P p
at_end_by P (Inside (Answered w)) k f g = f w
at_end_by P Leaving k f g = g
at_end_by P Between k f g = absurd k
at_end_by P Over k f g = absurd k
at_end_by P (Inside Begun) k f g = absurd k
at_end_by P (Inside (AssigningId explicit)) k f g = absurd k
at_end_by P (Inside Committing) k f g = absurd k
at_end_by P (Inside RollingBack) k f g = absurd k
at_end_by P (Inside Issuing) k f g = absurd k
at_end_by P (Inside Keeping) k f g = absurd k
at_end_by P (Inside Looking) k f g = absurd k
at_end_by P (Inside (Found def part fresh)) k f g = absurd k
at_end_by P (Inside (Made def indexed)) k f g = absurd k
at_end_by P (Inside (LacksIndex def)) k f g = absurd k
at_end_by P (Inside (GoingBack seq passed)) k f g = absurd k
at_end_by P (Inside (Replied r)) k f g = absurd k
at_end_by P (Inside (GivingBack e)) k f g = absurd k

not_ledger : (i : ℕ) → i ≡ catalog_at → need.Cell ledger_at ≡ need.Cell i → ⊥
not_ledger i e f = let g : need.Cell ledger_at ≡ need.Cell catalog_at = f ∙ ap (λ (n : ℕ). need.Cell n) e in cc

not_a_table : (id i : ℕ) → i ≡ catalog_at → IsTableCell id → need.Cell id ≡ need.Cell i → ⊥
not_a_table id i e t f =
    let g : id ≡ catalog_at = ap (λ (n : NextVisit). elim n [ need.Cell k ↦ k | need.All ↦ 0 | need.Done ↦ 0 ]) (f ∙ ap (λ (n : ℕ). need.Cell n) e) in
    let low : 2 ≤ id = t.0 in omega (arith, low, g)

not_done : (i : ℕ) → need.Done ≡ need.Cell i → ⊥
not_done i e = cc

not_all : (i : ℕ) → need.All ≡ need.Cell i → ⊥
not_all i e = cc

not_back : (o : Option ℕ) (i : ℕ) → i ≡ catalog_at → cell_or_done (not_catalog o) ≡ need.Cell i → ⊥
not_back None i e f = not_done i f
not_back (Some n) i e f = by (n == catalog_at) refl f
  where
    by : (b : Bool) → (n == catalog_at) ≡ b → cell_or_done (if b then None else Some n) ≡ need.Cell i → ⊥
    by true g h = not_done i h
    by false g h = let k : need.Cell n ≡ need.Cell catalog_at = h ∙ ap (λ (m : ℕ). need.Cell m) e in
        let same : n ≡ catalog_at = ap (λ (u : NextVisit). elim u [ need.Cell k ↦ k | need.All ↦ 0 | need.Done ↦ 0 ]) k in
        let yes : (n == catalog_at) ≡ true = Rattle.std.proofs.lemmas.Bool.eq-eqb n catalog_at same in cc

next_is : (left : List ℕ) (i : ℕ) → i ≡ catalog_at → cell_or_done (slice_get left 0) ≡ need.Cell i → (rest : List ℕ) × (left ≡ catalog_at ∷ rest)
next_is [] i e f = absurd (not_done i f)
next_is (j ∷ js) i e f =
    let g : j ≡ catalog_at = ap (λ (n : NextVisit). elim n [ need.Cell k ↦ k | need.All ↦ 0 | need.Done ↦ 0 ]) f ∙ e in
    (js, ap (λ (k : ℕ). k ∷ js) g)

module _ {H : Type 0} (digest : H → List ℕ → List ℕ) (y : Seat H) (c : CatalogCell) (a : Among digest y (catalog_seen c)) where
  last_by_end : (b : Bool) (r : Running H) → y.running ≡ Some r → (l : Option EndLine) → r.end ≡ l → end_need b l r.visited.left ≡ need.Cell a.i → IsLast digest y c a
  last_by_end true r e None f g = absurd (not_done a.i g)
  last_by_end false r e None f g = absurd (not_ledger a.i (at_catalog digest y c a) g)
  last_by_end true r e (Some line) f g = let n = next_is r.visited.left a.i (at_catalog digest y c a) g in record { r = r; has_running = e; line = line; ends = f; rest = n.0; left = n.1 }
  last_by_end false r e (Some line) f g = let n = next_is r.visited.left a.i (at_catalog digest y c a) g in record { r = r; has_running = e; line = line; ends = f; rest = n.0; left = n.1 }

  last_answering : (q : Option (Running H)) → y.running ≡ q → answer_need q ≡ need.Cell a.i → IsLast digest y c a
  last_answering None e f = absurd (not_done a.i f)
  last_answering (Some r) e f = last_by_end r.explicit r e r.end refl f

  last_leaving : (q : Option (Running H)) → y.running ≡ q → leaving_need q ≡ need.Cell a.i → IsLast digest y c a
  last_leaving None e f = absurd (not_done a.i f)
  last_leaving (Some r) e f = last_by_end false r e r.end refl f

  back_is : (q : Option (Running H)) (passed : ℕ) → cell_or_done (back_need q passed) ≡ need.Cell a.i → ⊥
  back_is None passed f = not_done a.i f
  back_is (Some r) passed f = not_back (slice_get r.visited.left passed) a.i (at_catalog digest y c a) f

  last_at : (stage : Stage) → y.point ≡ Inside stage → ReleasesNext (Inside stage) → point_need (Inside stage) y.running ≡ need.Cell a.i → IsLast digest y c a × IsAtEnd (Inside stage)
  last_at Begun e k f = absurd (not_done a.i f)
  last_at (AssigningId explicit) e k f = absurd (not_ledger a.i (at_catalog digest y c a) f)
  last_at Committing e k f = absurd (not_ledger a.i (at_catalog digest y c a) f)
  last_at RollingBack e k f = absurd (not_ledger a.i (at_catalog digest y c a) f)
  last_at Issuing e k f = absurd (not_ledger a.i (at_catalog digest y c a) f)
  last_at Keeping e k f = absurd (not_all a.i f)
  last_at Looking e k f = absurd k
  last_at (Found def part fresh) e k f = absurd (not_a_table (table_cell def.id) a.i (at_catalog digest y c a) (holds_at_point digest a.h y a.s a.sits (Inside (Found def part fresh)) e).2 f)
  last_at (Made def true) e k f = absurd (not_ledger a.i (at_catalog digest y c a) f)
  last_at (Made def false) e k f = absurd (not_a_table (table_cell def.id) a.i (at_catalog digest y c a) (holds_at_point digest a.h y a.s a.sits (Inside (Made def false)) e).2 f)
  last_at (LacksIndex def) e k f = absurd (not_ledger a.i (at_catalog digest y c a) f)
  last_at (GoingBack seq passed) e k f = absurd (back_is y.running passed f)
  last_at (Replied r) e k f = absurd (not_ledger a.i (at_catalog digest y c a) f)
  last_at (GivingBack r) e k f = absurd k
  last_at (Answered r) e k f = (last_answering y.running refl f, tt)

  pub is_last : ReleasesNext y.point → IsLast digest y c a × IsAtEnd y.point
  is_last next = by y.point refl next a.needs
    where
      by : (p : ControlPoint) → y.point ≡ p → ReleasesNext p → point_need p y.running ≡ need.Cell a.i → IsLast digest y c a × IsAtEnd p
      by Between e k f = absurd (not_done a.i f)
      by (Inside stage) e k f = last_at stage e k f
      by Leaving e k f = (last_leaving y.running refl f, tt)
      by Over e k f = absurd (not_done a.i f)

  -- ---- its visit

  module _ (next : ReleasesNext y.point) (r : Running H) (has : y.running ≡ Some r) (d : CatalogCell) (q : Running H) (same : q ≡ with_visited q.visited r) (passed : Passes r.visited q.visited)
      (cell : (h : H) (o : OpenTransaction) → Represents digest h r.context o → d ≡ released_by r.end o.id c) where
    abbrev z : Seat H
    z = then_seat y y.started y.text y.stmt (Some q) y.point

    at_end : IsAtEnd y.point
    at_end = (is_last next).1

    -- the transaction in question
    its_end : (line : EndLine) × (r.end ≡ Some line)
    its_end = let k = (is_last next).0 in let one : k.r ≡ r = (let e : Some k.r ≡ Some r = sym k.has_running ∙ has in cc) in (k.line, ap (λ (p : Running H). p.end) (sym one) ∙ k.ends)

    its_left : (rest : List ℕ) × (r.visited.left ≡ catalog_at ∷ rest)
    its_left = let k = (is_last next).0 in let one : k.r ≡ r = (let e : Some k.r ≡ Some r = sym k.has_running ∙ has in cc) in (k.rest, ap (λ (p : Running H). p.visited.left) (sym one) ∙ k.left)

    its_transaction : (o : OpenTransaction) × (a.sits.x.open_one ≡ Some o) × IsRunning digest a.h r o
    its_transaction = transaction_found digest a.h r a.sits.x.open_one (subst (λ (u : Option (Running H)). Runs digest a.h u a.sits.x.open_one) has a.sits.runs)

    abbrev o : OpenTransaction
    o = its_transaction.0

    open_one : a.sits.x.open_one ≡ Some o
    open_one = its_transaction.1

    run : IsRunning digest a.h r o
    run = its_transaction.2

    ends : IsEnd o.id (Some its_end.0) o.end
    ends = subst (λ (e : Option EndLine). IsEnd o.id e o.end) its_end.1 run.end

    visited : o.visited ≡ reverse o.released ++ (catalog_at ∷ [])
    visited = run.visited ∙ ap (λ (l : List ℕ). reverse o.released ++ l) (last_left o.released r.visited.left its_left.0 (subst AreVisited run.visited run.cells) its_left.1)

    alone_left : r.visited.left ≡ catalog_at ∷ []
    alone_left = last_left o.released r.visited.left its_left.0 (subst AreVisited run.visited run.cells) its_left.1

    none_left : q.visited.left ≡ []
    none_left = passed catalog_at [] alone_left

    abbrev o2 : OpenTransaction
    o2 = releasing catalog_at o

    all_visited : o2.visited ≡ reverse o2.released ++ q.visited.left
    all_visited = visited ∙ sym (reverse-append (catalog_at ∷ []) o.released) ∙ sym (append-nil (reverse o2.released)) ∙ ap (λ (l : List ℕ). reverse o2.released ++ l) (sym none_left)

    running : IsRunning digest a.h q o2
    running = subst (λ (p : Running H). IsRunning digest a.h p o2) (sym same) (record {
      context = record {
        hasher = run.context.hasher;
        id = run.context.id;
        explicit = run.context.explicit;
        seq = run.context.seq;
        few = run.context.few;
        trees = run.context.trees;
        differ = run.context.differ;
        open_savepoints = run.context.open_savepoints;
        kept = run.context.kept;
      };
      explicit = run.explicit;
      id = run.id;
      end = run.end;
      visited = all_visited;
      cells = run.cells;
      unreleased = λ free. absurd (is_fixed its_end.0 o.end o.id ends free);
    })

    abbrev x2 : Session
    x2 = at_place (Some o2) a.sits.x.place a.sits.x

    place_same : (p : ControlPoint) → IsAtEnd p → (left more : List ℕ) → place_seen p y.text left ≡ place_seen p y.text more
    place_same p k left more = at_end_by (λ p. place_seen p y.text left ≡ place_seen p y.text more) p k (λ w. refl) refl

    point_same : (p : ControlPoint) → IsAtEnd p → IsControlPoint p y.stmt (Some o) y.images → IsControlPoint p y.stmt (Some o2) y.images
    point_same p k = at_end_by (λ p. IsControlPoint p y.stmt (Some o) y.images → IsControlPoint p y.stmt (Some o2) y.images) p k (λ w s. s) (λ s. s)

    room_same : (p : ControlPoint) → IsAtEnd p → HasScriptCapacity p (Some r) → HasScriptCapacity p (Some (with_visited q.visited r))
    room_same p k = at_end_by (λ p. HasScriptCapacity p (Some r) → HasScriptCapacity p (Some (with_visited q.visited r))) p k (λ w s. s) (λ s. s)

    sits_released : Sits digest a.h z (sits a.s x2)
    sits_released = sits_then digest a.h y a.s a.sits (sits a.s x2) x2 y.started y.text y.stmt (Some q) y.point refl refl refl a.sits.moment
        (a.sits.place ∙ place_same y.point at_end (left_of y.running) q.visited.left) a.sits.reads running
        (λ free. absurd (is_fixed its_end.0 o.end o.id ends free))
        (subst (λ (p : Running H). HasScriptCapacity y.point (Some p)) (sym same) (room_same y.point at_end (subst (HasScriptCapacity y.point) has a.sits.room)))
        (point_same y.point at_end (subst (λ (u : Option OpenTransaction). IsControlPoint y.point y.stmt u y.images) open_one a.sits.stands))

    releases : ReleasesCatalog c a.s d (sits a.s x2)
    releases = record {
      x = a.sits.x;
      o = o;
      at = record {
        role = a.sits.role;
        open_one = open_one;
        fixed = is_fixed its_end.0 o.end o.id ends;
        visited = subst (In catalog_at) (sym visited) (in_behind (reverse o.released) (catalog_at ∷ []) catalog_at (inl refl));
        not_yet = not_among o.released (tables_before o.released [] catalog_at (subst AreVisited visited run.cells));
      };
      others = each_turned catalog_at o.released o.visited (all_released o2 q.visited.left all_visited none_left);
      cell = cell a.h o run.context ∙ ap (λ (e : Option EndLine). released_by e o.id c) its_end.1 ∙ cell_left its_end.0 o.end o.id c ends;
      seat = refl;
    }

    pub released_so : IsVisit digest y (catalog_seen c) a (catalog_seen d) z
    released_so = visits_once digest y (catalog_seen c) a (catalog_seen d) z (sits a.s x2) release_catalog (λ out. releases) (λ out. plainly tt refl)
        sits_released [] tt (adds_at a.s a.sits.x (Some o2) a.sits.x.place a.sits.role) tt

    visits_before : (b : Bool) → end_visits b q.end q.visited.left < end_visits b r.end r.visited.left
    visits_before b = subst₂ (λ (e f : Option EndLine). end_visits b e q.visited.left < end_visits b f r.visited.left) (sym (ap (λ (p : Running H). p.end) same ∙ its_end.1)) (sym its_end.1)
        (subst₂ (λ (k l : List ℕ). end_visits b (Some its_end.0) k < end_visits b (Some its_end.0) l) (sym none_left) (sym alone_left) (fewer b))
      where
        fewer : (b : Bool) → end_visits b (Some its_end.0) [] < end_visits b (Some its_end.0) (catalog_at ∷ [])
        fewer true = omega arith
        fewer false = omega arith

    point_before : (p : ControlPoint) → IsAtEnd p → point_visits p (Some q) < point_visits p (Some r)
    point_before p k = at_end_by (λ p. point_visits p (Some q) < point_visits p (Some r)) p k
        (λ w. subst (λ (b : Bool). end_visits b q.end q.visited.left < end_visits r.explicit r.end r.visited.left) (sym (ap (λ (p : Running H). p.explicit) same)) (visits_before r.explicit))
        (visits_before false)

    pub released_comes : ComesOn y (catalog_seen c) (catalog_seen d) z
    released_comes = inl (subst (λ (u : Option (Running H)). point_visits y.point (Some q) < point_visits y.point u) (sym has) (point_before y.point at_end))
