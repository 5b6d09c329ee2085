-- The cell that a seat needs is one of those that there are.
use Rattle.std.proofs.Common.{◌≡◌, ◌<◌, ℕ, zero, suc, Bool, true, false, List, [], ◌∷◌, Option, Some, None, reverse, subst, arith}
use Rattle.std.specs.Prelude.{slice_get, if◌then◌else◌, ◌==◌}
use Rattle.spec_history.specs.Lists.{Each}
use Rattle.spec_history.proofs.Refused.{each_right}
use Rattle.spec_protocol.specs.Cells.{catalog_at, cell_count}
use Rattle.spec_protocol.specs.Seats.{OpenTransaction, SeatState}
use Rattle.server_session.specs.Needs.{need_of, point_need, cell_or_done, end_need, answer_need, leaving_need, back_need}
use Rattle.server_session.specs.Sits.{Sits, Runs, IsRunning, IsControlPoint}
use Rattle.server_session.specs.VisitedCells.{AreVisited, not_catalog}
use Rattle.sql_types.specs.declared.end_line.EndLine.{EndLine}
use Rattle.server_session.specs.declared.need.NextVisit.{NextVisit}
use Rattle.server_session.specs.declared.need.NextVisit.TheVariants as need
use Rattle.server_session.specs.declared.running.Running.{Running}
use Rattle.server_session.specs.declared.seat.Seat.{Seat}
use Rattle.server_session.specs.declared.stage.ControlPoint.{ControlPoint}
use Rattle.server_session.specs.declared.stage.ControlPoint.TheVariants.{Between, Inside, Leaving, Over}
use Rattle.server_session.specs.declared.stage.Stage.TheVariants.{Begun, AssigningId, Committing, RollingBack, Issuing, Keeping, Looking, Found, Made, LacksIndex, GoingBack, Replied, GivingBack, Answering as Answers}

-- a cell is one of those that there are
abbrev IsCell : NextVisit → Type 0
IsCell (need.Cell i) = i < cell_count
IsCell n = Unit {0}

all_cells : (is : List ℕ) → AreVisited is → Each (λ i. i < cell_count) is
all_cells [] v = tt
all_cells (i ∷ []) v = (omega (arith, v), tt)
all_cells (i ∷ j ∷ is) v = (v.0.1, all_cells (j ∷ is) v.2)

each_got : (is : List ℕ) (k : ℕ) → Each (λ i. i < cell_count) is → IsCell (cell_or_done (slice_get is k))
each_got [] k e = tt
each_got (i ∷ is) zero e = e.0
each_got (i ∷ is) (suc k) e = each_got is k e.1

-- past the catalog
past_catalog : (o : Option ℕ) → IsCell (cell_or_done o) → IsCell (cell_or_done (not_catalog o))
past_catalog None e = tt
past_catalog (Some i) e = by (i == catalog_at)
  where
    by : (b : Bool) → IsCell (cell_or_done (if b then None else Some i))
    by true = tt
    by false = e

module _ {H : Type 0} (digest : H → List ℕ → List ℕ) (h : H) where
  left_cells : (r : Running H) (o : OpenTransaction) → IsRunning digest h r o → Each (λ i. i < cell_count) r.visited.left
  left_cells r o is = each_right (λ i. i < cell_count) (reverse o.released) r.visited.left (subst (Each (λ i. i < cell_count)) is.visited (all_cells o.visited is.cells))

  at_end : (goes_on : Bool) (line : Option EndLine) (left : List ℕ) → Each (λ i. i < cell_count) left → IsCell (end_need goes_on line left)
  at_end true None left e = tt
  at_end false None left e = omega arith
  at_end true (Some line) left e = each_got left 0 e
  at_end false (Some line) left e = each_got left 0 e

  at_answer : (r : Option (Running H)) (o : Option OpenTransaction) → Runs digest h r o → IsCell (answer_need r)
  at_answer None o runs = tt
  at_answer (Some r) None runs = absurd runs
  at_answer (Some r) (Some o) runs = at_end r.explicit r.end r.visited.left (left_cells r o runs)

  at_leave : (r : Option (Running H)) (o : Option OpenTransaction) → Runs digest h r o → IsCell (leaving_need r)
  at_leave None o runs = tt
  at_leave (Some r) None runs = absurd runs
  at_leave (Some r) (Some o) runs = at_end false r.end r.visited.left (left_cells r o runs)

  at_back : (r : Option (Running H)) (o : Option OpenTransaction) (passed : ℕ) → Runs digest h r o → IsCell (cell_or_done (back_need r passed))
  at_back None o passed runs = tt
  at_back (Some r) None passed runs = absurd runs
  at_back (Some r) (Some o) passed runs = past_catalog (slice_get r.visited.left passed) (each_got r.visited.left passed (left_cells r o runs))

  module _ (y : Seat H) (s : SeatState) (w : Sits digest h y s) where
    by_point : (p : ControlPoint) → IsControlPoint p y.stmt w.x.open_one y.images → IsCell (point_need p y.running)
    by_point Between stands = tt
    by_point (Inside Begun) stands = tt
    by_point (Inside (AssigningId explicit)) stands = omega arith
    by_point (Inside Committing) stands = omega arith
    by_point (Inside RollingBack) stands = omega arith
    by_point (Inside Issuing) stands = omega arith
    by_point (Inside Keeping) stands = tt
    by_point (Inside Looking) stands = omega arith
    by_point (Inside (Found def part fresh)) stands = stands.2.1
    by_point (Inside (Made def true)) stands = omega arith
    by_point (Inside (Made def false)) stands = stands.2.1
    by_point (Inside (LacksIndex def)) stands = omega arith
    by_point (Inside (GoingBack seq passed)) stands = at_back y.running w.x.open_one passed w.runs
    by_point (Inside (Replied r)) stands = omega arith
    by_point (Inside (GivingBack r)) stands = omega arith
    by_point (Inside (Answers a)) stands = at_answer y.running w.x.open_one w.runs
    by_point Leaving stands = at_leave y.running w.x.open_one w.runs
    by_point Over stands = tt

    pub need_within : (i : ℕ) → need_of y ≡ need.Cell i → i < cell_count
    need_within i e = subst IsCell e (by_point y.point w.stands)
