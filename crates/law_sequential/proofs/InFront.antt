-- Steps of seats are steps of the same seats with another one in front, which takes no part in them.
use Rattle.std.proofs.Common.{◌≡◌, ℕ, zero, suc, List, ◌∷◌, ◌++◌, refl, ap, ap₂, subst, arith}
use mathlib.Core.Option.{some-injective}
use Rattle.spec_history.specs.Inputs.{InputLine}
use Rattle.spec_protocol.specs.AnonymousActs.{AnonymousAct, step_anonymous_acts, steps_anonymous_acts}
use Rattle.spec_protocol.specs.Cells.{Cell}
use Rattle.spec_protocol.specs.Follows.{step_lines, steps_lines}
use Rattle.spec_protocol.specs.InactiveExcept.{IsInactive, InactiveExcept}
use Rattle.spec_protocol.specs.OneByOne.{IsOneAlone, OneByOne}
use Rattle.spec_protocol.specs.Seats.{IsAtRest, Role, session, SeatState}
use Rattle.spec_protocol.specs.Server.{Server}
use Rattle.spec_protocol.specs.Steps as step
use Rattle.spec_protocol.specs.Steps.{Step, Steps}

pub rests_inactive : (r : Role) → IsAtRest r → IsInactive r
rests_inactive (session x) h = absurd h
rests_inactive r h = tt

module _ (x : SeatState) (v : Server) where
  abbrev behind : List SeatState → List SeatState
  behind seats = x ∷ seats

  abbrev pub step_behind : (cells then_cells : List Cell) (seats then_seats : List SeatState) → Step v cells seats then_cells then_seats → Step v cells (x ∷ seats) then_cells (x ∷ then_seats)
  step_behind cells then_cells seats then_seats (step.alone j s t there how same are) = step.alone (suc j) s t there how same (ap behind are)
  step_behind cells then_cells seats then_seats (step.visits w) = step.visits (record {
    j = suc w.j;
    s = w.s;
    is_seat = w.is_seat;
    out = w.out;
    are_out = w.are_out;
    i = w.i;
    c = w.c;
    t = w.t;
    may = w.may;
    cells_are = w.cells_are;
    seats_are = ap behind w.seats_are;
  })
  step_behind cells then_cells seats then_seats (step.splits j n s there same are) = step.splits (suc j) n s there same (ap behind are)
  step_behind cells then_cells seats then_seats (step.joins j k s t there there_k apart ends same are) = step.joins (suc j) (suc k) s t there there_k (λ e. apart (omega (arith, e))) ends same (ap behind are)

  abbrev pub all_behind : (cells : List Cell) (seats : List SeatState) (then_cells : List Cell) (then_seats : List SeatState) → Steps v cells seats then_cells then_seats → Steps v cells (x ∷ seats) then_cells (x ∷ then_seats)
  all_behind cells seats _ _ step.none = step.none
  all_behind cells seats _ _ (step.more {between_cells} {between_seats} {then_cells} {then_seats} steps last) =
      step.more (all_behind cells seats between_cells between_seats steps) (step_behind between_cells then_cells between_seats then_seats last)

  -- the same is done

  same_step : (cells then_cells : List Cell) (seats then_seats : List SeatState) (s : Step v cells seats then_cells then_seats) → step_anonymous_acts (step_behind cells then_cells seats then_seats s) ≡ step_anonymous_acts s
  same_step cells then_cells seats then_seats (step.alone j s t there how same are) = refl
  same_step cells then_cells seats then_seats (step.visits w) = refl
  same_step cells then_cells seats then_seats (step.splits j n s there same are) = refl
  same_step cells then_cells seats then_seats (step.joins j k s t there there_k apart ends same are) = refl

  pub same_acts : (cells : List Cell) (seats : List SeatState) (then_cells : List Cell) (then_seats : List SeatState) (steps : Steps v cells seats then_cells then_seats) → steps_anonymous_acts (all_behind cells seats then_cells then_seats steps) ≡ steps_anonymous_acts steps
  same_acts cells seats _ _ step.none = refl
  same_acts cells seats _ _ (step.more {between_cells} {between_seats} {then_cells} {then_seats} steps last) =
      ap₂ (λ (ds es : List AnonymousAct). ds ++ es) (same_acts cells seats between_cells between_seats steps) (same_step between_cells then_cells between_seats then_seats last)

  same_step_lines : (cells then_cells : List Cell) (seats then_seats : List SeatState) (s : Step v cells seats then_cells then_seats) → step_lines (step_behind cells then_cells seats then_seats s) ≡ step_lines s
  same_step_lines cells then_cells seats then_seats (step.alone j s t there how same are) = refl
  same_step_lines cells then_cells seats then_seats (step.visits w) = refl
  same_step_lines cells then_cells seats then_seats (step.splits j n s there same are) = refl
  same_step_lines cells then_cells seats then_seats (step.joins j k s t there there_k apart ends same are) = refl

  pub same_lines : (cells : List Cell) (seats : List SeatState) (then_cells : List Cell) (then_seats : List SeatState) (steps : Steps v cells seats then_cells then_seats) → steps_lines (all_behind cells seats then_cells then_seats steps) ≡ steps_lines steps
  same_lines cells seats _ _ step.none = refl
  same_lines cells seats _ _ (step.more {between_cells} {between_seats} {then_cells} {then_seats} steps last) =
      ap₂ (λ (ks ls : List InputLine). ks ++ ls) (same_lines cells seats between_cells between_seats steps) (same_step_lines between_cells then_cells between_seats then_seats last)

  -- one after another

  module _ (rests : IsAtRest x.role) where
    quiet_behind : (seats : List SeatState) (j : ℕ) → InactiveExcept seats j → InactiveExcept (x ∷ seats) (suc j)
    quiet_behind seats j quiet zero s ne e = subst (λ (u : SeatState). IsInactive u.role) (some-injective x s e) (rests_inactive x.role rests)
    quiet_behind seats j quiet (suc k) s ne e = quiet k s (λ same. ne (ap suc same)) e

    one_behind : (cells then_cells : List Cell) (seats then_seats : List SeatState) (s : Step v cells seats then_cells then_seats) → IsOneAlone s → IsOneAlone (step_behind cells then_cells seats then_seats s)
    one_behind cells then_cells seats then_seats (step.alone j s t there how same are) h = quiet_behind seats j h
    one_behind cells then_cells seats then_seats (step.visits w) h = quiet_behind seats w.j h
    one_behind cells then_cells seats then_seats (step.splits j n s there same are) h = tt
    one_behind cells then_cells seats then_seats (step.joins j k s t there there_k apart ends same are) h = tt

    pub one_by_one_behind : (cells : List Cell) (seats : List SeatState) (then_cells : List Cell) (then_seats : List SeatState) (steps : Steps v cells seats then_cells then_seats) → OneByOne steps → OneByOne (all_behind cells seats then_cells then_seats steps)
    one_by_one_behind cells seats _ _ step.none h = tt
    one_by_one_behind cells seats _ _ (step.more {between_cells} {between_seats} {then_cells} {then_seats} steps last) h =
        (one_by_one_behind cells seats between_cells between_seats steps h.0, one_behind between_cells then_cells between_seats then_seats last h.1)
