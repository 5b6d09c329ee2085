-- What cells and seats may become, one step after another: what a seat does alone, visits, splits and joins.
use Rattle.std.specs.Prelude.{ℕ, ◌≡◌, ◌≢◌, ◌++◌, List, [], ◌∷◌, slice_set}
use mathlib.Core.Option.{some}
use lib.ListN.{get_elem?}
use Rattle.spec_protocol.specs.Server.{Server}
use Rattle.spec_protocol.specs.Cells.{Cell}
use Rattle.spec_protocol.specs.Seats.{SeatState, kept, split, joined, nobody, may_end}
use Rattle.spec_protocol.specs.Alone.{Alone}
use Rattle.spec_protocol.specs.AllowedVisit.{OutsAreIn, AllowedVisit}

-- a visit of a cell, with what the seat does before and after by itself
pub record Visits (v : Server) (cells : List Cell) (seats : List SeatState) (then_cells : List Cell)
    (then_seats : List SeatState) : Type 0 where
  pub j : ℕ
  pub s : SeatState
  pub is_seat : get_elem? seats j ≡ some s
  pub out : List (ℕ × Cell)
  pub are_out : OutsAreIn cells out
  pub i : ℕ
  pub c : Cell
  pub t : SeatState
  pub may : AllowedVisit v s out i c t
  pub cells_are : then_cells ≡ slice_set cells i c
  pub seats_are : then_seats ≡ slice_set seats j t

pub data Step (v : Server) (cells : List Cell) (seats : List SeatState) (then_cells : List Cell)
    (then_seats : List SeatState) : Type 0 where
  alone : (j : ℕ) (s t : SeatState) → get_elem? seats j ≡ some s → Alone v s t → then_cells ≡ cells
      → then_seats ≡ slice_set seats j t → Step v cells seats then_cells then_seats
  visits : Visits v cells seats then_cells then_seats → Step v cells seats then_cells then_seats
  splits : (j n : ℕ) (s : SeatState) → get_elem? seats j ≡ some s → then_cells ≡ cells
      → then_seats ≡ slice_set seats j (kept s n) ++ split s n ∷ [] → Step v cells seats then_cells then_seats
  joins : (j k : ℕ) (s t : SeatState) → get_elem? seats j ≡ some s → get_elem? seats k ≡ some t → k ≢ j
      → may_end t → then_cells ≡ cells → then_seats ≡ slice_set (slice_set seats j (joined s t)) k nobody
      → Step v cells seats then_cells then_seats

-- any number of steps
pub data Steps (v : Server) (cells : List Cell) (seats : List SeatState) : List Cell → List SeatState
    → Type 0 where
  none : Steps v cells seats cells seats
  more : {between_cells : List Cell} {between_seats : List SeatState}
      {then_cells : List Cell} {then_seats : List SeatState}
      → Steps v cells seats between_cells between_seats
      → Step v between_cells between_seats then_cells then_seats
      → Steps v cells seats then_cells then_seats
