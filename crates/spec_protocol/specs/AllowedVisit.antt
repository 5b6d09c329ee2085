-- What a seat may do, in the form in which a board asks for it.
use Rattle.std.specs.Prelude.{ℕ, ◌≡◌, List, [], ◌∷◌}
use mathlib.Core.Option.{some}
use lib.ListN.{get_elem?}
use Rattle.spec_protocol.specs.Server.{Server}
use Rattle.spec_protocol.specs.Cells.{Cell, Ledger}
use Rattle.spec_protocol.specs.Seats.{SeatState, idle_seat, nobody}
use Rattle.spec_protocol.specs.Alone.{Alones}
use Rattle.spec_protocol.specs.Visits.{Visit, Happens}

-- the cells that are out are as they were when they were taken: nobody else changes them
abbrev pub OutsAreIn : List Cell → List (ℕ × Cell) → Type 0
OutsAreIn cells [] = Unit {0}
OutsAreIn cells (x ∷ xs) = (get_elem? cells x.0 ≡ some x.1) × OutsAreIn cells xs

-- In this order: what is known of the seat, the cells that it has out, as they were when they were taken and
-- the last one first, the number of the cell that is given back, what is left in it, and what is known of the
-- seat from then on. What the seat does before and after by itself is part of the visit.
pub record AllowedVisit (v : Server) (s : SeatState) (out : List (ℕ × Cell)) (i : ℕ) (c : Cell)
    (t : SeatState) : Type 0 where
  pub visit : Visit
  pub old : Cell
  pub rest : List (ℕ × Cell)
  pub is_out : out ≡ (i, old) ∷ rest
  pub begun : SeatState
  pub before : Alones v s begun
  pub ended : SeatState
  pub happens : Happens v out visit old begun c ended
  pub after : Alones v ended t

-- the first seat is idle, with the database and the block size of the ledger's cell
abbrev pub first_seat : List Cell → SeatState
first_seat (_ ∷ Ledger c ∷ _) = idle_seat c.database c.block_size 0 []
first_seat _ = nobody
