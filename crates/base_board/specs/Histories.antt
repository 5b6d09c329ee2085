-- Any list of visits, splits and joins of any seats, as a world allows them.
use Rattle.std.specs.Prelude.{◌≡◌, ◌≢◌, ℕ, ◌<◌, List, [], ◌∷◌, ◌++◌, slice_set}
use mathlib.Core.Option.{some}
use lib.ListN.{get_elem?}
use Rattle.base_board.specs.Outs.{OutsAreIn}

-- A visit has the seat's number, what the seat knew, what it had out, the cell's number, what it left there
-- and what it then knew;
-- a split the seat's number, what it knew and the parts it gave away; a join the numbers of both seats and
-- what they knew.
pub data BoardEvent (C S : Type 0) : Type 0 where
  visit : ℕ → S → List (ℕ × C) → ℕ → C → S → BoardEvent C S
  split : ℕ → S → ℕ → BoardEvent C S
  join : ℕ → ℕ → S → S → BoardEvent C S

module _ {C S : Type 0} (may : S → List (ℕ × C) → ℕ → C → S → Type 0) (kept split_off : S → ℕ → S)
    (may_end : S → Type 0) (joined : S → S → S) (nobody : S) where
  -- each event is allowed where it comes, and all of them lead from these cells and seats to those
  abbrev pub Leads : List (BoardEvent C S) → List C → List S → List C → List S → Type 0
  Leads [] cells seats cells' seats' = (cells' ≡ cells) × (seats' ≡ seats)
  Leads (visit j s out i c t ∷ es) cells seats cells' seats' =
      (get_elem? seats j ≡ some s) × OutsAreIn cells out × may s out i c t
      × Leads es (slice_set cells i c) (slice_set seats j t) cells' seats'
  Leads (split j s n ∷ es) cells seats cells' seats' =
      (get_elem? seats j ≡ some s) × (0 < n)
      × Leads es cells (slice_set seats j (kept s n) ++ split_off s n ∷ []) cells' seats'
  Leads (join j k s t ∷ es) cells seats cells' seats' =
      (get_elem? seats j ≡ some s) × (get_elem? seats k ≡ some t) × (k ≢ j) × may_end t
      × Leads es cells (slice_set (slice_set seats j (joined s t)) k nobody) cells' seats'
