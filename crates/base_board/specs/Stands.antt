-- The rule of the board, and what each of its steps tells.
-- Word i is 0 where cell i is at home. It is 1 where the cell is out, and 2 where it is out and a thread may
-- wait for it.
use Rattle.std.specs.Prelude.{◌≡◌, ◌≢◌, ℕ, ◌<◌, ◌⊎◌, List, [], ◌∷◌, map, length, sum_by, Option, Some, None, slice_index_or}
use mathlib.Core.Option.{some}
use mathlib.Core.Option as maybe
use lib.ListN.{get_elem?}
use Rattle.atomic_table.specs.Table.{State, Me, Step, rest}
use Rattle.atomic_table.specs.Seated.{TableId}
use Rattle.base_board.specs.declared.view.SeatView.{SeatView}
use Rattle.base_board.specs.Outs.{OutsAreIn, IsRising}

-- the first is the table of a seat, the second the table that has a word and a slot i, and both are one
abbrev pub FitsCell : TableId → TableId → ℕ → Type 0
FitsCell seat table i = (seat ≡ table) × (i < table.slots) × (table.words ≡ table.slots)

-- a seat of the table: its view, and the slots that are out with it
abbrev pub Carrier : Type 0 → Type 0 → Type 0
Carrier C S = Me (Option C) (SeatView C S)

module _ {C : Type 0} where
  -- cell i is in its slot
  abbrev pub IsHome : List ℕ → List (maybe.Option (Option C)) → List C → ℕ → Type 0
  IsHome words homes cells i = (slice_index_or words i 0 ≡ 0)
      × ((c : C) × (get_elem? cells i ≡ some c) × (get_elem? homes i ≡ some (some (Some c))))

  -- the slots that are out with a seat: each holds nothing while its cell is with the caller
  abbrev pub vacated : List (ℕ × C) → List (ℕ × Option C)
  vacated [] = []
  vacated (x ∷ xs) = (x.0, None) ∷ vacated xs

module _ {C S : Type 0} where
  abbrev pub seat_view : S → ℕ → List (ℕ × C) → SeatView C S
  seat_view s n xs = record { state = s; parts = n; out = xs }

  abbrev pub state_of : SeatView C S → S
  state_of v = v.state

  abbrev pub parts_of : SeatView C S → ℕ
  parts_of v = v.parts

  -- the seat has cell i out
  abbrev pub HasOut : ℕ → SeatView C S → Type 0
  HasOut i v = (k : ℕ) × (c : C) × (get_elem? v.out k ≡ some (i, c))

  -- cell i is out with the seat that has the number `owner`
  abbrev pub IsAway : List ℕ → List (SeatView C S) → ℕ → ℕ → Type 0
  IsAway words views owner i = (slice_index_or words i 0 ≢ 0)
      × ((v : SeatView C S) × (get_elem? views owner ≡ some v) × HasOut i v)

  -- what seat j has out stands among the cells, was taken in rising order, is away, and is with this seat
  -- alone
  abbrev pub Sits : List ℕ → List C → (ℕ → ℕ) → ℕ → SeatView C S → Type 0
  Sits words cells owner j v = OutsAreIn cells v.out × IsRising v.out
      × ((i : ℕ) → HasOut i v → (slice_index_or words i 0 ≢ 0) × (owner i ≡ j))

  -- n cells and some seats stand together: these that are out are among the cells, and this seat is among the
  -- seats
  abbrev pub StandTogether : (List C → List S → Type 0) → ℕ → S → List (ℕ × C) → Type 0
  StandTogether stand n state out = (cells : List C) × (seats : List S) × (j : ℕ)
      × stand cells seats × (get_elem? seats j ≡ some state) × OutsAreIn cells out × (length cells ≡ n)

  -- the cell was taken, or it was away
  abbrev pub took : (List C → List S → Type 0) → Step (Option C) → Carrier C S → ℕ → Carrier C S → Type 0
  took stand st m n m' =
      (n ≡ 0 → (c : C)
      × (m' ≡ (seat_view m.0.state m.0.parts ((st.word, c) ∷ m.0.out), (st.word, Some c) ∷ m.1))
      × StandTogether stand st.slots m'.0.state m'.0.out)
      × (n ≢ 0 → m' ≡ m)

  -- the last cell was given back, and this holds of what the seat knows then
  abbrev pub gave : (S → Type 0) → Step (Option C) → Carrier C S → ℕ → Carrier C S → Type 0
  gave after st m n m' = (t : S) × after t × (m' ≡ (seat_view t m.0.parts (rest m.0.out), rest m.1))

-- The rule, which holds between any two steps. It has the cells, those out as they were when they were taken,
-- and for each cell that is out the number of its seat.
pub record Stands {C S : Type 0} (stand : List C → List S → Type 0) (nobody : S) (parts : ℕ)
    (s : State (Option C) (SeatView C S)) : Type 0 where
  pub cells : List C
  pub owner : ℕ → ℕ
  -- there are as many words and cells as slots
  pub wide : length s.words ≡ length s.homes
  pub long : length cells ≡ length s.homes
  -- each cell is at home or with one seat
  pub each_cell : (i : ℕ) → i < length s.homes
      → IsHome s.words s.homes cells i ⊎ IsAway s.words s.views (owner i) i
  pub each_seat : (j : ℕ) (v : SeatView C S) → get_elem? s.views j ≡ some v → Sits s.words cells owner j v
  -- cells and seats stand together
  pub kept : stand cells (map state_of s.views)
  -- the parts are those of the start, and a seat without any is spent
  pub summed : sum_by parts_of s.views ≡ parts
  pub spent : (j : ℕ) (v : SeatView C S) → get_elem? s.views j ≡ some v → v.parts ≡ 0
      → (v.state ≡ nobody) × (v.out ≡ [])
