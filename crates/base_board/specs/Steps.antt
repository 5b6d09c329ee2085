-- The five kinds of step that change a board: its words, its slots, and what is known of its seats. In each
-- `s` is the board before the step and `t` the board after it.
use Rattle.std.specs.Prelude.{◌≡◌, ◌≢◌, ℕ, ◌+◌, ◌-◌, ◌<◌, List, [], ◌∷◌, ◌++◌, length, Option, Some, slice_index_or, slice_set}
use mathlib.Core.Option.{some, none}
use lib.ListN.{get_elem?}
use Rattle.atomic_table.specs.Table.{State}
use Rattle.base_board.specs.declared.view.SeatView.{SeatView}
use Rattle.base_board.specs.Outs.{AllBelow}
use Rattle.base_board.specs.Stands.{seat_view}

-- a seat takes cell i, which is at home and above those that the seat has out: its word is marked, and its
-- slot is empty
pub record TakesCell {C S : Type 0} (s t : State (Option C) (SeatView C S)) : Type 0 where
  pub j : ℕ
  pub v : SeatView C S
  pub i : ℕ
  pub c : C
  pub mark : ℕ
  pub at : get_elem? s.views j ≡ some v
  pub some_part : 0 < v.parts
  pub below : AllBelow i v.out
  pub inside : i < length s.homes
  pub home : slice_index_or s.words i 0 ≡ 0
  pub here : get_elem? s.homes i ≡ some (some (Some c))
  pub marks : mark ≢ 0
  pub after : t ≡ record {
    words = slice_set s.words i mark;
    homes = slice_set s.homes i none;
    views = slice_set s.views j (seat_view v.state v.parts ((i, c) ∷ v.out));
  }

-- a seat finds that cell i is out: only the mark of its word changes
pub record MissesCell {C S : Type 0} (s t : State (Option C) (SeatView C S)) : Type 0 where
  pub i : ℕ
  pub mark : ℕ
  pub inside : i < length s.homes
  pub away : slice_index_or s.words i 0 ≢ 0
  pub marks : mark ≢ 0
  pub after : t ≡ record { words = slice_set s.words i mark; homes = s.homes; views = s.views }

-- a seat gives cell i back, the last that it took, with the value c, and knows u from then on: a visit that
-- it may make
pub record GivesCell {C S : Type 0} (may : S → List (ℕ × C) → ℕ → C → S → Type 0)
    (s t : State (Option C) (SeatView C S)) : Type 0 where
  pub j : ℕ
  pub v : SeatView C S
  pub i : ℕ
  pub old : C
  pub others : List (ℕ × C)
  pub c : C
  pub u : S
  pub at : get_elem? s.views j ≡ some v
  pub some_part : 0 < v.parts
  pub inside : i < length s.homes
  pub held : v.out ≡ (i, old) ∷ others
  pub allowed : may v.state v.out i c u
  pub after : t ≡ record {
    words = slice_set s.words i 0;
    homes = slice_set s.homes i (some (Some c));
    views = slice_set s.views j (seat_view u v.parts others);
  }

-- a seat gives n of its parts to a new one, which comes last, and keeps at least one
pub record SplitsSeat {C S : Type 0} (kept split_off : S → ℕ → S)
    (s t : State (Option C) (SeatView C S)) : Type 0 where
  pub j : ℕ
  pub v : SeatView C S
  pub n : ℕ
  pub at : get_elem? s.views j ≡ some v
  pub given : 0 < n
  pub left : n < v.parts
  pub after : t ≡ record {
    words = s.words;
    homes = s.homes;
    views = slice_set s.views j (seat_view (kept v.state n) (v.parts - n) v.out) ++ seat_view (split_off v.state n) n [] ∷ [];
  }

-- a seat takes in another, which has no cell out and may end, and of which nothing is left
pub record JoinsSeat {C S : Type 0} (may_end : S → Type 0) (joined : S → S → S) (nobody : S)
    (s t : State (Option C) (SeatView C S)) : Type 0 where
  pub j : ℕ
  pub v : SeatView C S
  pub k : ℕ
  pub w : SeatView C S
  pub at : get_elem? s.views j ≡ some v
  pub other : get_elem? s.views k ≡ some w
  pub apart : k ≢ j
  pub some_part : 0 < v.parts
  pub idle : w.out ≡ []
  pub ends : may_end w.state
  pub after : t ≡ record {
    words = s.words;
    homes = s.homes;
    views = slice_set (slice_set s.views j (seat_view (joined v.state w.state) (v.parts + w.parts) v.out)) k (seat_view nobody 0 []);
  }
