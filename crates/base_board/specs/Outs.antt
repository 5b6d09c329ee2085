-- Cells that are out with a seat: each with its number, as it was when it was taken, the last taken first.
use Rattle.std.specs.Prelude.{◌≡◌, ℕ, ◌+◌, ◌<◌, List, [], ◌∷◌}
use mathlib.Core.Option.{some}
use lib.ListN.{get_elem?}
pub use Rattle.atomic_table.specs.Table.{rest}

-- each of them stands at its place among the cells
abbrev pub OutsAreIn : {C : Type 0} → List C → List (ℕ × C) → Type 0
OutsAreIn cells [] = Unit {0}
OutsAreIn cells (x ∷ xs) = (get_elem? cells x.0 ≡ some x.1) × OutsAreIn cells xs

-- each of them has a number below n
abbrev pub AllBelow : {C : Type 0} → ℕ → List (ℕ × C) → Type 0
AllBelow n [] = Unit {0}
AllBelow n (x ∷ xs) = (x.0 < n) × AllBelow n xs

-- they were taken in rising order
abbrev pub IsRising : {C : Type 0} → List (ℕ × C) → Type 0
IsRising [] = Unit {0}
IsRising (x ∷ xs) = AllBelow x.0 xs × IsRising xs

-- the last that was taken has the number i
abbrev pub IsLastOut : {C : Type 0} → ℕ → List (ℕ × C) → Type 0
IsLastOut i [] = ⊥
IsLastOut i (x ∷ xs) = x.0 ≡ i

-- all of these are out, from the number n on, the last first, above those that were out before
abbrev pub all_out : {C : Type 0} → ℕ → List C → List (ℕ × C) → List (ℕ × C)
all_out n [] out = out
all_out n (c ∷ cs) out = all_out (n + 1) cs ((n, c) ∷ out)
