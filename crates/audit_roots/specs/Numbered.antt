-- Numbers in a row.
use Rattle.std.specs.Prelude.{ℕ, ◌+◌, ◌==◌, ◌&&◌, Bool, true, List, [], ◌∷◌}

-- they are the numbers from i on
abbrev pub is_range : ℕ → List ℕ → Bool
is_range i [] = true
is_range i (n ∷ ns) = (n == i) && is_range (i + 1) ns
