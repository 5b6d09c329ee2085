-- The nodes of a tree, level by level.
use Rattle.std.specs.Prelude.{ℕ, List, [], ◌∷◌, ◌++◌}

-- the nodes above some nodes: each two are joined, and a last one alone stays as it is
abbrev pub level_above : (List ℕ → List ℕ) → List (List ℕ) → List (List ℕ)
level_above h [] = []
level_above h (a ∷ []) = a ∷ []
level_above h (a ∷ b ∷ nodes) = h (1 ∷ a ++ b) ∷ level_above h nodes
