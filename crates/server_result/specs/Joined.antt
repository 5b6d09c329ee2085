-- Texts one behind the other.
use Rattle.std.specs.Prelude.{ℕ, List, [], ◌∷◌, ◌++◌}

abbrev pub joined : List (List ℕ) → List ℕ
joined [] = []
joined (text ∷ texts) = text ++ joined texts

-- those of some lists, one list behind the other
abbrev pub joined_each : List (List (List ℕ)) → List ℕ
joined_each [] = []
joined_each (texts ∷ lists) = joined texts ++ joined_each lists
