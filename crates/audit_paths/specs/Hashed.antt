-- The strings of bytes that are hashed on the way from a leaf to the root.
use Rattle.std.specs.Prelude.{ℕ, ◌≡◌, ◌⊎◌, List, [], ◌∷◌, zip}
use Rattle.audit_paths.specs.Path.{Step, node_of, sides_of}

module _ (h : List ℕ → List ℕ) where
  -- it is hashed where some steps lead from a hash: at a node
  abbrev pub IsOnWay : List ℕ → List Step → List ℕ → Type 0
  IsOnWay hash [] x = ⊥
  IsOnWay hash (s ∷ ss) x = (x ≡ node_of s hash) ⊎ IsOnWay (h (node_of s hash)) ss x

  -- where they lead from a leaf: as the leaf, or at a node
  abbrev pub IsHashedOver : List ℕ → List Step → List ℕ → Type 0
  IsHashedOver leaf steps x = (x ≡ 0 ∷ leaf) ⊎ IsOnWay (h (0 ∷ leaf)) steps x

  -- where a path leads from a leaf at place m of n
  abbrev pub IsHashedUnder : List (List ℕ) → ℕ → ℕ → List ℕ → List ℕ → Type 0
  IsHashedUnder path m n leaf x = IsHashedOver leaf (zip (sides_of m n) path) x
