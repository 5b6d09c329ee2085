-- Nodes over a list of leaves: complete trees, each at least as large as all behind it together.
use Rattle.std.specs.Prelude.{◌≡◌, ◌≤◌, ◌+◌, ◌^◌, ℕ, List, [], ◌∷◌, ◌++◌, length}
use Rattle.base_merkle.specs.TreeHash.{tree_hash}
use Rattle.base_merkle.specs.declared.node.Node.{Node}

-- the node of these leaves, whose number is a power of two
pub record IsNode (h : List ℕ → List ℕ) (n : Node) (leaves : List (List ℕ)) : Type 0 where
  pub height : ℕ
  pub power : length leaves ≡ 2 ^ height
  pub size : n.size ≡ length leaves
  pub hash : n.hash ≡ tree_hash h leaves

-- the nodes of these leaves; behind each node come at most as many leaves as it has, with `more` yet to come
abbrev pub IsStack : (List ℕ → List ℕ) → List Node → List (List ℕ) → ℕ → Type 0
IsStack h [] leaves more = leaves ≡ []
IsStack h (n ∷ ns) leaves more =
    (front : List (List ℕ)) × (rest : List (List ℕ)) × (leaves ≡ front ++ rest) × IsNode h n front
    × (length rest + more ≤ length front) × IsStack h ns rest more

-- the root over some nodes: each is joined with the root over those behind it
abbrev pub stack_root : (List ℕ → List ℕ) → List Node → List ℕ
stack_root h [] = h []
stack_root h (n ∷ []) = n.hash
stack_root h (n ∷ next ∷ ns) = h (1 ∷ n.hash ++ stack_root h (next ∷ ns))
