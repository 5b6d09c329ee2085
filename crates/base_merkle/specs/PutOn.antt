-- A node on its way to the end of some nodes.
use Rattle.std.specs.Prelude.{◌≡◌, ◌<◌, ◌+◌, ◌^◌, ℕ, List, ◌++◌, length}
use Rattle.base_merkle.specs.Stack.{IsStack, IsNode}
use Rattle.base_merkle.specs.declared.node.Node.{Node}

-- whatever leaves the nodes and the node had, the new nodes and the carried node have between them
abbrev pub Carries : (List ℕ → List ℕ) → List Node → Node → List Node → Node → Type 0
Carries h old node nodes carry = (leaves d : List (List ℕ)) → length leaves + length d < 2 ^ 63
    → IsStack h old leaves (length d) → IsNode h node d
    → (front : List (List ℕ)) × (e : List (List ℕ)) × (leaves ++ d ≡ front ++ e)
    × IsStack h nodes front (length e) × IsNode h carry e

-- whatever leaves the nodes and the node had, the new nodes have, and one more may come
abbrev pub PutOn : (List ℕ → List ℕ) → List Node → Node → List Node → Type 0
PutOn h old node new = (leaves d : List (List ℕ)) → length leaves + length d < 2 ^ 63
    → IsStack h old leaves (length d) → IsNode h node d → IsStack h new (leaves ++ d) 1
