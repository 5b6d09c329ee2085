-- The bytes whose hash is the tree hash of some leaves, and the leaves under a node.
use Rattle.std.specs.Prelude.{ℕ, Bool, true, false, List, [], ◌∷◌, ◌++◌, length, take, drop}
use Rattle.base_merkle.specs.TreeHash.{tree_hash, split_of}

-- of no leaves none; of one leaf a zero byte and the leaf; of more a one byte and the tree hashes of the two
-- halves
abbrev pub hashed : (List ℕ → List ℕ) → List (List ℕ) → List ℕ
hashed h [] = []
hashed h (leaf ∷ []) = 0 ∷ leaf
hashed h (leaf ∷ next ∷ leaves) =
    let all = leaf ∷ next ∷ leaves in
    let k = split_of (length all) in
    1 ∷ tree_hash h (take k all) ++ tree_hash h (drop k all)

-- the first half of some leaves, as the tree parts them, or the second
abbrev pub half : Bool → List (List ℕ) → List (List ℕ)
half true leaves = take (split_of (length leaves)) leaves
half false leaves = drop (split_of (length leaves)) leaves

-- the leaves under the node to which a path leads, half by half
abbrev pub under : List Bool → List (List ℕ) → List (List ℕ)
under [] leaves = leaves
under (first ∷ path) leaves = under path (half first leaves)
