-- The Merkle tree hash of RFC 6962, section 2.1, over any hash h. `tree_hash_law` has the section's own
-- equations.
use Rattle.std.specs.Prelude.{ℕ, zero, suc, ◌*◌, List, [], ◌∷◌, ◌++◌, length, take, drop, nat_lt, if◌then◌else◌}

-- the largest power of two smaller than n, for n above 1
abbrev pub split_of : ℕ → ℕ
split_of zero = 1
split_of (suc n) = if nat_lt (2 * split_of n) (suc n) then 2 * split_of n else split_of n

-- the tree hash of leaves that are split at most so many times on a path; the third case is then never met
abbrev pub tree_hash_within : (List ℕ → List ℕ) → ℕ → List (List ℕ) → List ℕ
tree_hash_within h depth [] = h []
tree_hash_within h depth (leaf ∷ []) = h (0 ∷ leaf)
tree_hash_within h zero (leaf ∷ next ∷ leaves) = h []
tree_hash_within h (suc depth) (leaf ∷ next ∷ leaves) =
    let all = leaf ∷ next ∷ leaves in
    let k = split_of (length all) in
    h (1 ∷ tree_hash_within h depth (take k all) ++ tree_hash_within h depth (drop k all))

-- the tree hash of a list of leaves
abbrev pub tree_hash : (List ℕ → List ℕ) → List (List ℕ) → List ℕ
tree_hash h leaves = tree_hash_within h (length leaves) leaves
