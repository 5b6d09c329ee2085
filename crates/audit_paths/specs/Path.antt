-- Audit paths of a tree (RFC 6962, section 2.1.1): from a leaf up, the tree hash of the other half at each split.
use Rattle.std.specs.Prelude.{ℕ, zero, suc, ◌-◌, ◌≡◌, nat_lt, eqb, if◌then◌else◌, List, [], ◌∷◌, ◌++◌, length, take, drop, zip, Option, Some, None}
use Rattle.std.specs.List.{AllByRecursion}
use Rattle.base_merkle.specs.TreeHash.{split_of, tree_hash}
use Rattle.audit_paths.specs.declared.side.Side.{Side}
use Rattle.audit_paths.specs.declared.side.Side.TheVariants as other

-- ---- the path of a place

-- where the halves are parted at most so many times; the first case is then met with one leaf alone
abbrev pub path_within : (List ℕ → List ℕ) → ℕ → ℕ → List (List ℕ) → List (List ℕ)
path_within h zero m leaves = []
path_within h (suc depth) m leaves =
    let k = split_of (length leaves) in
    if nat_lt (length leaves) 2 then []
    else (if nat_lt m k then path_within h depth m (take k leaves) ++ tree_hash h (drop k leaves) ∷ []
    else path_within h depth (m - k) (drop k leaves) ++ tree_hash h (take k leaves) ∷ [])

-- that of place m, counted from 0, of these leaves
abbrev pub audit_path : (List ℕ → List ℕ) → ℕ → List (List ℕ) → List (List ℕ)
audit_path h m leaves = path_within h (length leaves) m leaves

-- ---- the way back

-- on which side the other half stands at each split, from the leaf up
abbrev pub sides_within : ℕ → ℕ → ℕ → List Side
sides_within zero m n = []
sides_within (suc depth) m n =
    let k = split_of n in
    if nat_lt n 2 then []
    else (if nat_lt m k then sides_within depth m k ++ other.Right ∷ []
    else sides_within depth (m - k) (n - k) ++ other.Left ∷ [])

-- for place m of n leaves
abbrev pub sides_of : ℕ → ℕ → List Side
sides_of m n = sides_within n m n

-- a side, and the hash of the half that stands there
abbrev pub Step : Type 0
Step = Side × List ℕ

-- the path of place m of these leaves, and on which side each of its hashes stands
abbrev pub audit_steps : (List ℕ → List ℕ) → ℕ → List (List ℕ) → List Step
audit_steps h m leaves = zip (sides_of m (length leaves)) (audit_path h m leaves)

-- the bytes of a node of which one half has this hash
abbrev pub node_of : Step → List ℕ → List ℕ
node_of (other.Right, p) hash = 1 ∷ hash ++ p
node_of (other.Left, p) hash = 1 ∷ p ++ hash

-- the hash to which some steps lead from this one
abbrev pub climbed : (List ℕ → List ℕ) → List ℕ → List Step → List ℕ
climbed h hash [] = hash
climbed h hash (s ∷ ss) = climbed h (h (node_of s hash)) ss

-- the root that some steps give for a leaf
abbrev pub root_over : (List ℕ → List ℕ) → List ℕ → List Step → List ℕ
root_over h leaf steps = climbed h (h (0 ∷ leaf)) steps

-- the root that a path gives for a leaf at place m of n; none where the path has another length than such a
-- tree gives there
unfoldable pub root_under : (List ℕ → List ℕ) → List (List ℕ) → ℕ → ℕ → List ℕ → Option (List ℕ)
root_under h path m n leaf =
    if eqb (length path) (length (sides_of m n)) then Some (root_over h leaf (zip (sides_of m n) path)) else None

-- two leaves with their paths have one root at place m of n
pub record HaveOneRoot (h : List ℕ → List ℕ) (m n : ℕ) (a : List ℕ) (p : List (List ℕ)) (b : List ℕ) (q : List (List ℕ)) : Type 0 where
  pub root : List ℕ
  pub first : root_under h p m n a ≡ Some root
  pub second : root_under h q m n b ≡ Some root

-- each hash of a path has 32 bytes
abbrev pub AreHashes : List (List ℕ) → Type 0
AreHashes path = AllByRecursion (λ (p : List ℕ). length p ≡ 32) path

abbrev pub AreSteps : List Step → Type 0
AreSteps steps = AllByRecursion (λ (s : Step). length s.1 ≡ 32) steps
