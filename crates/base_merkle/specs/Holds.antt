-- Which leaves a tree has. A tree does not keep its leaves, so it is related to them.
use Rattle.std.specs.Prelude.{◌≡◌, ◌<◌, ◌+◌, ◌^◌, ℕ, List, length}
use Rattle.base_merkle.specs.Stack.{IsStack}
use Rattle.base_merkle.specs.declared.frontier.Frontier.{Frontier}
use Rattle.base_merkle.specs.declared.frontier.FrontierMark.{FrontierMark}

-- the tree hashes by h and has these leaves
pub record Holds {H : Type 0} (digest : H → List ℕ → List ℕ)
    (h : H) (f : Frontier H) (leaves : List (List ℕ)) : Type 0 where
  pub hasher : f.hasher ≡ h
  pub count : f.count ≡ length leaves
  pub nodes : IsStack (digest h) f.nodes.items leaves 1

-- the tree has fewer than 2^63 - 1 leaves, so one more may come
abbrev pub MayAddLeaf : {H : Type 0} → (H → List ℕ → List ℕ) → Frontier H → Type 0
MayAddLeaf {H} digest f =
    (h : H) × (leaves : List (List ℕ)) × Holds digest h f leaves × (length leaves + 1 < 2 ^ 63)

-- the mark is of a tree that hashes by h and had these leaves
pub record Marks (h : List ℕ → List ℕ) (mark : FrontierMark) (leaves : List (List ℕ)) : Type 0 where
  pub count : mark.count ≡ length leaves
  pub nodes : IsStack h mark.nodes.items leaves 1
