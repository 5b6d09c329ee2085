-- Lists in pieces that hold at most so many items each.
use Rattle.std.specs.Prelude.{◌≡◌, ℕ, zero, suc, List, [], ◌∷◌, ◌++◌, length, take, drop, slice_get, Option, Some, None}

module _ {X : Type 0} where
  -- the items of the pieces, one behind the other
  unfoldable pub flat : List (List X) → List X
  flat [] = []
  flat (p ∷ ps) = p ++ flat ps

module _ {X : Type 0} (size : ℕ) where
  -- so many pieces with these items in them, the first ones full
  unfoldable pub pieces_of : ℕ → List X → List (List X)
  pieces_of zero xs = []
  pieces_of (suc n) xs = take size xs ∷ pieces_of n (drop size xs)

  -- all pieces are full up to one that isn't, and those behind it are empty
  unfoldable pub IsPacked : List (List X) → Type 0
  IsPacked ps = ps ≡ pieces_of (length ps) (flat ps)

  -- the pieces after an item, if there is one, is put before those of the first: a full one gives up its last
  unfoldable pub carried : Option X → List (List X) → List (List X)
  carried None ps = ps
  carried (Some x) [] = []
  carried (Some x) (p ∷ ps) = take size (x ∷ p) ∷ carried (slice_get (x ∷ p) size) ps

  -- the pieces p and ps after each has got the first item of the next, up to an empty one
  unfoldable pub filled_from : List X → List (List X) → List (List X)
  filled_from p [] = p ∷ []
  filled_from p (q ∷ ps) =
      elim (slice_get q 0) [
        | None ↦ p ∷ q ∷ ps
        | Some x ↦ take size (p ++ x ∷ []) ∷ filled_from (drop 1 q) ps
      ]

  unfoldable pub filled : List (List X) → List (List X)
  filled [] = []
  filled (p ∷ ps) = filled_from p ps
