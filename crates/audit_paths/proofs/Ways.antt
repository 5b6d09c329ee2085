-- What is hashed on a way is hashed on a longer one, and the way of a place in some leaves goes along nodes of their tree.
use Rattle.std.proofs.Common.{◌≡◌, ◌≤◌, ◌⊎◌, ℕ, Bool, true, false, List, [], ◌∷◌, ◌++◌, length, refl, arith, ◌∙◌, ap, subst, inl, inr}
use Rattle.base_merkle.specs.TreeHash.{tree_hash}
use Rattle.audit_extract.specs.Collisions.{IsAtNode}
use Rattle.audit_extract.specs.Hashed.{half, hashed}
use Rattle.audit_extract.proofs.Collisions.{node_of_half}
use Rattle.audit_paths.specs.Hashed.{IsOnWay, IsHashedOver}
use Rattle.audit_paths.specs.Path.{Step, node_of, climbed, root_over}

module _ (h : List ℕ → List ℕ) where
  shorter : (hash : List ℕ) (ss : List Step) (s : Step) (x : List ℕ) → IsOnWay h hash ss x → IsOnWay h hash (ss ++ s ∷ []) x
  shorter hash [] s x on = absurd on
  shorter hash (t ∷ ss) s x (inl is) = inl is
  shorter hash (t ∷ ss) s x (inr on) = inr (shorter (h (node_of t hash)) ss s x on)

  last : (hash : List ℕ) (ss : List Step) (s : Step) → IsOnWay h hash (ss ++ s ∷ []) (node_of s (climbed h hash ss))
  last hash [] s = inl refl
  last hash (t ∷ ss) s = inr (last (h (node_of t hash)) ss s)

  pub on_shorter : (leaf : List ℕ) (ss : List Step) (s : Step) (x : List ℕ) → IsHashedOver h leaf ss x → IsHashedOver h leaf (ss ++ s ∷ []) x
  on_shorter leaf ss s x (inl is) = inl is
  on_shorter leaf ss s x (inr on) = inr (shorter (h (0 ∷ leaf)) ss s x on)

  pub on_last : (leaf : List ℕ) (ss : List Step) (s : Step) → IsHashedOver h leaf (ss ++ s ∷ []) (node_of s (root_over h leaf ss))
  on_last leaf ss s = inr (last (h (0 ∷ leaf)) ss s)

  -- what is hashed on a way of one step more is the last node, or on the way without it
  split_way : (hash : List ℕ) (ss : List Step) (s : Step) (x : List ℕ) → IsOnWay h hash (ss ++ s ∷ []) x → IsOnWay h hash ss x ⊎ (x ≡ node_of s (climbed h hash ss))
  split_way hash [] s x (inl is) = inr is
  split_way hash [] s x (inr on) = absurd on
  split_way hash (t ∷ ss) s x (inl is) = inl (inl is)
  split_way hash (t ∷ ss) s x (inr on) = by (split_way (h (node_of t hash)) ss s x on)
    where
      by : IsOnWay h (h (node_of t hash)) ss x ⊎ (x ≡ node_of s (climbed h (h (node_of t hash)) ss)) → IsOnWay h hash (t ∷ ss) x ⊎ (x ≡ node_of s (climbed h hash (t ∷ ss)))
      by (inl on) = inl (inr on)
      by (inr is) = inr is

  pub split_last : (leaf : List ℕ) (ss : List Step) (s : Step) (x : List ℕ) → IsHashedOver h leaf (ss ++ s ∷ []) x → IsHashedOver h leaf ss x ⊎ (x ≡ node_of s (root_over h leaf ss))
  split_last leaf ss s x (inl is) = inl (inl is)
  split_last leaf ss s x (inr on) = by (split_way (h (0 ∷ leaf)) ss s x on)
    where
      by : IsOnWay h (h (0 ∷ leaf)) ss x ⊎ (x ≡ node_of s (root_over h leaf ss)) → IsHashedOver h leaf ss x ⊎ (x ≡ node_of s (root_over h leaf ss))
      by (inl on) = inl (inr on)
      by (inr is) = inr is

  -- ---- nodes of a tree

  pub hashed_two : (leaves : List (List ℕ)) → 2 ≤ length leaves → hashed h leaves ≡ 1 ∷ tree_hash h (half true leaves) ++ tree_hash h (half false leaves)
  hashed_two [] more = absurd (omega (arith, more))
  hashed_two (x ∷ []) more = absurd (omega (arith, more))
  hashed_two (x ∷ y ∷ leaves) more = refl

  -- a way that goes along nodes of one half, and then to the node above both
  pub node_above : (side : Bool) (leaf : List ℕ) (ss steps : List Step) (s : Step) (part leaves : List (List ℕ)) → part ≡ half side leaves → steps ≡ ss ++ s ∷ [] → node_of s (root_over h leaf ss) ≡ hashed h leaves
      → ((x : List ℕ) → IsHashedOver h leaf ss x → IsAtNode h part x) → (x : List ℕ) → IsHashedOver h leaf steps x → IsAtNode h leaves x
  node_above side leaf ss steps s part leaves part_is steps_are top below x on = by (split_last leaf ss s x (subst (λ (ts : List Step). IsHashedOver h leaf ts x) steps_are on))
    where
      by : IsHashedOver h leaf ss x ⊎ (x ≡ node_of s (root_over h leaf ss)) → IsAtNode h leaves x
      by (inl lower) = node_of_half h side leaves x (subst (λ (ls : List (List ℕ)). IsAtNode h ls x) part_is (below x lower))
      by (inr is) = record { path = []; is = is ∙ top }

  pub leaf_alone : (leaf : List ℕ) (leaves : List (List ℕ)) → leaf ∷ [] ≡ leaves → (x : List ℕ) → IsHashedOver h leaf [] x → IsAtNode h leaves x
  leaf_alone leaf leaves same x (inl is) = record { path = []; is = is ∙ ap (hashed h) same }
  leaf_alone leaf leaves same x (inr on) = absurd on
