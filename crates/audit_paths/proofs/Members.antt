-- Steps that lead from a leaf to a tree hash lead from one of its leaves.
use Rattle.std.proofs.Common.{◌≡◌, ◌≤◌, ◌+◌, ◌⊎◌, ℕ, zero, suc, Bool, true, false, List, [], ◌∷◌, ◌++◌, length, take, drop, Some, refl, arith, sym, ◌∙◌, ap, subst, inl, inr, length-append}
use Rattle.std.specs.List.{slice_get}
use Rattle.base_fields.proofs.Fronts.{fronts}
use Rattle.base_merkle.specs.TreeHash.{split_of, tree_hash}
use Rattle.audit_extract.specs.Collisions.{HasCollisionBetween, IsAtNode}
use Rattle.audit_extract.specs.Hashed.{half, hashed}
use Rattle.audit_extract.proofs.Collisions.{equal_or, node_of_half, or_wider, top_node}
use Rattle.audit_extract.proofs.Halves.{hash_of_hashed}
use Rattle.audit_extract.proofs.Unbroken.{so_far}
use Rattle.audit_paths.specs.declared.side.Side.{Side}
use Rattle.audit_paths.specs.declared.side.Side.TheVariants as other
use Rattle.audit_paths.specs.Hashed.{IsOnWay, IsHashedOver}
use Rattle.audit_paths.specs.Path.{Step, node_of, climbed, root_over, AreSteps}
use Rattle.audit_paths.proofs.Climbing.{behind_first}
use Rattle.audit_paths.proofs.Leading.{climbed_one_more}
use Rattle.audit_paths.proofs.Ways.{on_shorter, on_last}

-- ---- lists

-- a list is empty, or has a last item
abbrev Ends : {A : Type 0} → List A → Type 0
Ends {A} xs = (xs ≡ []) ⊎ ((ys : List A) × (y : A) × (xs ≡ ys ++ y ∷ []))

ends_of : {A : Type 0} (xs : List A) → Ends xs
ends_of [] = inl refl
ends_of {A = A} (x ∷ xs) = by (ends_of xs)
  where
    by : Ends xs → Ends (x ∷ xs)
    by (inl e) = inr ([], x, ap (λ (l : List A). x ∷ l) e)
    by (inr r) = inr (x ∷ r.0, r.1, ap (λ (l : List A). x ∷ l) r.2)

front_steps : (ss : List Step) (s : Step) → AreSteps (ss ++ s ∷ []) → AreSteps ss × (length s.1 ≡ 32)
front_steps [] s h = (tt, h.0)
front_steps (t ∷ ss) s h = let r = front_steps ss s h.1 in ((h.0, r.0), r.1)

abbrev pub IsAmong : List ℕ → List (List ℕ) → Type 0
IsAmong leaf leaves = (k : ℕ) × (slice_get leaves k ≡ Some leaf)

among_taken : (n k : ℕ) (leaf : List ℕ) (leaves : List (List ℕ)) → slice_get (take n leaves) k ≡ Some leaf → slice_get leaves k ≡ Some leaf
among_taken zero k leaf leaves e = cc
among_taken (suc n) k leaf [] e = cc
among_taken (suc n) zero leaf (x ∷ leaves) e = e
among_taken (suc n) (suc k) leaf (x ∷ leaves) e = among_taken n k leaf leaves e

among_left : (n k : ℕ) (leaf : List ℕ) (leaves : List (List ℕ)) → slice_get (drop n leaves) k ≡ Some leaf → slice_get leaves (n + k) ≡ Some leaf
among_left zero k leaf leaves e = let same : 0 + k ≡ k = omega arith in subst (λ (j : ℕ). slice_get leaves j ≡ Some leaf) (sym same) e
among_left (suc n) k leaf [] e = cc
among_left (suc n) k leaf (x ∷ leaves) e =
    let same : suc n + k ≡ suc (n + k) = omega arith in
    subst (λ (j : ℕ). slice_get (x ∷ leaves) j ≡ Some leaf) (sym same) (among_left n k leaf leaves e)

module _ (h : List ℕ → List ℕ) (sized : (bytes : List ℕ) → length (h bytes) ≡ 32) where
  tree_sized : (leaves : List (List ℕ)) → length (tree_hash h leaves) ≡ 32
  tree_sized leaves = rw (hash_of_hashed h leaves) (sized (hashed h leaves))

  climbed_sized : (leaf : List ℕ) (ss : List Step) → length (root_over h leaf ss) ≡ 32
  climbed_sized leaf ss = from (h (0 ∷ leaf)) ss (sized (0 ∷ leaf))
    where
      from : (hash : List ℕ) (ss : List Step) → length hash ≡ 32 → length (climbed h hash ss) ≡ 32
      from hash [] e = e
      from hash (s ∷ ss) e = from (h (node_of s hash)) ss (sized (node_of s hash))

  -- ---- the leaf by itself

  itself : (leaf : List ℕ) (leaves : List (List ℕ)) → 0 ∷ leaf ≡ hashed h leaves → IsAmong leaf leaves
  itself leaf [] e = cc
  itself leaf (x ∷ []) e = let same : leaf ≡ x = cc in (0, ap Some (sym same))
  itself leaf (x ∷ y ∷ leaves) e = cc

  -- ---- one step

  -- the bytes of a node are those of a list of two leaves and more, parted
  pub record Parted (a b : List ℕ) (leaves : List (List ℕ)) : Type 0 where
    pub more : 2 ≤ length leaves
    pub front : a ≡ tree_hash h (take (split_of (length leaves)) leaves)
    pub back : b ≡ tree_hash h (drop (split_of (length leaves)) leaves)

  pub parted : (a b : List ℕ) (leaves : List (List ℕ)) → length a ≡ 32 → 1 ∷ a ++ b ≡ hashed h leaves → Parted a b leaves
  parted a b [] la e = cc
  parted a b (x ∷ []) la e = cc
  parted a b (x ∷ y ∷ ls) la e =
      let all : List (List ℕ) = x ∷ y ∷ ls in
      let front : List ℕ = tree_hash h (take (split_of (length all)) all) in
      let back : List ℕ = tree_hash h (drop (split_of (length all)) all) in
      let r = fronts a front b back (la ∙ sym (tree_sized (take (split_of (length all)) all))) (behind_first 1 1 (a ++ b) (front ++ back) e) in
      record { more = omega arith; front = r.0; back = r.1 }

  -- ---- all steps, the last first

  -- a leaf is one of some leaves, or what is hashed on a way from it collides with what is hashed at a node of these
  abbrev AmongOr : List ℕ → List Step → List (List ℕ) → Type 0
  AmongOr leaf steps leaves = IsAmong leaf leaves ⊎ HasCollisionBetween h (IsHashedOver h leaf steps) (IsAtNode h leaves)

  -- a way has what a shorter one has
  longer : {P : Type 0} (leaf : List ℕ) (ss steps : List Step) (s : Step) (leaves : List (List ℕ)) → steps ≡ ss ++ s ∷ []
      → P ⊎ HasCollisionBetween h (IsHashedOver h leaf ss) (IsAtNode h leaves) → P ⊎ HasCollisionBetween h (IsHashedOver h leaf steps) (IsAtNode h leaves)
  longer leaf ss steps s leaves is =
      or_wider h (IsHashedOver h leaf ss) (IsAtNode h leaves) (IsHashedOver h leaf steps) (IsAtNode h leaves)
      (λ x on. subst (λ (ts : List Step). IsHashedOver h leaf ts x) (sym is) (on_shorter h leaf ss s x on)) (λ x at. at)

  in_half : (side : Bool) (leaf : List ℕ) (steps : List Step) (leaves : List (List ℕ)) → (IsAmong leaf (half side leaves) → IsAmong leaf leaves)
      → AmongOr leaf steps (half side leaves) → AmongOr leaf steps leaves
  in_half side leaf steps leaves among found =
      so_far (λ (a : IsAmong leaf (half side leaves)). inl (among a))
      (or_wider h (IsHashedOver h leaf steps) (IsAtNode h (half side leaves)) (IsHashedOver h leaf steps) (IsAtNode h leaves) (λ x on. on) (node_of_half h side leaves) found)

  abbrev Answers : List ℕ → ℕ → Type 0
  Answers leaf m = (ss : List Step) (leaves : List (List ℕ)) → length ss ≤ m → AreSteps ss → root_over h leaf ss ≡ tree_hash h leaves → AmongOr leaf ss leaves

  alone : (leaf : List ℕ) (steps : List Step) (leaves : List (List ℕ)) → steps ≡ [] → root_over h leaf steps ≡ tree_hash h leaves → AmongOr leaf steps leaves
  alone leaf steps leaves none e =
      so_far (λ (same : 0 ∷ leaf ≡ hashed h leaves). inl (itself leaf leaves same))
      (equal_or h (IsHashedOver h leaf steps) (IsAtNode h leaves) (0 ∷ leaf) (hashed h leaves) (inl refl) (top_node h leaves) (ap (λ (ss : List Step). root_over h leaf ss) (sym none) ∙ e ∙ hash_of_hashed h leaves))

  by_side : (leaf : List ℕ) (m : ℕ) → Answers leaf m → (leaves : List (List ℕ)) (ss : List Step) (s : Side) (p : List ℕ) → length ss ≤ m → AreSteps ss → length p ≡ 32
      → node_of (s, p) (root_over h leaf ss) ≡ hashed h leaves → AmongOr leaf ss leaves
  by_side leaf m before leaves ss other.Right p l fits lp same =
      let r = parted (root_over h leaf ss) p leaves (climbed_sized leaf ss) same in
      in_half true leaf ss leaves (λ x. (x.0, among_taken (split_of (length leaves)) x.0 leaf leaves x.1))
      (before ss (take (split_of (length leaves)) leaves) l fits r.front)
  by_side leaf m before leaves ss other.Left p l fits lp same =
      let r = parted p (root_over h leaf ss) leaves lp same in
      in_half false leaf ss leaves (λ x. (split_of (length leaves) + x.0, among_left (split_of (length leaves)) x.0 leaf leaves x.1))
      (before ss (drop (split_of (length leaves)) leaves) l fits r.back)

  by_end : (leaf : List ℕ) (m : ℕ) → Answers leaf m → (steps : List Step) (leaves : List (List ℕ)) → Ends steps → length steps ≤ suc m → AreSteps steps → root_over h leaf steps ≡ tree_hash h leaves
      → AmongOr leaf steps leaves
  by_end leaf m before steps leaves (inl none) le fit e = alone leaf steps leaves none e
  by_end leaf m before steps leaves (inr r) le fit e =
      let l = length-append r.0 (r.1 ∷ []) in
      let short : length r.0 ≤ m = omega (arith, le, ap length r.2, l) in
      let fits = front_steps r.0 r.1 (subst AreSteps r.2 fit) in
      let top : h (node_of r.1 (root_over h leaf r.0)) ≡ h (hashed h leaves) =
      sym (climbed_one_more h (h (0 ∷ leaf)) r.0 r.1) ∙ ap (λ (ss : List Step). root_over h leaf ss) (sym r.2) ∙ e ∙ hash_of_hashed h leaves in
      let last : IsHashedOver h leaf steps (node_of r.1 (root_over h leaf r.0)) = subst (λ (ts : List Step). IsHashedOver h leaf ts (node_of r.1 (root_over h leaf r.0))) (sym r.2) (on_last h leaf r.0 r.1) in
      so_far (λ (same : node_of r.1 (root_over h leaf r.0) ≡ hashed h leaves).
      longer leaf r.0 steps r.1 leaves r.2 (by_side leaf m before leaves r.0 r.1.0 r.1.1 short fits.0 fits.1 same))
      (equal_or h (IsHashedOver h leaf steps) (IsAtNode h leaves) (node_of r.1 (root_over h leaf r.0)) (hashed h leaves) last (top_node h leaves) top)

  none_left : (steps : List Step) → length steps ≤ 0 → steps ≡ []
  none_left [] le = refl
  none_left (s ∷ steps) le = absurd (omega (arith, le))

  pub member : (n : ℕ) (leaf : List ℕ) (steps : List Step) (leaves : List (List ℕ)) → length steps ≤ n → AreSteps steps → root_over h leaf steps ≡ tree_hash h leaves → AmongOr leaf steps leaves
  member zero leaf steps leaves few fit e = alone leaf steps leaves (none_left steps few) e
  member (suc m) leaf steps leaves few fit e = by_end leaf m (λ ss ls l fits same. member m leaf ss ls l fits same) steps leaves (ends_of steps) few fit e
