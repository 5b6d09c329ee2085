-- Leaves with one tree hash are the same, or a collision of what is hashed at nodes of the one tree and of the other.
use Rattle.std.proofs.Common.{◌≡◌, ◌≤◌, ◌⊎◌, ℕ, zero, suc, Bool, true, false, List, [], ◌∷◌, length, take, drop, refl, arith, sym, ◌∙◌, ap, inl}
use Rattle.base_merkle.specs.TreeHash.{split_of, tree_hash}
use Rattle.audit_extract.specs.Collisions.{HasCollisionBetween, IsAtNode}
use Rattle.audit_extract.specs.Hashed.{half, hashed}
use Rattle.audit_extract.proofs.Collisions.{equal_or, node_of_half, or_wider, top_node}
use Rattle.audit_extract.proofs.Halves.{back_length, front_length, hash_of_hashed, joined}
use Rattle.audit_extract.proofs.Unbroken.{both_so, so_far}
use Rattle.audit_paths.proofs.Members.{parted}

module _ (h : List ℕ → List ℕ) (sized : (bytes : List ℕ) → length (h bytes) ≡ 32) where
  abbrev SameOr : List (List ℕ) → List (List ℕ) → Type 0
  SameOr a b = (a ≡ b) ⊎ HasCollisionBetween h (IsAtNode h a) (IsAtNode h b)

  abbrev Answers : ℕ → Type 0
  Answers n = (a b : List (List ℕ)) → length a ≤ n → tree_hash h a ≡ tree_hash h b → SameOr a b

  in_half : {P : Type 0} (side : Bool) (a b : List (List ℕ)) → P ⊎ HasCollisionBetween h (IsAtNode h (half side a)) (IsAtNode h (half side b)) → P ⊎ HasCollisionBetween h (IsAtNode h a) (IsAtNode h b)
  in_half side a b =
      or_wider h (IsAtNode h (half side a)) (IsAtNode h (half side b)) (IsAtNode h a) (IsAtNode h b) (node_of_half h side a) (node_of_half h side b)

  none_alike : (b : List (List ℕ)) → [] ≡ hashed h b → [] ≡ b
  none_alike [] e = refl
  none_alike (y ∷ []) e = cc
  none_alike (y ∷ z ∷ b) e = cc

  one_alike : (x : List ℕ) (b : List (List ℕ)) → 0 ∷ x ≡ hashed h b → x ∷ [] ≡ b
  one_alike x [] e = cc
  one_alike x (y ∷ []) e = let same : x ≡ y = cc in ap (λ (z : List ℕ). z ∷ []) same
  one_alike x (y ∷ z ∷ b) e = cc

  more_alike : (n : ℕ) → Answers n → (x y : List ℕ) (ls b : List (List ℕ)) → length (x ∷ y ∷ ls) ≤ suc n → hashed h (x ∷ y ∷ ls) ≡ hashed h b → SameOr (x ∷ y ∷ ls) b
  more_alike n before x y ls b few e =
      let a : List (List ℕ) = x ∷ y ∷ ls in
      let front : List (List ℕ) = take (split_of (length a)) a in
      let back : List (List ℕ) = drop (split_of (length a)) a in
      let p = parted h sized (tree_hash h front) (tree_hash h back) b (rw (hash_of_hashed h front) (sized (hashed h front))) e in
      so_far (λ (both : (front ≡ half true b) × (back ≡ half false b)). inl (joined a b _ _ both.0 both.1))
      (both_so
      (in_half true a b (before front (half true b) (omega (arith, few, front_length a (omega arith))) p.front))
      (in_half false a b (before back (half false b) (omega (arith, few, back_length a (omega arith))) p.back)))

  alike : (n : ℕ) → Answers n → (a b : List (List ℕ)) → length a ≤ suc n → hashed h a ≡ hashed h b → SameOr a b
  alike n before [] b few e = inl (none_alike b e)
  alike n before (x ∷ []) b few e = inl (one_alike x b e)
  alike n before (x ∷ y ∷ ls) b few e = more_alike n before x y ls b few e

  none_left : (a b : List (List ℕ)) → length a ≤ 0 → hashed h a ≡ hashed h b → a ≡ b
  none_left [] b few e = none_alike b e
  none_left (x ∷ a) b few e = absurd (omega (arith, few))

  by_hashed : (a b : List (List ℕ)) → (hashed h a ≡ hashed h b → SameOr a b) → tree_hash h a ≡ tree_hash h b → SameOr a b
  by_hashed a b same e =
      so_far same
      (equal_or h (IsAtNode h a) (IsAtNode h b) (hashed h a) (hashed h b) (top_node h a) (top_node h b) (sym (hash_of_hashed h a) ∙ e ∙ hash_of_hashed h b))

  pub same_tree : (n : ℕ) → Answers n
  same_tree zero a b few e = by_hashed a b (λ same. inl (none_left a b few same)) e
  same_tree (suc n) a b few e = by_hashed a b (λ same. alike n (λ c d le f. same_tree n c d le f) a b few same) e
