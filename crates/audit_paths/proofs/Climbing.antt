-- Two ways up that end at one hash.
use Rattle.std.proofs.Common.{◌≡◌, ◌⊎◌, ℕ, Bool, true, false, List, [], ◌∷◌, ◌++◌, length, Some, None, refl, arith, sym, ◌∙◌, inl, inr}
use Rattle.std.specs.Prelude.{eqb, if◌then◌else◌, zip}
use Rattle.std.proofs.lemmas.Bool.{eqb-true}
use Rattle.base_fields.proofs.Fronts.{fronts}
use Rattle.audit_extract.specs.Collisions.{HasCollisionBetween}
use Rattle.audit_extract.proofs.Collisions.{equal_or, or_wider}
use Rattle.audit_extract.proofs.Unbroken.{so_far}
use Rattle.audit_paths.specs.declared.side.Side.{Side}
use Rattle.audit_paths.specs.declared.side.Side.TheVariants as other
use Rattle.audit_paths.specs.Hashed.{IsOnWay, IsHashedOver, IsHashedUnder}
use Rattle.audit_paths.specs.Path.{sides_of, node_of, climbed, root_over, root_under, AreHashes}

-- the same bytes behind the first one
pub behind_first : (a b : ℕ) (x y : List ℕ) → a ∷ x ≡ b ∷ y → x ≡ y
behind_first a b x y e = cc

module _ (h : List ℕ → List ℕ) (sized : (bytes : List ℕ) → length (h bytes) ≡ 32) where
  -- nodes of the same bytes have the same halves
  pub halves_of : (s : Side) (p q a b : List ℕ) → length p ≡ length q → length a ≡ length b → node_of (s, p) a ≡ node_of (s, q) b → (a ≡ b) × (p ≡ q)
  halves_of other.Right p q a b lp la e = fronts a b p q la (behind_first 1 1 (a ++ p) (b ++ q) e)
  halves_of other.Left p q a b lp la e = let r = fronts p q a b lp (behind_first 1 1 (p ++ a) (q ++ b) e) in (r.1, r.0)

  -- where two ways along the same sides end at one hash, they begin at one
  pub climbs_from_one : (sides : List Side) (p q : List (List ℕ)) (a b : List ℕ) → length p ≡ length sides → length q ≡ length sides → AreHashes p → AreHashes q
      → length a ≡ 32 → length b ≡ 32 → climbed h a (zip sides p) ≡ climbed h b (zip sides q)
      → (a ≡ b) ⊎ HasCollisionBetween h (IsOnWay h a (zip sides p)) (IsOnWay h b (zip sides q))
  climbs_from_one [] p q a b lp lq hp hq la lb e = inl e
  climbs_from_one (s ∷ sides) [] q a b lp lq hp hq la lb e = absurd (omega (arith, lp))
  climbs_from_one (s ∷ sides) (x ∷ p) [] a b lp lq hp hq la lb e = absurd (omega (arith, lq))
  climbs_from_one (s ∷ sides) (x ∷ p) (y ∷ q) a b lp lq hp hq la lb e =
      let S = IsOnWay h a (zip (s ∷ sides) (x ∷ p)) in
      let T = IsOnWay h b (zip (s ∷ sides) (y ∷ q)) in
      so_far (λ (up : h (node_of (s, x) a) ≡ h (node_of (s, y) b)).
      so_far (λ (same : node_of (s, x) a ≡ node_of (s, y) b). inl (halves_of s x y a b (hp.0 ∙ sym hq.0) (la ∙ sym lb) same).0)
      (equal_or h S T (node_of (s, x) a) (node_of (s, y) b) (inl refl) (inl refl) up))
      (or_wider h (IsOnWay h (h (node_of (s, x) a)) (zip sides p)) (IsOnWay h (h (node_of (s, y) b)) (zip sides q)) S T (λ z on. inr on) (λ z on. inr on)
      (climbs_from_one sides p q (h (node_of (s, x) a)) (h (node_of (s, y) b)) (omega (arith, lp)) (omega (arith, lq)) hp.1 hq.1
      (sized (node_of (s, x) a)) (sized (node_of (s, y) b)) e))

  -- ---- from leaves

  under_if : (b : Bool) (x y : List ℕ) → (if b then Some x else None) ≡ Some y → (b ≡ true) × (x ≡ y)
  under_if true x y e = (refl, cc)
  under_if false x y e = cc

  pub one_leaf : (a b root : List ℕ) (p q : List (List ℕ)) (m n : ℕ) → AreHashes p → AreHashes q
      → root_under h p m n a ≡ Some root → root_under h q m n b ≡ Some root
      → (a ≡ b) ⊎ HasCollisionBetween h (IsHashedUnder h p m n a) (IsHashedUnder h q m n b)
  unfolding root_under
  one_leaf a b root p q m n hp hq one two =
      let x = under_if (eqb (length p) (length (sides_of m n))) (root_over h a (zip (sides_of m n) p)) root one in
      let y = under_if (eqb (length q) (length (sides_of m n))) (root_over h b (zip (sides_of m n) q)) root two in
      let S = IsHashedUnder h p m n a in
      let T = IsHashedUnder h q m n b in
      so_far (λ (same : h (0 ∷ a) ≡ h (0 ∷ b)).
      so_far (λ (bytes : 0 ∷ a ≡ 0 ∷ b). inl (behind_first 0 0 a b bytes)) (equal_or h S T (0 ∷ a) (0 ∷ b) (inl refl) (inl refl) same))
      (or_wider h (IsOnWay h (h (0 ∷ a)) (zip (sides_of m n) p)) (IsOnWay h (h (0 ∷ b)) (zip (sides_of m n) q)) S T (λ z on. inr on) (λ z on. inr on)
      (climbs_from_one (sides_of m n) p q (h (0 ∷ a)) (h (0 ∷ b)) (eqb-true (length p) (length (sides_of m n)) x.0) (eqb-true (length q) (length (sides_of m n)) y.0)
      hp hq (sized (0 ∷ a)) (sized (0 ∷ b)) (x.1 ∙ sym y.1)))
