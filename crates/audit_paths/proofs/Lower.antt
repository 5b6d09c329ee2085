-- What is hashed on the ways that are left is hashed on the whole ones.
use Rattle.std.proofs.Common.{◌≡◌, ◌⊎◌, ℕ, Bool, true, false, List, [], ◌∷◌, ◌++◌, length, Some, None, refl, sym, ◌∙◌, ap₂, subst, inl}
use Rattle.std.specs.Prelude.{eqb, if◌then◌else◌, zip}
use Rattle.std.specs.Option.{option_map}
use Rattle.std.proofs.lemmas.Bool.{eqb-true}
use Rattle.audit_paths.specs.declared.side.Side.{Side}
use Rattle.audit_paths.specs.Hashed.{IsHashedOver, IsHashedUnder}
use Rattle.audit_paths.specs.Path.{sides_of, Step, node_of, root_over, root_under}
use Rattle.audit_paths.proofs.Descending.{Sought, bytes_are, left, right}
use Rattle.audit_paths.proofs.Leading.{zip_one_more}
use Rattle.audit_paths.proofs.Ways.{on_last, on_shorter}

module _ (h : List ℕ → List ℕ) where
  -- the way from a leaf to a half is a part of that to the root, which ends with the node above the half
  record Lower (m n j k : ℕ) (s : Side) (leaf half : List ℕ) (path below : List (List ℕ)) (other : List ℕ) : Type 0 where
    pub lower : (x : List ℕ) → IsHashedUnder h below j k leaf x → IsHashedUnder h path m n leaf x
    pub top : IsHashedUnder h path m n leaf (node_of (s, other) half)

  under_if : (b : Bool) (x y : List ℕ) → (if b then Some x else None) ≡ Some y → (b ≡ true) × (x ≡ y)
  under_if true x y e = (refl, cc)
  under_if false x y e = cc

  lower_of : (m n j k : ℕ) (s : Side) (leaf half : List ℕ) (path below : List (List ℕ)) (other : List ℕ) → sides_of m n ≡ sides_of j k ++ s ∷ [] → path ≡ below ++ other ∷ []
      → root_under h below j k leaf ≡ Some half → Lower m n j k s leaf half path below other
  unfolding root_under
  lower_of m n j k s leaf half path below other sides is there =
      let under = under_if (eqb (length below) (length (sides_of j k))) (root_over h leaf (zip (sides_of j k) below)) half there in
      let count : length below ≡ length (sides_of j k) = eqb-true (length below) (length (sides_of j k)) under.0 in
      let steps : zip (sides_of m n) path ≡ zip (sides_of j k) below ++ (s, other) ∷ [] =
      ap₂ (λ (ss : List Side) (ps : List (List ℕ)). zip ss ps) sides is ∙ zip_one_more (sides_of j k) below s other (sym count) in
      record {
        lower = λ x on. subst (λ (ts : List Step). IsHashedOver h leaf ts x) (sym steps) (on_shorter h leaf (zip (sides_of j k) below) (s, other) x on);
        top = subst (λ (hash : List ℕ). IsHashedUnder h path m n leaf (node_of (s, other) hash)) under.1
            (subst (λ (ts : List Step). IsHashedOver h leaf ts (node_of (s, other) (root_over h leaf (zip (sides_of j k) below)))) (sym steps) (on_last h leaf (zip (sides_of j k) below) (s, other)));
      }

  -- ---- what the search keeps of both ways

  pub record Ways (m n : ℕ) (a : List ℕ) (p : List (List ℕ)) (b : List ℕ) (q : List (List ℕ)) (j k : ℕ) (below_p below_q : List (List ℕ)) : Type 0 where
    pub first : (x : List ℕ) → IsHashedUnder h below_p j k a x → IsHashedUnder h p m n a x
    pub second : (x : List ℕ) → IsHashedUnder h below_q j k b x → IsHashedUnder h q m n b x

  pub whole : (m n : ℕ) (a : List ℕ) (p : List (List ℕ)) (b : List ℕ) (q : List (List ℕ)) → Ways m n a p b q m n p q
  whole m n a p b q = record { first = λ x on. on; second = λ x on. on }

  abbrev pub AreOnWays : ℕ → ℕ → List ℕ → List (List ℕ) → List ℕ → List (List ℕ) → List ℕ → List ℕ → Type 0
  AreOnWays m n a p b q x y = IsHashedUnder h p m n a x × IsHashedUnder h q m n b y

  pub leaves_on_ways : (m n j k : ℕ) (a first second : List ℕ) (p below_p : List (List ℕ)) (b : List ℕ) (q below_q : List (List ℕ)) → Ways m n a p b q j k below_p below_q → first ≡ 0 ∷ a → second ≡ 0 ∷ b
      → AreOnWays m n a p b q first second
  leaves_on_ways m n j k a first second p below_p b q below_q w first_is second_is = (w.first first (inl first_is), w.second second (inl second_is))

  module _ (m0 n0 m n j k : ℕ) (s : Side) (a b : List ℕ) (p0 q0 p q below_p below_q : List (List ℕ)) (x y : List ℕ) (sides : sides_of m n ≡ sides_of j k ++ s ∷ [])
      (kept : Sought h m n a p b q) (p_is : p ≡ below_p ++ x ∷ []) (q_is : q ≡ below_q ++ y ∷ []) (w : Ways m0 n0 a p0 b q0 m n p q) where
    left_lower : Lower m n j k s a (left h m n j k s a b p q below_p below_q x y sides kept p_is q_is).half p below_p x
    left_lower =
        let u = left h m n j k s a b p q below_p below_q x y sides kept p_is q_is in
        lower_of m n j k s a u.half p below_p x sides p_is u.there

    right_lower : Lower m n j k s b (right h m n j k s a b p q below_p below_q x y sides kept p_is q_is).half q below_q y
    right_lower =
        let v = right h m n j k s a b p q below_p below_q x y sides kept p_is q_is in
        lower_of m n j k s b v.half q below_q y sides q_is v.there

    pub ways_down : Ways m0 n0 a p0 b q0 j k below_p below_q
    ways_down = record { first = λ z on. w.first z (left_lower.lower z on); second = λ z on. w.second z (right_lower.lower z on) }

    pub nodes_on_ways : (first second : List ℕ) → Some first ≡ option_map (node_of (s, x)) (root_under h below_p j k a) → Some second ≡ option_map (node_of (s, y)) (root_under h below_q j k b)
        → AreOnWays m0 n0 a p0 b q0 first second
    nodes_on_ways first second first_is second_is =
        let u = left h m n j k s a b p q below_p below_q x y sides kept p_is q_is in
        let v = right h m n j k s a b p q below_p below_q x y sides kept p_is q_is in
        let one : first ≡ node_of (s, x) u.half = bytes_are s x u.half first (root_under h below_p j k a) u.there first_is in
        let two : second ≡ node_of (s, y) v.half = bytes_are s y v.half second (root_under h below_q j k b) v.there second_is in (
          w.first first (subst (IsHashedUnder h p m n a) (sym one) left_lower.top),
          w.second second (subst (IsHashedUnder h q m n b) (sym two) right_lower.top),
        )
