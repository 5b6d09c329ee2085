-- Which leaf is of the event with a number.
use Rattle.std.proofs.Common.{◌≡◌, ◌≤◌, ◌<◌, ℕ, List, length, Option, Some, None, arith, sym, ◌∙◌, subst}
use Rattle.std.specs.List.{slice_get}
use Rattle.std.proofs.lemmas.Option.{slice_get_within}
use Rattle.audit_row_receipt.specs.RowsMade.{IsLeafOf, HasNoLeaf, IsPlaceOf}

-- none of the first n leaves is
abbrev pub NoneBefore : ℕ → List (List ℕ) → ℕ → Type 0
NoneBefore seq leaves n = (k : ℕ) (leaf : List ℕ) → k < n → slice_get leaves k ≡ Some leaf → IsLeafOf seq leaf → ⊥

pub none_at_all : (seq n : ℕ) (leaves : List (List ℕ)) → length leaves ≤ n → NoneBefore seq leaves n → HasNoLeaf seq leaves
none_at_all seq n leaves all before = λ k leaf at of. before k leaf (let within = slice_get_within leaves k leaf at in omega (arith, within, all)) at of

-- ---- the place that is found

module _ (seq k : ℕ) (leaves : List (List ℕ)) where
  is_leaf : (leaf : List ℕ) → IsPlaceOf seq leaves (Some k) → slice_get leaves k ≡ Some leaf → IsLeafOf seq leaf
  is_leaf leaf place at =
      let both : Some place.0 ≡ Some leaf = sym place.2 ∙ at in
      let same : place.0 ≡ leaf = cc in
      subst (IsLeafOf seq) same place.3

  -- where the place was found in a slice and the leaf read in another, both of these leaves
  pub leaf_found : (leaf : List ℕ) (one two : List (List ℕ)) (found : Option ℕ) → IsPlaceOf seq one found → found ≡ Some k → one ≡ leaves → slice_get two k ≡ Some leaf → two ≡ leaves
      → (slice_get leaves k ≡ Some leaf) × IsLeafOf seq leaf
  leaf_found leaf one two found place is one_is at two_is =
      let here : slice_get leaves k ≡ Some leaf = subst (λ (l : List (List ℕ)). slice_get l k ≡ Some leaf) two_is at in
      let there : IsPlaceOf seq leaves (Some k) = subst (IsPlaceOf seq leaves) is (subst (λ (l : List (List ℕ)). IsPlaceOf seq l found) one_is place) in
      (here, is_leaf leaf there here)

pub none_found : (seq : ℕ) (leaves one : List (List ℕ)) (found : Option ℕ) → IsPlaceOf seq one found → found ≡ None → one ≡ leaves → HasNoLeaf seq leaves
none_found seq leaves one found place is one_is = subst (IsPlaceOf seq leaves) is (subst (λ (l : List (List ℕ)). IsPlaceOf seq l found) one_is place)
