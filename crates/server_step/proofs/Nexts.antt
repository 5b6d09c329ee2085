-- The next of some lists.
use Rattle.std.proofs.Common.{◌≡◌, ◌<◌, ◌≤◌, ◌∙◌, ℕ, zero, suc, List, [], ◌∷◌, map, length, get_or, refl, sym, ap, arith, Bor}
use Rattle.std.specs.Prelude.{slice_set}
use Rattle.server_step.specs.Woven.{first_at, rest_of, without_first}

module _ {A : Type 0} where
  pub first_beyond : (i : ℕ) (left : List (Bor (List A))) → length left ≤ i → first_at i (map (λ l. l.now) left) ≡ []
  first_beyond i [] beyond = refl
  first_beyond zero (x ∷ left) beyond = absurd (omega (arith, beyond))
  first_beyond (suc i) (x ∷ left) beyond = first_beyond i left (omega (arith, beyond))

  pub rest_beyond : (i : ℕ) (left : List (Bor (List A))) → length left ≤ i → without_first i (map (λ l. l.now) left) ≡ map (λ l. l.now) left
  rest_beyond i [] beyond = refl
  rest_beyond zero (x ∷ left) beyond = absurd (omega (arith, beyond))
  rest_beyond (suc i) (x ∷ left) beyond = ap (λ (ls : List (List A)). x.now ∷ ls) (rest_beyond i left (omega (arith, beyond)))

  pub first_there : (i : ℕ) (left : List (Bor (List A))) (d : Bor (List A)) (xs : List A) → i < length left → (get_or left i d).now ≡ xs → first_at i (map (λ l. l.now) left) ≡ first_at 0 (xs ∷ [])
  first_there i [] d xs within are = absurd (omega (arith, within))
  first_there zero (x ∷ left) d xs within are = one x.now (map (λ l. l.now) left) ∙ ap (λ (l : List A). first_at 0 (l ∷ [])) are
    where
      one : (l : List A) (ls : List (List A)) → first_at 0 (l ∷ ls) ≡ first_at 0 (l ∷ [])
      one [] ls = refl
      one (y ∷ ys) ls = refl
  first_there (suc i) (x ∷ left) d xs within are = first_there i left d xs (omega (arith, within)) are

  pub rest_there : (i : ℕ) (left : List (Bor (List A))) (d r : Bor (List A)) (xs : List A) → i < length left → (get_or left i d).now ≡ xs → r.now ≡ rest_of xs
      → map (λ l. l.now) (slice_set left i r) ≡ without_first i (map (λ l. l.now) left)
  rest_there i [] d r xs within are is = absurd (omega (arith, within))
  rest_there zero (x ∷ left) d r xs within are is = ap (λ (l : List A). l ∷ map (λ m. m.now) left) (is ∙ ap rest_of (sym are))
  rest_there (suc i) (x ∷ left) d r xs within are is = ap (λ (ls : List (List A)). x.now ∷ ls) (rest_there i left d r xs (omega (arith, within)) are is)

  -- where there is no next one, nothing changes
  pub none_there : (i : ℕ) (left : List (Bor (List A))) (d : Bor (List A)) → i < length left → (get_or left i d).now ≡ [] → without_first i (map (λ l. l.now) left) ≡ map (λ l. l.now) left
  none_there i [] d within none = absurd (omega (arith, within))
  none_there zero (x ∷ left) d within none = ap (λ (l : List A). l ∷ map (λ m. m.now) left) (ap rest_of none ∙ sym none)
  none_there (suc i) (x ∷ left) d within none = ap (λ (ls : List (List A)). x.now ∷ ls) (none_there i left d (omega (arith, within)) none)
