-- Lists after an item was put in or taken out.
use Rattle.std.proofs.Common.{◌≡◌, ◌<◌, ◌≤◌, ◌+◌, ◌-◌, ◌⊎◌, ℕ, zero, suc, refl, sym, ap, ◌∙◌, List, [], ◌∷◌, ◌++◌, Option, Some, None, MatchOption, option_to_list, length, take, drop, slice_get, inl, inr, arith, length-append, length-take-le, take-append-drop}
use Rattle.std.specs.List.{insert, remove}
use Rattle.std.proofs.lemmas.List.Edits.{insert-append_right, remove-append_right}

pub below_or_not : (a b : ℕ) → (a < b) ⊎ (b ≤ a)
below_or_not zero zero = inr (omega arith)
below_or_not zero (suc b) = inl (omega arith)
below_or_not (suc a) zero = inr (omega arith)
below_or_not (suc a) (suc b) = elim (below_or_not a b) [ inl h ↦ inl (omega arith) | inr h ↦ inr (omega arith) ]

module _ {X : Type 0} where
  -- ---- the items of parts of a list

  pub slice_get-take : (m : ℕ) (xs : List X) (i : ℕ) → i < m → slice_get (take m xs) i ≡ slice_get xs i
  slice_get-take zero xs i h = absurd (omega arith)
  slice_get-take (suc m) [] i h = refl
  slice_get-take (suc m) (x ∷ xs) zero h = refl
  slice_get-take (suc m) (x ∷ xs) (suc i) h = slice_get-take m xs i (omega arith)

  pub slice_get-drop : (k : ℕ) (xs : List X) (i j : ℕ) → j ≡ k + i → slice_get (drop k xs) i ≡ slice_get xs j
  slice_get-drop zero xs i j e = let same : i ≡ j = omega arith in ap (slice_get xs) same
  slice_get-drop (suc k) [] i j e = refl
  slice_get-drop (suc k) (x ∷ xs) i zero e = absurd (omega arith)
  slice_get-drop (suc k) (x ∷ xs) i (suc j) e = slice_get-drop k xs i j (omega arith)

  pub slice_get-end : (xs : List X) (x : X) → slice_get (xs ++ x ∷ []) (length xs) ≡ Some x
  slice_get-end [] x = refl
  slice_get-end (y ∷ xs) x = slice_get-end xs x

  -- what is taken from the end
  pub last_get : (k n m : ℕ) (xs ys : List X) (o : Option X) → xs ≡ ys ++ option_to_list o → MatchOption o ((n ≡ 0) × (m ≡ 0)) (λ _. m + 1 ≡ n) → n ≡ suc k → length xs ≡ suc k → o ≡ slice_get xs k
  last_get k n m xs ys None cut some is long = absurd (omega (arith, some.0, is))
  last_get k n m xs ys (Some x) cut some is long =
      let here : length ys ≡ k = omega (arith, long, ap length cut, length-append ys (x ∷ [])) in
      sym (ap (λ l. slice_get l k) cut ∙ ap (slice_get (ys ++ x ∷ [])) (sym here) ∙ slice_get-end ys x)

  -- ---- edits
  pub at_place : (xs : List X) (place : ℕ) → place < length xs → (y : X) × (drop place xs ≡ y ∷ drop (suc place) xs) × (slice_get xs place ≡ slice_get (y ∷ []) 0)
  at_place [] place h = absurd (omega arith)
  at_place (x ∷ xs) zero h = (x, refl, refl)
  at_place (x ∷ xs) (suc place) h = at_place xs place (omega arith)

  -- an item put into a list that is cut
  pub cut_insert : (size : ℕ) (xs : List X) (place : ℕ) (x : X) → place ≤ size → place ≤ length xs → insert (take size xs) place x ≡ take (suc size) (insert xs place x)
  cut_insert size xs zero x small within = refl
  cut_insert zero xs (suc place) x small within = absurd (omega arith)
  cut_insert (suc size) [] (suc place) x small within = absurd (omega arith)
  cut_insert (suc size) (y ∷ xs) (suc place) x small within = ap (λ l. y ∷ l) (cut_insert size xs place x (omega arith) (omega arith))

  -- what stands behind it then
  pub get_insert : (size : ℕ) (xs : List X) (place : ℕ) (x : X) → place ≤ size → place ≤ length xs → slice_get (insert xs place x) (suc size) ≡ slice_get xs size
  get_insert size xs zero x small within = refl
  get_insert zero xs (suc place) x small within = absurd (omega arith)
  get_insert (suc size) [] (suc place) x small within = absurd (omega arith)
  get_insert (suc size) (y ∷ xs) (suc place) x small within = get_insert size xs place x (omega arith) (omega arith)

  pub drop_insert : (size : ℕ) (xs : List X) (place : ℕ) (x : X) → place ≤ size → place ≤ length xs → drop (suc size) (insert xs place x) ≡ drop size xs
  drop_insert size xs zero x small within = refl
  drop_insert zero xs (suc place) x small within = absurd (omega arith)
  drop_insert (suc size) [] (suc place) x small within = absurd (omega arith)
  drop_insert (suc size) (y ∷ xs) (suc place) x small within = drop_insert size xs place x (omega arith) (omega arith)

  -- an edit behind the first so many items
  pub insert_past : (xs : List X) (size place at : ℕ) (x : X) → at ≡ size + place → size ≤ length xs → insert xs at x ≡ take size xs ++ insert (drop size xs) place x
  insert_past xs size place at x where_at within =
      let less : at - size ≡ place = omega arith in
      ap (λ l. insert l at x) (sym (take-append-drop size xs))
      ∙ insert-append_right (take size xs) (drop size xs) size at x (length-take-le size xs within) (omega arith)
      ∙ ap (λ n. take size xs ++ insert (drop size xs) n x) less

  pub remove_past : (xs : List X) (size place at : ℕ) → at ≡ size + place → size ≤ length xs → remove xs at ≡ take size xs ++ remove (drop size xs) place
  remove_past xs size place at where_at within =
      let less : at - size ≡ place = omega arith in
      ap (λ l. remove l at) (sym (take-append-drop size xs))
      ∙ remove-append_right (take size xs) (drop size xs) size at (length-take-le size xs within) (omega arith)
      ∙ ap (λ n. take size xs ++ remove (drop size xs) n) less
