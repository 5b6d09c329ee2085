-- Lists in pieces.
use Rattle.std.proofs.Common.{◌≡◌, ◌<◌, ◌≤◌, ◌+◌, ◌-◌, ◌*◌, min, ℕ, zero, suc, refl, sym, ap, subst, ◌∙◌, List, [], ◌∷◌, ◌++◌, length, take, drop, get_or, slice_get, None, arith, drop-drop, inl, inr, mul-le-mul_left, take_all, length-append, length-drop, length-take, take-append-drop}
use Rattle.std.proofs.lemmas.List.{nil_from_length}
use Rattle.std.proofs.lemmas.Option.{slice_get_past}
use Rattle.store_order.specs.Packed.{IsPacked, flat, pieces_of}
use Rattle.store_order.proofs.Edits.{below_or_not, slice_get-drop, slice_get-take}

module _ (X : Type 0) (size : ℕ) where
  pub none_packed : IsPacked {X = X} size []
  unfolding IsPacked pieces_of flat
  none_packed = refl

module _ {X : Type 0} (size : ℕ) where
  pub length_pieces : (n : ℕ) (xs : List X) → length (pieces_of size n xs) ≡ n
  unfolding pieces_of
  length_pieces zero xs = refl
  length_pieces (suc n) xs = ap suc (length_pieces n (drop size xs))

  pub flat_pieces : (n : ℕ) (xs : List X) → length xs ≤ size * n → flat (pieces_of size n xs) ≡ xs
  unfolding pieces_of flat
  flat_pieces zero xs fits = sym (nil_from_length xs (omega arith))
  flat_pieces (suc n) xs fits = ap (λ l. take size xs ++ l) (flat_pieces n (drop size xs) (omega (arith, length-drop size xs))) ∙ take-append-drop size xs

  pieces_bound : (n : ℕ) (xs : List X) → length (flat (pieces_of size n xs)) ≤ size * n
  unfolding pieces_of flat
  pieces_bound zero xs = omega arith
  pieces_bound (suc n) xs =
      let back = flat (pieces_of size n (drop size xs)) in
      omega (arith, length-append (take size xs) back, length-take size xs, pieces_bound n (drop size xs))

  -- ---- packed pieces

  pub packed_is : (ps : List (List X)) → IsPacked size ps → ps ≡ pieces_of size (length ps) (flat ps)
  unfolding IsPacked
  packed_is ps packed = packed

  pub packed_bound : (ps : List (List X)) → IsPacked size ps → length (flat ps) ≤ size * length ps
  packed_bound ps packed = subst (λ (l : List (List X)). length (flat l) ≤ size * length ps) (sym (packed_is ps packed)) (pieces_bound (length ps) (flat ps))

  pub packed_of : (n : ℕ) (xs : List X) (ps : List (List X)) → ps ≡ pieces_of size n xs → length xs ≤ size * n → IsPacked size ps × (flat ps ≡ xs) × (length ps ≡ n)
  unfolding IsPacked
  packed_of n xs ps is fits =
      let list : flat ps ≡ xs = ap flat is ∙ flat_pieces n xs fits in
      let count : length ps ≡ n = ap length is ∙ length_pieces n xs in
      (is ∙ (λ i. pieces_of size (sym count i) (sym list i)), list, count)

  -- ---- one more

  pub more_pieces : (n : ℕ) (xs : List X) → length xs ≤ size * n → pieces_of size n xs ++ [] ∷ [] ≡ pieces_of size (suc n) xs
  unfolding pieces_of
  more_pieces zero xs fits = let none : xs ≡ [] = nil_from_length xs (omega arith) in ap (λ l. l ∷ []) (sym (ap (take size) none ∙ take_all size [] (omega arith)))
  more_pieces (suc n) xs fits = ap (λ l. take size xs ∷ l) (more_pieces n (drop size xs) (omega (arith, length-drop size xs)))

  pub more_packed : (ps : List (List X)) → IsPacked size ps → IsPacked size (ps ++ [] ∷ []) × (flat (ps ++ [] ∷ []) ≡ flat ps) × (length (ps ++ [] ∷ []) ≡ suc (length ps))
  more_packed ps packed =
      let fits = packed_bound ps packed in
      packed_of (suc (length ps)) (flat ps) (ps ++ [] ∷ [])
      (ap (λ l. l ++ [] ∷ []) (packed_is ps packed) ∙ more_pieces (length ps) (flat ps) fits) (omega arith)

  -- ---- the piece at a place

  piece_at : (n at : ℕ) (xs : List X) (d : List X) → at < n → get_or (pieces_of size n xs) at d ≡ take size (drop (size * at) xs)
  unfolding pieces_of
  piece_at zero at xs d within = absurd (omega arith)
  piece_at (suc n) zero xs d within = let none : 0 ≡ size * 0 = omega arith in ap (λ m. take size (drop m xs)) none
  piece_at (suc n) (suc at) xs d within =
      let more : size + size * at ≡ size * suc at = omega arith in
      piece_at n at (drop size xs) d (omega arith) ∙ ap (take size) (drop-drop (size * at) size xs ∙ ap (λ m. drop m xs) more)

  module _ (ps : List (List X)) (packed : IsPacked size ps) (at : ℕ) where
    piece_packed : (d : List X) → at < length ps → get_or ps at d ≡ take size (drop (size * at) (flat ps))
    piece_packed d within = ap (λ (l : List (List X)). get_or l at d) (packed_is ps packed) ∙ piece_at (length ps) at (flat ps) d within

    pub there_packed : (off place : ℕ) → place ≡ size * at + off → place < length (flat ps) → at < length ps
    there_packed off place is within = elim (below_or_not at (length ps)) [
      | inl below ↦ below
      | inr past ↦ absurd (omega (arith, packed_bound ps packed, mul-le-mul_left size past))
    ]

    module _ (d : List X) (there : at < length ps) where
      long : length (get_or ps at d) ≡ min size (length (flat ps) - size * at)
      long = ap length (piece_packed d there) ∙ length-take size (drop (size * at) (flat ps)) ∙ ap (min size) (length-drop (size * at) (flat ps))

      pub room_packed : (off place : ℕ) → place ≡ size * at + off → off < size → place ≤ length (flat ps) → off ≤ length (get_or ps at d)
      room_packed off place is small within = omega (arith, long)

      get_there : (off place : ℕ) → place ≡ size * at + off → off < size → slice_get (flat ps) place ≡ slice_get (get_or ps at d) off
      get_there off place is small =
          sym (slice_get-drop (size * at) (flat ps) off place is) ∙ sym (slice_get-take size (drop (size * at) (flat ps)) off small)
          ∙ ap (λ (q : List X). slice_get q off) (sym (piece_packed d there))

    module _ (off place : ℕ) (is : place ≡ size * at + off) where
      pub get_packed : (p : List X) → off < size → at < length ps → p ≡ get_or ps at p → slice_get p off ≡ slice_get (flat ps) place
      get_packed p small there found = ap (λ (q : List X). slice_get q off) found ∙ sym (get_there p there off place is small)

      pub past_packed : length ps ≤ at → None ≡ slice_get (flat ps) place
      past_packed past = sym (slice_get_past (flat ps) place (omega (arith, packed_bound ps packed, mul-le-mul_left size past)))
