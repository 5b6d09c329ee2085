-- Pieces after a start was put in.
use Rattle.std.proofs.Common.{◌≡◌, ◌<◌, ◌≤◌, ◌+◌, ◌*◌, ℕ, zero, suc, refl, sym, ap, ◌∙◌, inl, inr, List, [], ◌∷◌, ◌++◌, length, take, drop, get_or, set, slice_get, Option, Some, None, arith, take-take, take_at, drop_at, length-drop, length-take, length-take-le, take-append-drop}
use Rattle.std.specs.List.{insert}
use Rattle.std.proofs.lemmas.List.{drop_all}
use Rattle.std.proofs.lemmas.List.Edits.{length-insert}
use Rattle.std.proofs.lemmas.Option.{slice_get_past}
use Rattle.store_order.specs.Packed.{IsPacked, carried, flat, pieces_of}
use Rattle.store_order.proofs.Edits.{at_place, below_or_not, cut_insert, get_insert, drop_insert, insert_past, slice_get-take}
use Rattle.store_order.proofs.Packed.{packed_is, packed_of}

module _ {X : Type 0} (size : ℕ) where
  pub carried_none : (ps : List (List X)) → carried size None ps ≡ ps
  unfolding carried
  carried_none ps = refl

  pub carried_end : (o : Option X) (ps : List (List X)) (at : ℕ) → length ps ≤ at → ps ≡ take at ps ++ carried size o (drop at ps)
  unfolding carried
  carried_end None ps at end = sym (take-append-drop at ps)
  carried_end (Some x) [] zero end = refl
  carried_end (Some x) [] (suc at) end = refl
  carried_end (Some x) (p ∷ ps) zero end = absurd (omega arith)
  carried_end (Some x) (p ∷ ps) (suc at) end = ap (λ l. p ∷ l) (carried_end (Some x) ps at (omega arith))

  -- one piece on, of the pieces from a place on
  moved : X → List X → List X
  moved x p = take size (x ∷ p)

  more_by : (x : X) (ps : List (List X)) (at : ℕ) (d : List X) → at < length ps
      → take at ps ++ carried size (Some x) (drop at ps)
      ≡ take (suc at) (set ps at (moved x (get_or ps at d))) ++ carried size (slice_get (x ∷ get_or ps at d) size) (drop (suc at) (set ps at (moved x (get_or ps at d))))
  unfolding carried moved
  more_by x [] at d within = absurd (omega arith)
  more_by x (q ∷ ps) zero d within = refl
  more_by x (q ∷ ps) (suc at) d within = ap (λ l. q ∷ l) (more_by x ps at d (omega arith))

  pub carried_more : (x : X) (ps : List (List X)) (at : ℕ) (d q : List X) (o : Option X) → at < length ps
      → q ≡ take size (x ∷ get_or ps at d)
      → o ≡ slice_get (x ∷ get_or ps at d) size
      → take (at + 1) (set ps at q) ++ carried size o (drop (at + 1) (set ps at q)) ≡ take at ps ++ carried size (Some x) (drop at ps)
  unfolding moved
  carried_more x ps at d q o within q_is o_is =
      let one : at + 1 ≡ suc at = omega arith in
      (λ i. take (one i) (set ps at (q_is i)) ++ carried size (o_is i) (drop (one i) (set ps at (q_is i)))) ∙ sym (more_by x ps at d within)

  -- the pieces once an item was put into one, and what it gave up was carried on
  abbrev put_at : List (List X) → ℕ → ℕ → X → List X → List (List X)
  put_at ps at off x p =
      take (suc at) (set ps at (take size (insert p off x)))
      ++ carried size (slice_get (insert p off x) size) (drop (suc at) (set ps at (take size (insert p off x))))

module _ {X : Type 0} (k : ℕ) where
  next_by : (n : ℕ) → ((x : X) (xs : List X) → carried (suc k) (Some x) (pieces_of (suc k) n xs) ≡ pieces_of (suc k) n (x ∷ xs)) → (xs : List X)
      → carried (suc k) (slice_get (take (suc k) xs) k) (pieces_of (suc k) n (drop (suc k) xs)) ≡ pieces_of (suc k) n (drop k xs)
  next_by n each xs = elim (below_or_not k (length xs)) [
    | inl more ↦ let here = at_place xs k more in
        ap (λ o. carried (suc k) o (pieces_of (suc k) n (drop (suc k) xs))) (slice_get-take (suc k) xs k (omega arith) ∙ here.2)
        ∙ each here.0 (drop (suc k) xs) ∙ ap (pieces_of (suc k) n) (sym here.1)
    | inr less ↦ let past : slice_get (take (suc k) xs) k ≡ None = slice_get_past (take (suc k) xs) k (omega (arith, length-take (suc k) xs)) in
        ap (λ o. carried (suc k) o (pieces_of (suc k) n (drop (suc k) xs))) past
        ∙ carried_none (suc k) (pieces_of (suc k) n (drop (suc k) xs))
        ∙ ap (pieces_of (suc k) n) (drop_all (suc k) xs (omega arith) ∙ sym (drop_all k xs less))
  ]

  carried_pieces : (n : ℕ) (x : X) (xs : List X) → carried (suc k) (Some x) (pieces_of (suc k) n xs) ≡ pieces_of (suc k) n (x ∷ xs)
  unfolding carried pieces_of
  carried_pieces zero x xs = refl
  carried_pieces (suc n) x xs =
      let first : take k (take (suc k) xs) ≡ take k xs = take-take k (suc k) xs (omega arith) in
      let next = next_by n (λ y ys. carried_pieces n y ys) xs in
      λ i. (x ∷ first i) ∷ next i

  put_pieces : (n at off place : ℕ) (x : X) (xs : List X) (d : List X) → off ≤ k → place ≡ suc k * at + off → place ≤ length xs → at < n
      → put_at (suc k) (pieces_of (suc k) n xs) at off x (get_or (pieces_of (suc k) n xs) at d) ≡ pieces_of (suc k) n (insert xs place x)
  unfolding pieces_of
  put_pieces zero at off place x xs d small is within there = absurd (omega arith)
  put_pieces (suc n) zero off place x xs d small is within there =
      let here : place ≡ off = omega arith in
      let few : off ≤ length (take (suc k) xs) = omega (arith, length-take (suc k) xs) in
      let first : take (suc k) (insert (take (suc k) xs) off x) ≡ take (suc k) (insert xs off x) =
      ap (take (suc k)) (cut_insert (suc k) xs off x (omega arith) (omega arith)) ∙ take-take (suc k) (suc (suc k)) (insert xs off x) (omega arith) in
      let next : carried (suc k) (slice_get (insert (take (suc k) xs) off x) (suc k)) (pieces_of (suc k) n (drop (suc k) xs)) ≡ pieces_of (suc k) n (drop (suc k) (insert xs off x)) =
      ap (λ o. carried (suc k) o (pieces_of (suc k) n (drop (suc k) xs))) (get_insert k (take (suc k) xs) off x small few)
      ∙ next_by n (λ y ys. carried_pieces n y ys) xs
      ∙ ap (pieces_of (suc k) n) (sym (drop_insert k xs off x small (omega arith))) in
      (λ i. first i ∷ next i) ∙ ap (λ m. pieces_of (suc k) (suc n) (insert xs m x)) (sym here)
  put_pieces (suc n) (suc at) off place x xs d small is within there =
      let rest = suc k * at + off in
      let long : length (take (suc k) xs) ≡ suc k = length-take-le (suc k) xs (omega arith) in
      let split = insert_past xs (suc k) rest place x (omega arith) (omega arith) in
      let back = insert (drop (suc k) xs) rest x in
      let first : take (suc k) xs ≡ take (suc k) (insert xs place x) = sym (ap (take (suc k)) split ∙ take_at (take (suc k) xs) back (suc k) long) in
      let next : drop (suc k) (insert xs place x) ≡ back = ap (drop (suc k)) split ∙ drop_at (take (suc k) xs) back (suc k) long in
      (λ i. first i ∷ put_pieces n at off rest x (drop (suc k) xs) d small refl (omega (arith, length-drop (suc k) xs)) (omega arith) i)
      ∙ ap (λ l. take (suc k) (insert xs place x) ∷ pieces_of (suc k) n l) (sym next)

  pub put_packed : (ps qs : List (List X)) (d q : List X) (o : Option X) (at off place : ℕ) (x : X) → IsPacked (suc k) ps → off ≤ k → place ≡ suc k * at + off
      → place ≤ length (flat ps) → length (flat ps) + 1 ≤ suc k * length ps → at < length ps
      → q ≡ take (suc k) (insert (get_or ps at d) off x)
      → o ≡ slice_get (insert (get_or ps at d) off x) (suc k)
      → qs ≡ take (at + 1) (set ps at q) ++ carried (suc k) o (drop (at + 1) (set ps at q))
      → IsPacked (suc k) qs × (flat qs ≡ insert (flat ps) place x) × (length qs ≡ length ps)
  put_packed ps qs d q o at off place x packed small is within room there q_is o_is qs_is =
      let n = length ps in let xs = flat ps in
      let whole = packed_is (suc k) ps packed in
      let one : at + 1 ≡ suc at = omega arith in
      packed_of (suc k) n (insert xs place x) qs
      (qs_is ∙ (λ i. take (one i) (set ps at (q_is i)) ++ carried (suc k) (o_is i) (drop (one i) (set ps at (q_is i))))
      ∙ ap (λ (l : List (List X)). put_at (suc k) l at off x (get_or l at d)) whole ∙ put_pieces n at off place x xs d small is within there)
      (omega (arith, length-insert xs place x within))
