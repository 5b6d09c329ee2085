-- Pieces after a start was taken out.
use Rattle.std.proofs.Common.{◌≡◌, ◌<◌, ◌≤◌, ◌+◌, ◌*◌, ◌⊎◌, ℕ, zero, suc, refl, sym, ap, ◌∙◌, inl, inr, List, [], ◌∷◌, ◌++◌, length, take, drop, get_or, set, slice_get, Option, Some, None, arith, append-nil, append_assoc, take_all, take_at, drop_at, length-append, length-drop, length-take, length-take-le, take-append-drop, add-one}
use Rattle.std.specs.List.{remove}
use Rattle.std.proofs.lemmas.List.{drop_all, nil_from_length}
use Rattle.std.proofs.lemmas.List.Edits.{length-remove, remove-append_left}
use Rattle.store_order.specs.Packed.{IsPacked, filled, filled_from, flat, pieces_of}
use Rattle.store_order.proofs.Edits.{below_or_not, remove_past}
use Rattle.store_order.proofs.Packed.{packed_bound, packed_is, packed_of}

module _ {X : Type 0} (size : ℕ) where
  from_some : (p q : List X) (ps : List (List X)) (x : X) → slice_get q 0 ≡ Some x
      → filled_from size p (q ∷ ps) ≡ take size (p ++ x ∷ []) ∷ filled_from size (drop 1 q) ps
  unfolding filled_from
  from_some p q ps x first =
      ap (λ (o : Option X). elim o as (λ _. List (List X)) [
        | None ↦ p ∷ q ∷ ps
        | Some y ↦ take size (p ++ y ∷ []) ∷ filled_from size (drop 1 q) ps
      ]) first

  from_none : (p q : List X) (ps : List (List X)) → slice_get q 0 ≡ None → filled_from size p (q ∷ ps) ≡ p ∷ q ∷ ps
  unfolding filled_from
  from_none p q ps none =
      ap (λ (o : Option X). elim o as (λ _. List (List X)) [
        | None ↦ p ∷ q ∷ ps
        | Some y ↦ take size (p ++ y ∷ []) ∷ filled_from size (drop 1 q) ps
      ]) none

  empty_stays : (xs : List X) → slice_get xs 0 ≡ None → drop 1 xs ≡ xs
  empty_stays [] none = refl
  empty_stays (x ∷ xs) none = cc

  -- one piece on, of the pieces from a place on
  more_by : (x : X) (ps : List (List X)) (at : ℕ) (d e q r : List X) → suc at < length ps → q ≡ drop 1 (get_or ps (suc at) d)
      → r ≡ take size (get_or (set ps (suc at) q) at e ++ x ∷ [])
      → slice_get (get_or ps (suc at) d) 0 ≡ Some x
      → take (suc at) (set (set ps (suc at) q) at r) ++ filled size (drop (suc at) (set (set ps (suc at) q) at r)) ≡ take at ps ++ filled size (drop at ps)
  unfolding filled
  more_by x [] at d e q r within q_is r_is first = absurd (omega arith)
  more_by x (a ∷ []) at d e q r within q_is r_is first = absurd (omega arith)
  more_by x (a ∷ b ∷ ps) zero d e q r within q_is r_is first = (λ i. r_is i ∷ filled_from size (q_is i) ps) ∙ sym (from_some a b ps x first)
  more_by x (a ∷ b ∷ ps) (suc at) d e q r within q_is r_is first = ap (λ l. a ∷ l) (more_by x (b ∷ ps) at d e q r (omega arith) q_is r_is first)

  pub filled_more : (x : X) (ps : List (List X)) (at : ℕ) (d e q r : List X) → at + 1 < length ps → q ≡ drop 1 (get_or ps (at + 1) d)
      → r ≡ take size (get_or (set ps (at + 1) q) at e ++ x ∷ [])
      → slice_get (get_or ps (at + 1) d) 0 ≡ Some x
      → take (at + 1) (set (set ps (at + 1) q) at r) ++ filled size (drop (at + 1) (set (set ps (at + 1) q) at r)) ≡ take at ps ++ filled size (drop at ps)
  filled_more x ps at d e q r = rw add-one (more_by x ps at d e q r)

  -- where the next piece is empty, or there is none, the pieces stay
  stop_by : (ps : List (List X)) (at : ℕ) (d q : List X) → suc at < length ps → q ≡ drop 1 (get_or ps (suc at) d)
      → slice_get (get_or ps (suc at) d) 0 ≡ None → set ps (suc at) q ≡ take at ps ++ filled size (drop at ps)
  unfolding filled
  stop_by [] at d q within q_is none = absurd (omega arith)
  stop_by (a ∷ []) at d q within q_is none = absurd (omega arith)
  stop_by (a ∷ b ∷ ps) zero d q within q_is none =
      ap (λ (r : List X). a ∷ r ∷ ps) (q_is ∙ empty_stays b none) ∙ sym (from_none a b ps none)
  stop_by (a ∷ b ∷ ps) (suc at) d q within q_is none = ap (λ l. a ∷ l) (stop_by (b ∷ ps) at d q (omega arith) q_is none)

  pub filled_stop : (ps : List (List X)) (at : ℕ) (d q : List X) → at + 1 < length ps → q ≡ drop 1 (get_or ps (at + 1) d)
      → slice_get (get_or ps (at + 1) d) 0 ≡ None → set ps (at + 1) q ≡ take at ps ++ filled size (drop at ps)
  filled_stop ps at d q = rw add-one (stop_by ps at d q)

  pub filled_last : (ps : List (List X)) (at : ℕ) → length ps ≤ at + 1 → ps ≡ take at ps ++ filled size (drop at ps)
  unfolding filled filled_from
  filled_last [] zero end = refl
  filled_last [] (suc at) end = refl
  filled_last (a ∷ []) zero end = refl
  filled_last (a ∷ b ∷ ps) zero end = absurd (omega arith)
  filled_last (a ∷ ps) (suc at) end = ap (λ l. a ∷ l) (filled_last ps at (omega arith))

  -- what the pieces are once an item was taken out of one, and the places behind it were filled
  abbrev removed_at : List (List X) → ℕ → ℕ → List X → List (List X)
  removed_at ps at off p =
      take at (set ps at (remove p off)) ++ filled size (drop at (set ps at (remove p off)))

module _ {X : Type 0} (k : ℕ) where
  filled_pieces : (n : ℕ) (s xs : List X) → length xs ≤ suc k * n → ((length s ≡ k) ⊎ ((xs ≡ []) × (length s ≤ suc k)))
      → filled_from (suc k) (s) (pieces_of (suc k) n xs) ≡ pieces_of (suc k) (suc n) (s ++ xs)
  unfolding filled_from pieces_of
  filled_pieces zero s xs fits room =
      let none : xs ≡ [] = nil_from_length xs (omega arith) in
      let short : length s ≤ suc k = elim room [ inl h ↦ omega arith | inr h ↦ h.1 ] in
      let all : take (suc k) (s ++ xs) ≡ s = ap (λ l. take (suc k) (s ++ l)) none ∙ ap (take (suc k)) (append-nil s) ∙ take_all (suc k) s short in
      ap (λ l. l ∷ []) (sym all)
  filled_pieces (suc n) s [] fits room =
      let short : length s ≤ suc k = elim room [ inl h ↦ omega arith | inr h ↦ h.1 ] in
      let first : take (suc k) (s ++ []) ≡ s = ap (take (suc k)) (append-nil s) ∙ take_all (suc k) s short in
      let next : drop (suc k) (s ++ []) ≡ [] = ap (drop (suc k)) (append-nil s) ∙ drop_all (suc k) s short in
      λ i. sym first i ∷ pieces_of (suc k) (suc n) (sym next i)
  filled_pieces (suc n) s (x ∷ xs) fits room = elim room [
    | inl full ↦
        let whole : s ++ x ∷ xs ≡ (s ++ x ∷ []) ++ xs = sym (append_assoc s (x ∷ []) xs) in
        let long : length (s ++ x ∷ []) ≡ suc k = omega (arith, length-append s (x ∷ [])) in
        let first : take (suc k) (s ++ x ∷ []) ≡ take (suc k) (s ++ x ∷ xs) =
        take_all (suc k) (s ++ x ∷ []) (omega arith) ∙ sym (ap (take (suc k)) whole ∙ take_at (s ++ x ∷ []) xs (suc k) long) in
        let next : drop (suc k) (s ++ x ∷ xs) ≡ take k xs ++ drop k xs =
        ap (drop (suc k)) whole ∙ drop_at (s ++ x ∷ []) xs (suc k) long ∙ sym (take-append-drop k xs) in
        let left : (length (take k xs) ≡ k) ⊎ ((drop k xs ≡ []) × (length (take k xs) ≤ suc k)) = elim (below_or_not k (length xs)) [
          | inl more ↦ inl (length-take-le k xs (omega arith))
          | inr less ↦ inr (drop_all k xs less, omega (arith, length-take k xs))
        ] in
        let rest = filled_pieces n (take k xs) (drop k xs) (omega (arith, length-drop k xs)) left in
        λ i. first i ∷ (rest ∙ ap (pieces_of (suc k) (suc n)) (sym next)) i
    | inr h ↦ let none : x ∷ xs ≡ [] = h.0 in cc
  ]

  removed_pieces : (n at off place : ℕ) (xs : List X) (d : List X) → off ≤ k → place ≡ suc k * at + off → place < length xs → length xs ≤ suc k * n → at < n
      → removed_at (suc k) (pieces_of (suc k) n xs) at off (get_or (pieces_of (suc k) n xs) at d) ≡ pieces_of (suc k) n (remove xs place)
  unfolding pieces_of filled
  removed_pieces zero at off place xs d small is within fits there = absurd (omega arith)
  removed_pieces (suc n) zero off place xs d small is within fits there =
      let here : place ≡ off = omega arith in
      let front = take (suc k) xs in let back = drop (suc k) xs in
      let few : off < length front = omega (arith, length-take (suc k) xs) in
      let less = length-remove front off few in
      let left : (length (remove front off) ≡ k) ⊎ ((back ≡ []) × (length (remove front off) ≤ suc k)) = elim (below_or_not k (length xs)) [
        | inl more ↦ inl (omega (arith, length-take (suc k) xs))
        | inr short ↦ inr (drop_all (suc k) xs (omega arith), omega (arith, length-take (suc k) xs))
      ] in
      filled_pieces n (remove front off) back (omega (arith, length-drop (suc k) xs)) left
      ∙ ap (pieces_of (suc k) (suc n)) (sym (remove-append_left front back off few) ∙ ap (λ l. remove l off) (take-append-drop (suc k) xs) ∙ ap (remove xs) (sym here))
  removed_pieces (suc n) (suc at) off place xs d small is within fits there =
      let rest = suc k * at + off in
      let long : length (take (suc k) xs) ≡ suc k = length-take-le (suc k) xs (omega arith) in
      let split = remove_past xs (suc k) rest place (omega arith) (omega arith) in
      let back = remove (drop (suc k) xs) rest in
      let first : take (suc k) xs ≡ take (suc k) (remove xs place) = sym (ap (take (suc k)) split ∙ take_at (take (suc k) xs) back (suc k) long) in
      let next : drop (suc k) (remove xs place) ≡ back = ap (drop (suc k)) split ∙ drop_at (take (suc k) xs) back (suc k) long in
      (λ i. first i ∷ removed_pieces n at off rest (drop (suc k) xs) d small refl (omega (arith, length-drop (suc k) xs)) (omega (arith, length-drop (suc k) xs)) (omega arith) i)
      ∙ ap (λ l. take (suc k) (remove xs place) ∷ pieces_of (suc k) n l) (sym next)

  pub removed_packed : (ps qs : List (List X)) (d q : List X) (at off place : ℕ) → IsPacked (suc k) ps → off ≤ k → place ≡ suc k * at + off
      → place < length (flat ps) → at < length ps → q ≡ remove (get_or ps at d) off
      → qs ≡ take at (set ps at q) ++ filled (suc k) (drop at (set ps at q))
      → IsPacked (suc k) qs × (flat qs ≡ remove (flat ps) place) × (length qs ≡ length ps)
  removed_packed ps qs d q at off place packed small is within there q_is qs_is =
      let n = length ps in let xs = flat ps in
      let whole = packed_is (suc k) ps packed in
      let fits = packed_bound (suc k) ps packed in
      packed_of (suc k) n (remove xs place) qs
      (qs_is ∙ (λ i. take at (set ps at (q_is i)) ++ filled (suc k) (drop at (set ps at (q_is i))))
      ∙ ap (λ (l : List (List X)). removed_at (suc k) l at off (get_or l at d)) whole ∙ removed_pieces n at off place xs d small is within fits there)
      (omega (arith, length-remove xs place within))
