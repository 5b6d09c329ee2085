-- Which places are among some, and in which order.
use Rattle.std.proofs.Common.{◌≡◌, ◌⊎◌, inl, inr, ◌<◌, ◌≤◌, ◌+◌, ◌-◌, ℕ, zero, suc, Bool, true, false, cond, List, [], ◌∷◌, ◌++◌, map, take, drop, length, get_or, refl, sym, ap, subst, ◌∙◌, arith}
use Rattle.std.specs.List.{AllPairs, filter, insert}
use Rattle.std.proofs.lemmas.Bool.{cases_order}
use Rattle.std.proofs.lemmas.List.{take-append-drop}
use Rattle.std.proofs.lemmas.List.Edits.{length-insert, get_or-insert_below, get_or-insert_at, get_or-insert_above, get_or-between, length-between}
use Rattle.std.specs.Prelude.{slice_range}
use Rattle.store_locks.specs.Index.{Has}

pub has_at : (xs : List ℕ) (p : ℕ) → Has xs p → (k : ℕ) × (k < length xs) × (get_or xs k 0 ≡ p)
has_at [] p has = absurd has
has_at (x ∷ xs) p (inl is) = (0, omega arith, is)
has_at (x ∷ xs) p (inr has) = let at = has_at xs p has in (suc at.0, omega arith, at.2)

pub at_has : (xs : List ℕ) (k : ℕ) → k < length xs → Has xs (get_or xs k 0)
at_has [] k inside = absurd (omega arith)
at_has (x ∷ xs) zero inside = inl refl
at_has (x ∷ xs) (suc k) inside = inr (at_has xs k (omega arith))

pub has_left : (xs ys : List ℕ) (p : ℕ) → Has xs p → Has (xs ++ ys) p
has_left [] ys p has = absurd has
has_left (x ∷ xs) ys p (inl is) = inl is
has_left (x ∷ xs) ys p (inr has) = inr (has_left xs ys p has)

pub has_right : (xs ys : List ℕ) (p : ℕ) → Has ys p → Has (xs ++ ys) p
has_right [] ys p has = has
has_right (x ∷ xs) ys p has = inr (has_right xs ys p has)

has_either : (xs ys : List ℕ) (p : ℕ) → Has (xs ++ ys) p → Has xs p ⊎ Has ys p
has_either [] ys p has = inr has
has_either (x ∷ xs) ys p (inl is) = inl (inl is)
has_either (x ∷ xs) ys p (inr has) = elim (has_either xs ys p has) [ inl left ↦ inl (inr left) | inr right ↦ inr right ]

-- ---- an insert

pub inserted_has : (xs : List ℕ) (n y : ℕ) → Has (insert xs n y) y
inserted_has xs n y = has_right (take n xs) (y ∷ drop n xs) y (inl refl)

pub insert_has : (xs : List ℕ) (n y p : ℕ) → Has xs p → Has (insert xs n y) p
insert_has xs n y p has =
    let split : Has (take n xs ++ drop n xs) p = subst (λ (l : List ℕ). Has l p) (sym (take-append-drop n xs)) has in
    elim (has_either (take n xs) (drop n xs) p split) [
      | inl left ↦ has_left (take n xs) (y ∷ drop n xs) p left
      | inr right ↦ has_right (take n xs) (y ∷ drop n xs) p (inr right)
    ]

module _ (R : ℕ → ℕ → Type 0) (xs : List ℕ) (n y : ℕ) where
  abbrev Before : Type 0
  Before = (k d : ℕ) → k < n → R (get_or xs k d) y

  abbrev Behind : Type 0
  Behind = (k d : ℕ) → n ≤ k → k < length xs → R y (get_or xs k d)

  -- the second of the two is at or behind the new one
  behind_new : n ≤ length xs → AllPairs R xs → Before → Behind → (i j d : ℕ) → i < j + 1 → n ≤ j → j < length xs → R (get_or (insert xs n y) i d) (get_or (insert xs n y) (j + 1) d)
  behind_new le pairs before behind i j d ij at inside =
      rw (get_or-insert_above xs n y d j at le)
      (elim (cases_order i n) [
        | inl same ↦ subst (λ m. R (get_or (insert xs n y) m d) (get_or xs j d)) (sym same) (rw (get_or-insert_at xs n y d le) (behind j d at inside))
        | inr other ↦ elim other [
          | inl below ↦ rw (get_or-insert_below xs n y d i below le) (pairs i j d (omega arith) inside)
          | inr above ↦
              let e : i ≡ (i - 1) + 1 = omega arith in
              subst (λ m. R (get_or (insert xs n y) m d) (get_or xs j d)) (sym e) (rw (get_or-insert_above xs n y d (i - 1) (omega arith) le) (pairs (i - 1) j d (omega arith) inside))
        ]
      ])

  pub pairs_insert : n ≤ length xs → AllPairs R xs → Before → Behind → AllPairs R (insert xs n y)
  pairs_insert le pairs before behind = λ i j d ij inside.
      let more : length (insert xs n y) ≡ length xs + 1 = length-insert xs n y le in
      elim (cases_order j n) [
        | inl same ↦ subst (λ m. R (get_or (insert xs n y) i d) (get_or (insert xs n y) m d)) (sym same)
            (rw (get_or-insert_at xs n y d le, get_or-insert_below xs n y d i (omega arith) le) (before i d (omega arith)))
        | inr other ↦ elim other [
          | inl below ↦ rw (get_or-insert_below xs n y d i (omega arith) le, get_or-insert_below xs n y d j below le) (pairs i j d ij (omega arith))
          | inr above ↦
              let e : j ≡ (j - 1) + 1 = omega arith in
              subst (λ m. R (get_or (insert xs n y) i d) (get_or (insert xs n y) m d)) (sym e) (behind_new le pairs before behind i (j - 1) d (omega arith) (omega arith) (omega arith))
        ]
      ]

-- ---- a filter

keep_by : (b : Bool) (x : ℕ) (xs : List ℕ) (p : ℕ) → Has xs p → Has (cond b (x ∷ xs) xs) p
keep_by true x xs p has = inr has
keep_by false x xs p has = has

kept_first : (b : Bool) (x : ℕ) (xs : List ℕ) (p : ℕ) → b ≡ true → x ≡ p → Has (cond b (x ∷ xs) xs) p
kept_first true x xs p kept is = inl is
kept_first false x xs p kept is = absurd cc

pub filter_has : (test : ℕ → Bool) (xs : List ℕ) (p : ℕ) → Has xs p → test p ≡ true → Has (filter test xs) p
filter_has test [] p has kept = absurd has
filter_has test (x ∷ xs) p (inl is) kept = kept_first (test x) x (filter test xs) p (ap test is ∙ kept) is
filter_has test (x ∷ xs) p (inr has) kept = keep_by (test x) x (filter test xs) p (filter_has test xs p has kept)

-- ---- a map

pub map_has : (f : ℕ → ℕ) (xs : List ℕ) (p : ℕ) → Has xs p → Has (map f xs) (f p)
map_has f [] p has = absurd has
map_has f (x ∷ xs) p (inl is) = inl (ap f is)
map_has f (x ∷ xs) p (inr has) = inr (map_has f xs p has)

-- ---- a part

pub between_has : (xs : List ℕ) (low high k : ℕ) → low ≤ k → k < high → high ≤ length xs → Has (slice_range xs low high) (get_or xs k 0)
between_has xs low high k from to inside =
    let e : low + (k - low) ≡ k = omega arith in
    let len : length (slice_range xs low high) ≡ high - low = length-between xs low high inside in
    let at : get_or (slice_range xs low high) (k - low) 0 ≡ get_or xs k 0 = get_or-between xs low high (k - low) 0 (omega arith) ∙ ap (λ m. get_or xs m 0) e in
    subst (λ p. Has (slice_range xs low high) p) at (at_has (slice_range xs low high) (k - low) (omega arith))
