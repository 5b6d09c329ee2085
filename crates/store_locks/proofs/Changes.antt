-- An index stays one when a hold comes, when the last ones go, and when those of a transaction go.
use Rattle.std.proofs.Common.{◌≡◌, inl, inr, ◌<◌, ◌≤◌, ◌+◌, ℕ, zero, suc, Bool, true, false, cond, ltb, List, [], ◌∷◌, ◌++◌, map, take, drop, length, get_or, Option, Some, None, refl, sym, ap, subst, ◌∙◌, arith}
use Rattle.std.specs.List.{All, AllPairs, filter, insert, slice_get}
use Rattle.std.proofs.lemmas.Bool.{cases_order, lt-ltb, ltb-true}
use Rattle.std.proofs.lemmas.List.{length_push, length-take-le, length-map, get_or-map, get_or_default}
use Rattle.std.proofs.lemmas.List.Elements.{All-append, All-cons, All-take, All-drop, All-weaker, All-filter, All-map, filter_passes}
use Rattle.std.proofs.lemmas.List.Kept.{AllPairs-filter}
use Rattle.std.proofs.lemmas.Option.{slice_get_within}
use Rattle.sql_types.specs.declared.lock.Hold.{Hold}
use Rattle.store_locks.specs.Items.{item_total}
use Rattle.store_locks.specs.Index.{Has, InOrder, Indexed, item_at, passes, staying, item_is_before, stays}
use Rattle.store_locks.proofs.Orders.{less_is_not_greater, upto_turned}
use Rattle.store_locks.proofs.Places.{filter_has, insert_has, inserted_has, map_has, pairs_insert}
use Rattle.store_locks.proofs.Indexes.{item_before, item_last, item_kept, item_there}

-- the order is that of other holds too, where they have the same items at these places
pub same_order : (holds others : List Hold) (places : List ℕ) → All (λ p. item_at others p ≡ item_at holds p) places → AllPairs (InOrder holds) places → AllPairs (InOrder others) places
same_order holds others places same pairs = λ i j d ij inside.
    rw (same i d (omega arith), same j d inside) (pairs i j d ij inside)

-- ---- a hold comes

module _ (holds : List Hold) (h : Hold) (places : List ℕ) (n : ℕ) (is : Indexed holds places) where
  abbrev more : List Hold
  more = holds ++ h ∷ []

  inserted_within : All (λ p. p < length more) (insert places n (length holds))
  inserted_within =
      let len : length more ≡ length holds + 1 = length_push holds h in
      let wide : All (λ p. p < length more) places = All-weaker (λ p. p < length holds) (λ p. p < length more) (λ p below. omega arith) places is.within in
      All-append (λ p. p < length more) (take n places) (length holds ∷ drop n places) (All-take (λ p. p < length more) n places wide)
      (All-cons (λ p. p < length more) (length holds) (drop n places) (omega arith) (All-drop (λ p. p < length more) n places wide))

  inserted_complete : (p : ℕ) → p < length more → Has (insert places n (length holds)) p
  inserted_complete p inside =
      let len : length more ≡ length holds + 1 = length_push holds h in
      elim (cases_order p (length holds)) [
        | inl same ↦ subst (λ q. Has (insert places n (length holds)) q) (sym same) (inserted_has places n (length holds))
        | inr other ↦ elim other [
          | inl below ↦ insert_has places n (length holds) p (is.complete p below)
          | inr above ↦ absurd (omega arith)
        ]
      ]

  inserted_in_order : n ≤ length places → ((k : ℕ) → k < n → item_is_before holds h.request.item (get_or places k 0) ≡ true)
      → ((k : ℕ) → n ≤ k → k < length places → item_is_before holds h.request.item (get_or places k 0) ≡ false) → AllPairs (InOrder more) (insert places n (length holds))
  inserted_in_order le less rest =
      let same : All (λ p. item_at more p ≡ item_at holds p) places =
      All-weaker (λ p. p < length holds) (λ p. item_at more p ≡ item_at holds p) (λ p below. item_before holds (h ∷ []) p below) places is.within in
      let last : item_at more (length holds) ≡ h.request.item = item_last holds h in
      pairs_insert (InOrder more) places n (length holds) le (same_order holds more places same is.in_order)
      (λ k d before. rw (last, same k d (omega arith), get_or_default places k d 0 (omega arith)) (less_is_not_greater _ (less k before)))
      (λ k d at inside. rw (last, same k d inside, get_or_default places k d 0 inside) (upto_turned item_total _ _ (rest k at inside)))

  pub indexed_more : n ≤ length places → ((k : ℕ) → k < n → item_is_before holds h.request.item (get_or places k 0) ≡ true)
      → ((k : ℕ) → n ≤ k → k < length places → item_is_before holds h.request.item (get_or places k 0) ≡ false) → Indexed more (insert places n (length holds))
  indexed_more le less rest = record { within = inserted_within; complete = inserted_complete; in_order = inserted_in_order le less rest }

-- ---- the last ones go

pub indexed_back : (holds : List Hold) (places : List ℕ) (k : ℕ) → k ≤ length holds → Indexed holds places → Indexed (take k holds) (filter (λ p. ltb p k) places)
indexed_back holds places k le is =
    let len : length (take k holds) ≡ k = length-take-le k holds le in
    let below : All (λ p. p < k) (filter (λ p. ltb p k) places) =
    All-weaker (λ p. ltb p k ≡ true) (λ p. p < k) (λ p b. ltb-true p k b) (filter (λ p. ltb p k) places) (filter_passes (λ p. ltb p k) places) in
    record {
      within = rw len below;
      complete = λ p inside. filter_has (λ q. ltb q k) places p (is.complete p (omega arith)) (lt-ltb p k (omega arith));
      in_order = same_order holds (take k holds) (filter (λ p. ltb p k) places)
          (All-weaker (λ p. p < k) (λ p. item_at (take k holds) p ≡ item_at holds p) (λ p b. item_kept holds k p b) (filter (λ p. ltb p k) places) below)
          (AllPairs-filter (InOrder holds) (λ p. ltb p k) places is.in_order);
    }

-- ---- those of a transaction go

module _ (test : Hold → Bool) where
  first_by : (b : Bool) (x h : Hold) (rest : List Hold) → b ≡ true → x ≡ h → slice_get (cond b (x ∷ rest) rest) 0 ≡ Some h
  first_by true x h rest kept same = ap Some same
  first_by false x h rest kept same = absurd cc

  later_by : (b : Bool) (x h : Hold) (rest front : List Hold) → slice_get rest (length front) ≡ Some h → slice_get (cond b (x ∷ rest) rest) (length (cond b (x ∷ front) front)) ≡ Some h
  later_by true x h rest front at = at
  later_by false x h rest front at = at

  -- what stays is behind those before it that stay
  pub stays_at : (holds : List Hold) (p : ℕ) (h : Hold) → slice_get holds p ≡ Some h → test h ≡ true → slice_get (filter test holds) (staying test holds p) ≡ Some h
  stays_at [] p h at kept = absurd cc
  stays_at (x ∷ xs) zero h at kept = let same : x ≡ h = cc in first_by (test x) x h (filter test xs) (ap test same ∙ kept) same
  stays_at (x ∷ xs) (suc p) h at kept = later_by (test x) x h (filter test xs) (filter test (take p xs)) (stays_at xs p h at kept)

  -- each that stays stood somewhere
  was_at_by : (b : Bool) (x : Hold) (xs : List Hold) → test x ≡ b
      → ((q : ℕ) → q < length (filter test xs) → (p : ℕ) × (h : Hold) × (slice_get xs p ≡ Some h) × (test h ≡ true) × (staying test xs p ≡ q))
      → (q : ℕ) → q < length (cond b (x ∷ filter test xs) (filter test xs))
      → (p : ℕ) × (h : Hold) × (slice_get (x ∷ xs) p ≡ Some h) × (test h ≡ true) × (staying test (x ∷ xs) p ≡ q)
  was_at_by true x xs kept rest zero inside = (0, x, refl, kept, refl)
  was_at_by true x xs kept rest (suc q) inside = let at = rest q (omega arith) in (suc at.0, at.1, at.2, at.3, rw kept (ap suc at.4))
  was_at_by false x xs gone rest q inside = let at = rest q inside in (suc at.0, at.1, at.2, at.3, rw gone at.4)

  pub was_at_place : (holds : List Hold) (q : ℕ) → q < length (filter test holds) → (p : ℕ) × (h : Hold) × (slice_get holds p ≡ Some h) × (test h ≡ true) × (staying test holds p ≡ q)
  was_at_place [] q inside = absurd (omega arith)
  was_at_place (x ∷ xs) q inside = was_at_by (test x) x xs refl (was_at_place xs) q inside

stays_at_by : (test : Hold → Bool) (o : Option Hold) → passes test o ≡ true → (h : Hold) × (o ≡ Some h) × (test h ≡ true)
stays_at_by test None kept = absurd cc
stays_at_by test (Some h) kept = (h, refl, kept)

stays_with : (test : Hold → Bool) (holds : List Hold) (p : ℕ) → p < length holds → stays test holds p ≡ true → (h : Hold) × (slice_get holds p ≡ Some h) × (test h ≡ true)
stays_with test holds p inside kept = stays_at_by test (slice_get holds p) kept

pairs_map : (R : ℕ → ℕ → Type 0) (f : ℕ → ℕ) (xs : List ℕ) → AllPairs (λ a b. R (f a) (f b)) xs → AllPairs R (map f xs)
pairs_map R f xs pairs = λ i j d ij inside.
    let len : length (map f xs) ≡ length xs = length-map xs f in
    rw (get_or-map f xs i 0 d (omega arith), get_or-map f xs j 0 d (omega arith)) (pairs i j 0 ij (omega arith))

module _ (test : Hold → Bool) (holds : List Hold) (places : List ℕ) (f : ℕ → ℕ) (is : Indexed holds places)
    (moves : (p : ℕ) → p < length holds → f p ≡ staying test holds p) where
  abbrev left : List ℕ
  left = filter (stays test holds) places

  -- what stays at a place is at the place to which it moves
  abbrev Moved : ℕ → Type 0
  Moved p = (h : Hold) × (slice_get holds p ≡ Some h) × (slice_get (filter test holds) (f p) ≡ Some h)

  moved : All Moved left
  moved = λ k d inside.
      let p = get_or left k d in
      let within : p < length holds = All-filter (stays test holds) (λ q. q < length holds) places is.within k d inside in
      let kept = stays_with test holds p within (filter_passes (stays test holds) places k d inside) in
      (kept.0, kept.1, rw (moves p within) (stays_at test holds p kept.0 kept.1 kept.2))

  same_items : (p : ℕ) → Moved p → item_at (filter test holds) (f p) ≡ item_at holds p
  same_items p m = item_there (filter test holds) (f p) m.0 m.2 ∙ sym (item_there holds p m.0 m.1)

  left_complete : (q : ℕ) → q < length (filter test holds) → Has (map f left) q
  left_complete q inside =
      let found_place = was_at_place test holds q inside in
      let p = found_place.0 in
      let within : p < length holds = slice_get_within holds p found_place.1 found_place.2 in
      let kept : stays test holds p ≡ true = rw found_place.2 found_place.3 in
      let has = map_has f left p (filter_has (stays test holds) places p (is.complete p within) kept) in
      subst (λ r. Has (map f left) r) (moves p within ∙ found_place.4) has

  pub indexed_left : Indexed (filter test holds) (map f left)
  indexed_left = record {
    within = All-map (λ p. p < length (filter test holds)) f left (λ k d inside. let m = moved k d inside in slice_get_within (filter test holds) (f (get_or left k d)) m.0 m.2);
    complete = left_complete;
    in_order = pairs_map (InOrder (filter test holds)) f left (λ i j d ij inside.
        rw (same_items (get_or left i d) (moved i d (omega arith)), same_items (get_or left j d) (moved j d inside))
        (AllPairs-filter (InOrder holds) (stays test holds) places is.in_order i j d ij inside));
  }
