-- An index finds all holds on an item, and stays one when holds come and go.
use Rattle.std.proofs.Common.{◌≡◌, inl, inr, ◌<◌, ◌≤◌, ◌+◌, ℕ, zero, suc, Bool, true, false, List, [], ◌∷◌, ◌++◌, map, take, length, get_or, Option, Some, None, refl, sym, ap, subst, ◌∙◌, arith, Ordering}
use Rattle.std.specs.List.{cons_option, filter_map, list_any, slice_get}
use Rattle.std.specs.Prelude.{slice_range}
use Rattle.std.specs.Ordering.{is_lt, is_gt}
use Rattle.std.specs.declared.cmp.Ordering.TheVariants.{Equal}
use Rattle.std.proofs.lemmas.Bool.{cases_lt, cases_order, and_parts, false≢true}
use Rattle.std.proofs.lemmas.List.{take_more, map-append, get_or_push, get_or_append_left, take-map, get_or-take, length-map}
use Rattle.std.proofs.lemmas.List.Elements.{filter_map-append}
use Rattle.std.proofs.lemmas.Option.{slice_get_within, slice_get_read}
use Rattle.std.proofs.lemmas.Map.Keys.{any_passes_from_place}
use Rattle.sql_types.specs.declared.lock.Item.{Item}
use Rattle.sql_types.specs.declared.lock.Item.TheVariants.{Whole}
use Rattle.sql_types.specs.declared.lock.LockRequest.{LockRequest}
use Rattle.spec_model.specs.Locks.{same_item, conflict}
use Rattle.sql_types.specs.declared.lock.Hold.{Hold}
use Rattle.store_locks.specs.Items.{item_cmp, item_total}
use Rattle.spec_model.specs.Holds.{answers, holds_request}
use Rattle.spec_model.specs.InTheWay.{barrier}
use Rattle.store_locks.specs.Index.{Covers, Has, Indexed, item_at, item_of, picked, item_is_before}
use Rattle.store_locks.proofs.Orders.{greater_else, greater_behind, lt_before, not_same, rest_behind, same_is_equal}
use Rattle.store_locks.proofs.Places.{has_at, between_has}
use Rattle.store_locks.proofs.Holders.{any_at, barring_at, barring_from, same_barrier}

-- ---- the item at a place

pub item_there : (holds : List Hold) (p : ℕ) (h : Hold) → slice_get holds p ≡ Some h → item_at holds p ≡ h.request.item
unfolding item_at
item_there [] p h at = absurd cc
item_there (x ∷ xs) zero h at = let same : x ≡ h = cc in ap item_of same
item_there (x ∷ xs) (suc p) h at = item_there xs p h at

pub item_read : (holds : List Hold) (p : ℕ) (h : Hold) → p < length holds → h ≡ get_or holds p h → item_at holds p ≡ h.request.item
item_read holds p h inside is = item_there holds p h (slice_get_read holds (length holds) p h refl inside is)

pub item_before : (holds more : List Hold) (p : ℕ) → p < length holds → item_at (holds ++ more) p ≡ item_at holds p
unfolding item_at
item_before holds more p inside = rw (map-append item_of holds more) (get_or_append_left (map item_of holds) (map item_of more) Whole p (omega (arith, length-map holds item_of)))

pub item_last : (holds : List Hold) (h : Hold) → item_at (holds ++ h ∷ []) (length holds) ≡ h.request.item
unfolding item_at
item_last holds h = rw (map-append item_of holds (h ∷ [])) (get_or_push (map item_of holds) (item_of h) Whole (length holds) (length-map holds item_of))

pub item_kept : (holds : List Hold) (k p : ℕ) → p < k → item_at (take k holds) p ≡ item_at holds p
unfolding item_at
item_kept holds k p inside = rw (← take-map item_of k holds) (get_or-take k (map item_of holds) p Whole inside)

-- ---- picked holds

pub picked_more : (holds : List Hold) (places : List ℕ) (i : ℕ) (h : Hold) → i < length places → slice_get holds (get_or places i 0) ≡ Some h
    → picked holds (take (i + 1) places) ≡ picked holds (take i places) ++ h ∷ []
unfolding picked
picked_more holds places i h inside at =
    rw (take_more places i 0 inside, filter_map-append (slice_get holds) (take i places) (get_or places i 0 ∷ []), at) refl

picked_by : (holds : List Hold) (o : Option Hold) (p : ℕ) (rest : List Hold) → slice_get holds p ≡ o
    → ((q : ℕ) (h : Hold) → slice_get rest q ≡ Some h → (r : ℕ) × (slice_get holds r ≡ Some h))
    → (q : ℕ) (h : Hold) → slice_get (cons_option o rest) q ≡ Some h → (r : ℕ) × (slice_get holds r ≡ Some h)
picked_by holds None p rest is more q h at = more q h at
picked_by holds (Some x) p rest is more zero h at = (p, is ∙ at)
picked_by holds (Some x) p rest is more (suc q) h at = more q h at

pub picked_from : (holds : List Hold) (places : List ℕ) (q : ℕ) (h : Hold) → slice_get (picked holds places) q ≡ Some h → (p : ℕ) × (slice_get holds p ≡ Some h)
unfolding picked
picked_from holds [] q h at = absurd cc
picked_from holds (p ∷ ps) q h at = picked_by holds (slice_get holds p) p (filter_map (slice_get holds) ps) refl (picked_from holds ps) q h at

picked_behind : (o : Option Hold) (rest : List Hold) (h : Hold) → ((q : ℕ) × (slice_get rest q ≡ Some h)) → (q : ℕ) × (slice_get (cons_option o rest) q ≡ Some h)
picked_behind None rest h at = at
picked_behind (Some x) rest h at = (suc at.0, at.1)

pub picked_has : (holds : List Hold) (places : List ℕ) (p : ℕ) (h : Hold) → Has places p → slice_get holds p ≡ Some h → (q : ℕ) × (slice_get (picked holds places) q ≡ Some h)
unfolding picked
picked_has holds [] p h has at = absurd has
picked_has holds (x ∷ xs) p h (inl is) at = let here : slice_get holds x ≡ Some h = ap (slice_get holds) is ∙ at in rw here (0, refl)
picked_has holds (x ∷ xs) p h (inr has) at = picked_behind (slice_get holds x) (filter_map (slice_get holds) xs) h (picked_has holds xs p h has at)

-- ---- what the holds on an item tell

covered : (holds : List Hold) (request : LockRequest) (places : List ℕ) → Covers holds request.item places → (p : ℕ) (h : Hold) → slice_get holds p ≡ Some h
    → same_item request.item h.request.item ≡ true → (q : ℕ) × (slice_get (picked holds places) q ≡ Some h)
covered holds request places covers p h at same =
    picked_has holds places p h (covers p (slice_get_within holds p h at) (ap (same_item request.item) (item_there holds p h at) ∙ same)) at

pub picked_barrier : (holds : List Hold) (places : List ℕ) (tx : ℕ) (request : LockRequest) → Covers holds request.item places → barrier (picked holds places) tx request ≡ barrier holds tx request
picked_barrier holds places tx request covers =
    same_barrier tx request (picked holds places) holds
    (λ a b. let at = barring_at tx request (picked holds places) a b in let there = picked_from holds places at.0 at.1 at.2 in barring_from tx request holds there.0 at.1 a there.1 at.3 at.4)
    (λ a b.
    let at = barring_at tx request holds a b in
    let h = at.1 in
    let same : same_item request.item h.request.item ≡ true = (and_parts (same_item request.item h.request.item) (conflict request.mode h.request.mode) (and_parts _ _ at.3).1).0 in
    let there = covered holds request places covers at.0 at.1 at.2 same in
    barring_from tx request (picked holds places) there.0 at.1 a there.1 at.3 at.4)

any_both : (x y : Bool) → (x ≡ true → y ≡ true) → (y ≡ true → x ≡ true) → x ≡ y
any_both true y there back = sym (there refl)
any_both false true there back = absurd (false≢true (back refl))
any_both false false there back = refl

pub picked_answers : (holds : List Hold) (places : List ℕ) (tx : ℕ) (request : LockRequest) → Covers holds request.item places → list_any (answers tx request) (picked holds places) ≡ holds_request holds tx request
unfolding holds_request
picked_answers holds places tx request covers =
    any_both (list_any (answers tx request) (picked holds places)) (list_any (answers tx request) holds)
    (λ some. let at = any_at (answers tx request) (picked holds places) some in let there = picked_from holds places at.0 at.1 at.2 in any_passes_from_place (answers tx request) holds there.0 at.1 there.1 at.3)
    (λ some.
    let at = any_at (answers tx request) holds some in
    let h = at.1 in
    let same : same_item request.item h.request.item ≡ true = (and_parts _ _ (and_parts _ _ at.3).1).0 in
    let there = covered holds request places covers at.0 at.1 at.2 same in
    any_passes_from_place (answers tx request) (picked holds places) there.0 at.1 there.1 at.3)

-- ---- the places of the holds on an item

not_equal : (o : Ordering) → o ≡ Equal → is_lt o ≡ true → ⊥
not_equal o is less = false≢true (sym (ap is_lt is) ∙ less)

not_greater_equal : (o : Ordering) → o ≡ Equal → is_gt o ≡ true → ⊥
not_greater_equal o is greater = false≢true (sym (ap is_gt is) ∙ greater)

module _ (holds : List Hold) (places : List ℕ) (item : Item) (low high : ℕ) (is : Indexed holds places) where
  abbrev at : ℕ → Item
  at k = item_at holds (get_or places k 0)

  -- what stands at or behind the end isn't the item
  behind_end : low ≤ high → high < length places → is_lt (item_cmp (at high) item) ≡ false → same_item item (at high) ≡ false
      → (k : ℕ) → high ≤ k → k < length places → is_gt (item_cmp (at k) item) ≡ true
  behind_end from inside rest other k above within =
      let greater : is_gt (item_cmp (at high) item) ≡ true = greater_else (item_cmp (at high) item) rest (not_same item (at high) other) in
      elim (cases_order k high) [
        | inl same ↦ subst (λ m. is_gt (item_cmp (at m) item) ≡ true) (sym same) greater
        | inr apart ↦ elim apart [
          | inl below ↦ absurd (omega arith)
          | inr later ↦ greater_behind item_total (at high) (at k) item (is.in_order high k 0 later within) greater
        ]
      ]

  pub group_covers : low ≤ high → high ≤ length places → ((k : ℕ) → k < low → item_is_before holds item (get_or places k 0) ≡ true)
      → ((k : ℕ) → low ≤ k → k < length places → item_is_before holds item (get_or places k 0) ≡ false)
      → (high < length places → same_item item (at high) ≡ false) → Covers holds item (slice_range places low high)
  group_covers from to before behind stop = λ p inside same.
      let found = has_at places p (is.complete p inside) in
      let k = found.0 in
      let equal : item_cmp (at k) item ≡ Equal = ap (λ q. item_cmp (item_at holds q) item) found.2 ∙ same_is_equal item (item_at holds p) same in
      elim (cases_lt k low) [
        | inl below ↦ absurd (not_equal (item_cmp (at k) item) equal (before k below))
        | inr above ↦ elim (cases_lt k high) [
          | inl between ↦ subst (λ q. Has (slice_range places low high) q) found.2 (between_has places low high k above between to)
          | inr past ↦
              let within : k < length places = found.1 in
              let inner : high < length places = omega arith in
              absurd (not_greater_equal (item_cmp (at k) item) equal (behind_end from inner (behind high from inner) (stop inner) k past within))
        ]
      ]

-- ---- halving

pub all_before : (holds : List Hold) (places : List ℕ) (item : Item) (mid : ℕ) → Indexed holds places → mid < length places → item_is_before holds item (get_or places mid 0) ≡ true
    → (k : ℕ) → k < mid + 1 → item_is_before holds item (get_or places k 0) ≡ true
all_before holds places item mid is inside before k upto_mid = elim (cases_lt k mid) [
  | inl below ↦ lt_before item_total (item_at holds (get_or places k 0)) (item_at holds (get_or places mid 0)) item (is.in_order k mid 0 below inside) before
  | inr above ↦ let e : k ≡ mid = omega arith in subst (λ m. item_is_before holds item (get_or places m 0) ≡ true) (sym e) before
]

pub none_before : (holds : List Hold) (places : List ℕ) (item : Item) (mid : ℕ) → Indexed holds places → item_is_before holds item (get_or places mid 0) ≡ false
    → (k : ℕ) → mid ≤ k → k < length places → item_is_before holds item (get_or places k 0) ≡ false
none_before holds places item mid is rest k from inside = elim (cases_lt mid k) [
  | inl above ↦ rest_behind item_total (item_at holds (get_or places mid 0)) (item_at holds (get_or places k 0)) item (is.in_order mid k 0 above inside) rest
  | inr upto ↦ let e : k ≡ mid = omega arith in subst (λ m. item_is_before holds item (get_or places m 0) ≡ false) (sym e) rest
]
