-- What the places in the order of live rows by key are those of.
use Rattle.std.proofs.Common.{◌≡◌, ◌<◌, ◌≤◌, ◌+◌, ◌-◌, ℕ, zero, suc, refl, sym, ap, subst, ◌∙◌, Bool, true, false, cond, List, [], ◌∷◌, map, length, get_or, take, drop, Option, Some, None, filter_map, arith}
use Rattle.std.specs.Prelude.{is_none, if◌then◌else◌, slice_get, slice_range}
use Rattle.std.specs.List.{AllByRecursion, drop-map, filter, prefix_len, take-map}
use Rattle.std.specs.List.Sorted.{IsPartitionedBy, IsPartitionPoint, ties}
use Rattle.std.specs.Cmp.{IsTotalOrder, on_total}
use Rattle.std.specs.Ordering.{is_eq, is_le, is_lt, ordering_reverse}
use Rattle.std.specs.declared.cmp.Ordering.{Ordering}
use Rattle.std.specs.declared.cmp.Ordering.TheVariants.{Less, Equal, Greater}
use Rattle.std.proofs.lemmas.List.{drop-take}
use Rattle.std.proofs.lemmas.List.Kept.{IsSortedBy-filter}
use Rattle.std.proofs.lemmas.List.Sorted.{ranks_by, sorted_far}
use Rattle.std.proofs.lemmas.List.Sums.{prefix_len_is}
use Rattle.sql_types.specs.declared.version.Version.{Version}
use Rattle.spec_model.specs.Lists.{numbered, sorted}
use Rattle.spec_model.specs.Rows.{live}
use Rattle.spec_model.specs.Keys.{Key, key_cmp, live_by_key_at, same_key, version_key_at}
use Rattle.law_frame.proofs.Alls.{all_filter, all_sorted}
use Rattle.sql_parts.proofs.Orders.{key_total}
use Rattle.sql_parts.proofs.Sorting.{is_sorted, is_stable, sorted-map, sorted_stably}
use Rattle.audit_asof.specs.KeyOrder.{ArePlacesOf, Placed, is_below, is_up_to, key_order, live_placed, passes, place_in, placed_cmp}
use Rattle.audit_asof.proofs.Between.{Front, between, fewer, front}

-- ---- each place is that of its row

abbrev row : Placed → Version
row p = p.1

abbrev IsThere : List Version → Placed → Type 0
IsThere vs p = slice_get vs p.0 ≡ Some p.1

there_from : (n : ℕ) (vs all : List Version) → ((k : ℕ) → slice_get all (n + k) ≡ slice_get vs k) → AllByRecursion (IsThere all) (numbered n vs)
there_from n [] all same = tt
there_from n (v ∷ vs) all same = (
  ap (slice_get all) (let e : n ≡ n + 0 = omega arith in e) ∙ same 0,
  there_from (n + 1) vs all (λ k. ap (slice_get all) (let e : n + 1 + k ≡ n + suc k = omega arith in e) ∙ same (suc k)),
)

all_there : (vs : List Version) → AllByRecursion (IsThere vs) (numbered 0 vs)
all_there vs = there_from 0 vs vs (λ k. ap (slice_get vs) (let e : 0 + k ≡ k = omega arith in e))

rows_there : (vs : List Version) (ps : List Placed) → AllByRecursion (IsThere vs) ps → ArePlacesOf vs (map place_in ps) (map row ps)
rows_there vs [] h = refl
rows_there vs (p ∷ ps) h = rw h.0 (ap (λ l. Some p.1 ∷ l) (rows_there vs ps h.1))

live_rows : (n : ℕ) (vs : List Version) → map row (filter (λ p. is_none p.1.end) (numbered n vs)) ≡ live vs
live_rows n [] = refl
live_rows n (v ∷ vs) = by (is_none v.end) (live_rows (n + 1) vs)
  where
    by : (b : Bool) → map row (filter (λ p. is_none p.1.end) (numbered (n + 1) vs)) ≡ live vs
        → map row (if b then (n, v) ∷ filter (λ p. is_none p.1.end) (numbered (n + 1) vs) else filter (λ p. is_none p.1.end) (numbered (n + 1) vs)) ≡ (if b then v ∷ live vs else live vs)
    by true rest = ap (λ l. v ∷ l) rest
    by false rest = rest

abbrev by_key : List ℕ → Version → Version → Ordering
by_key key v w = key_cmp (version_key_at key v) (version_key_at key w)

by_key_total : (key : List ℕ) → IsTotalOrder (by_key key)
by_key_total key = on_total (version_key_at key) key_total

pub placed_total : (key : List ℕ) → IsTotalOrder (placed_cmp key)
placed_total key = on_total (λ (p : Placed). version_key_at key p.1) key_total

pub order_is : (key : List ℕ) (vs : List Version) → ArePlacesOf vs (key_order key vs) (live_by_key_at key None vs)
unfolding key_order live_by_key_at
order_is key vs =
    rows_there vs (sorted (placed_cmp key) (live_placed vs))
    (all_sorted (IsThere vs) (placed_cmp key) (live_placed vs) (all_filter (IsThere vs) (λ p. is_none p.1.end) (numbered 0 vs) (all_there vs)))
    ∙ ap (map Some) (sorted-map row (by_key key) (live_placed vs) ∙ ap (sorted (by_key key)) (live_rows 0 vs))

-- the rows are found by their places
pub rows_found : (vs : List Version) (places : List ℕ) (rows : List Version) → ArePlacesOf vs places rows → filter_map (slice_get vs) places ≡ rows
rows_found vs [] [] e = refl
rows_found vs [] (u ∷ us) e = cc
rows_found vs (n ∷ ns) [] e = cc
rows_found vs (n ∷ ns) (u ∷ us) e =
    let head : slice_get vs n ≡ Some u = cc in
    let rest : map (slice_get vs) ns ≡ map Some us = cc in
    rw head (ap (λ l. u ∷ l) (rows_found vs ns us rest))

-- ---- the live rows of a key among all by key

filters_turn : {A : Type 0} (p q : A → Bool) (xs : List A) → filter p (filter q xs) ≡ filter q (filter p xs)
filters_turn p q [] = refl
filters_turn p q (x ∷ xs) = by (p x) (q x) refl refl (filters_turn p q xs)
  where
    by : (a b : Bool) → p x ≡ a → q x ≡ b → filter p (filter q xs) ≡ filter q (filter p xs) → filter p (if b then x ∷ filter q xs else filter q xs) ≡ filter q (if a then x ∷ filter p xs else filter p xs)
    by true true e f rest = rw (e, f) (ap (λ l. x ∷ l) rest)
    by true false e f rest = rw f rest
    by false true e f rest = rw e rest
    by false false e f rest = rest

sorted_passing : {A : Type 0} (cmp : A → A → Ordering) → IsTotalOrder cmp → (p : A → Bool) (xs : List A) → filter p (sorted cmp xs) ≡ sorted cmp (filter p xs)
sorted_passing cmp total p xs =
    sorted_stably cmp total (filter p xs) (filter p (sorted cmp xs))
    (IsSortedBy-filter (λ x y. is_lt (cmp x y)) (ranks_by total (λ x. x)) p (sorted cmp xs) (is_sorted cmp total xs))
    (λ x. filters_turn (ties (λ y z. is_lt (cmp y z)) x) p (sorted cmp xs)
    ∙ ap (filter p) (is_stable cmp total xs x)
    ∙ filters_turn p (ties (λ y z. is_lt (cmp y z)) x) xs)

of_key_in_order : (key : List ℕ) (k : Key) (vs : List Version)
    → filter (λ v. same_key (version_key_at key v) k) (live_by_key_at key None vs) ≡ live_by_key_at key (Some k) vs
unfolding live_by_key_at
of_key_in_order key k vs =
    sorted_passing (by_key key) (by_key_total key) (λ v. same_key (version_key_at key v) k) (live vs)
    ∙ ap (sorted (by_key key)) (filters_turn (λ v. same_key (version_key_at key v) k) (λ v. is_none v.end) vs)

-- ---- what comes before a key stands in front, and what doesn't come behind it too

module _ {K : Type 0} (cmp : K → K → Ordering) (total : IsTotalOrder cmp) where
  turned : (x y : K) → cmp y x ≡ Greater → cmp x y ≡ Less
  turned x y e = total.antisymm x y ∙ ap ordering_reverse e

  less_is : (r : Ordering) → is_lt r ≡ true → r ≡ Less
  less_is Less h = refl
  less_is Equal h = absurd cc
  less_is Greater h = absurd cc

  below_by : (x y z : K) (o : Ordering) → cmp y x ≡ o → is_lt o ≡ false → is_lt (cmp y z) ≡ true → is_lt (cmp x z) ≡ true
  below_by x y z Less e f passes_ = absurd cc
  below_by x y z Equal e f passes_ = ap is_lt (sym (total.congr y x z e)) ∙ passes_
  below_by x y z Greater e f passes_ = ap is_lt (total.trans x y z (turned x y e) (less_is (cmp y z) passes_))

  up_by : (x y z : K) (o p : Ordering) → cmp y x ≡ o → cmp y z ≡ p → is_lt o ≡ false → is_le p ≡ true → is_le (cmp x z) ≡ true
  up_by x y z Less p e f h k = absurd cc
  up_by x y z Equal p e f h k = ap is_le (sym (total.congr y x z e) ∙ f) ∙ k
  up_by x y z Greater Less e f h k = ap is_le (total.trans x y z (turned x y e) f)
  up_by x y z Greater Equal e f h k = ap is_le (total.antisymm x z ∙ ap ordering_reverse (sym (total.congr y z x f) ∙ e))
  up_by x y z Greater Greater e f h k = absurd cc

-- where one row passes, those before it do
abbrev IsDownward : List ℕ → (Version → Bool) → Type 0
IsDownward key test = (v w : Version) → is_lt (by_key key w v) ≡ false → test w ≡ true → test v ≡ true

pub below_down : (key : List ℕ) (k : Key) → IsDownward key (is_below key k)
below_down key k v w le passes_ = below_by key_cmp key_total (version_key_at key v) (version_key_at key w) k _ refl le passes_

pub up_down : (key : List ℕ) (k : Key) → IsDownward key (is_up_to key k)
up_down key k v w le passes_ = up_by key_cmp key_total (version_key_at key v) (version_key_at key w) k _ _ refl refl le passes_

parted : (key : List ℕ) (test : Version → Bool) → IsDownward key test → (vs : List Version) → IsPartitionedBy test (live_by_key_at key None vs)
unfolding live_by_key_at
parted key test down vs = λ i j d le lt passes_.
    let all = sorted (by_key key) (live vs) in
    down (get_or all i d) (get_or all j d)
    (sorted_far (λ x y. is_lt (by_key key x y)) (ranks_by (by_key_total key) (λ x. x)) all (is_sorted (by_key key) (by_key_total key) (live vs)) i j d le lt) passes_

-- ---- so it is among the places

map_at : {A B : Type 0} (f : A → B) (xs : List A) (k : ℕ) (d : B) (e : A) → k < length xs → get_or (map f xs) k d ≡ f (get_or xs k e)
map_at f [] k d e inside = absurd (omega (arith, inside))
map_at f (x ∷ xs) zero d e inside = refl
map_at f (x ∷ xs) (suc k) d e inside = map_at f xs k d e (omega (arith, inside))

map_length : {A B : Type 0} (f : A → B) (xs : List A) → length (map f xs) ≡ length xs
map_length f [] = refl
map_length f (x ∷ xs) = ap suc (map_length f xs)

module _ {A B : Type 0} (p : A → Bool) (q : B → Bool) where
  same_length : (xs : List A) (ys : List B) → map p xs ≡ map q ys → length xs ≡ length ys
  same_length xs ys same = sym (map_length p xs) ∙ ap length same ∙ map_length q ys

  same_at : (xs : List A) (ys : List B) → map p xs ≡ map q ys → (k : ℕ) (x : A) (y : B) → k < length ys → p (get_or xs k x) ≡ q (get_or ys k y)
  same_at xs ys same k x y inside =
      let long = same_length xs ys same in
      sym (map_at p xs k true x (omega (arith, inside, long))) ∙ ap (λ (bs : List Bool). get_or bs k true) same ∙ map_at q ys k true y inside

  parted_alike : (xs : List A) (ys : List B) → map p xs ≡ map q ys → IsPartitionedBy p xs → IsPartitionedBy q ys
  parted_alike [] ys same so = λ i j d le lt passes_. let long = same_length [] ys same in absurd (omega (arith, lt, long))
  parted_alike (x ∷ xs) ys same so = λ i j d le lt passes_.
      let long = same_length (x ∷ xs) ys same in
      sym (same_at (x ∷ xs) ys same i x d (omega (arith, le, lt)))
      ∙ so i j x le (omega (arith, lt, long)) (same_at (x ∷ xs) ys same j x d lt ∙ passes_)

prefix_of : {A : Type 0} (p : A → Bool) (xs : List A) → prefix_len p xs ≡ prefix_len (λ b. b) (map p xs)
prefix_of p [] = refl
prefix_of p (x ∷ xs) = ap (λ (n : ℕ). cond (p x) (1 + n) 0) (prefix_of p xs)

point_is : {A : Type 0} (p : A → Bool) (xs : List A) (n : ℕ) → n ≤ length xs → IsPartitionPoint (λ x. p x ≡ true) (λ x. p x ≡ false) xs n → n ≡ prefix_len p xs
point_is p [] n within point = omega (arith, within)
point_is p (x ∷ xs) n within point =
    sym (prefix_len_is p (x ∷ xs) n x within (λ k below. point.0 k x (omega arith) below) (λ inside. point.1 n x (omega arith) inside))

module _ (vs : List Version) (test : Version → Bool) where
  abbrev at_place : ℕ → Bool
  at_place n = passes test (slice_get vs n)

  through : (places : List ℕ) → map at_place places ≡ map (passes test) (map (slice_get vs) places)
  through [] = refl
  through (n ∷ ns) = ap (λ l. at_place n ∷ l) (through ns)

  of_rows : (rows : List Version) → map (passes test) (map Some rows) ≡ map test rows
  of_rows [] = refl
  of_rows (v ∷ rows) = ap (λ l. test v ∷ l) (of_rows rows)

  alike : (places : List ℕ) (rows : List Version) → ArePlacesOf vs places rows → map test rows ≡ map at_place places
  alike places rows e = sym (through places ∙ ap (map (passes test)) e ∙ of_rows rows)

module _ (key : List ℕ) (vs : List Version) (order : List ℕ) (is : order ≡ key_order key vs) where
  abbrev all : List Version
  all = live_by_key_at key None vs

  pub places_are : ArePlacesOf vs order all
  places_are = ap (map (slice_get vs)) is ∙ order_is key vs

  module _ (test : Version → Bool) (down : IsDownward key test) where
    pub order_parted : IsPartitionedBy (λ n. passes test (slice_get vs n)) order
    order_parted = parted_alike test (λ n. passes test (slice_get vs n)) all order (alike vs test order all places_are) (parted key test down vs)

    pub count_is : (n : ℕ) → n ≤ length order
        → IsPartitionPoint (λ m. passes test (slice_get vs m) ≡ true) (λ m. passes test (slice_get vs m) ≡ false) order n
        → n ≡ prefix_len test all
    count_is n within point =
        point_is (λ m. passes test (slice_get vs m)) order n within point
        ∙ prefix_of (λ m. passes test (slice_get vs m)) order
        ∙ ap (prefix_len (λ b. b)) (sym (alike vs test order all places_are))
        ∙ sym (prefix_of test all)

  -- ---- the places of a key

  module _ (k : Key) where
    front_below : Front (is_below key k) all
    front_below = front (is_below key k) all (parted key (is_below key k) (below_down key k) vs)

    front_up : Front (is_up_to key k) all
    front_up = front (is_up_to key k) all (parted key (is_up_to key k) (up_down key k) vs)

    le_by : (o : Ordering) → is_lt o ≡ true → is_le o ≡ true
    le_by Less h = refl
    le_by Equal h = absurd cc
    le_by Greater h = absurd cc

    both : (v : Version) → is_below key k v ≡ true → is_up_to key k v ≡ true
    both v h = le_by (key_cmp (version_key_at key v) k) h

    eq_by : (o : Ordering) → is_eq o ≡ (if is_lt o then false else is_le o)
    eq_by Less = refl
    eq_by Equal = refl
    eq_by Greater = refl

    has_is : (v : Version) → same_key (version_key_at key v) k ≡ (if is_below key k v then false else is_up_to key k v)
    unfolding same_key
    has_is v = eq_by (key_cmp (version_key_at key v) k)

    module _ (m n : ℕ) (below : m ≡ prefix_len (is_below key k) all) (up : n ≡ prefix_len (is_up_to key k) all) where
      pub in_turn : m ≤ n
      in_turn = let le = fewer (is_below key k) (is_up_to key k) both all in omega (arith, below, up, le)

      of_key : slice_range all m n ≡ filter (λ v. same_key (version_key_at key v) k) all
      of_key =
          let le = in_turn in
          let whole : m + (n - m) ≡ n = omega (arith, le) in
          sym (drop-take m (n - m) all)
          ∙ ap (λ (i : ℕ). drop m (take i all)) whole
          ∙ ap (λ (i : ℕ). drop i (take n all)) below
          ∙ ap (λ (i : ℕ). drop (prefix_len (is_below key k) all) (take i all)) up
          ∙ between (is_below key k) (is_up_to key k) (λ v. same_key (version_key_at key v) k) both has_is all front_below front_up

      sliced : {A B : Type 0} (f : A → B) (xs : List A) → slice_range (map f xs) m n ≡ map f (slice_range xs m n)
      sliced f xs = ap (take (n - m)) (drop-map f m xs) ∙ take-map f (n - m) (drop m xs)

      pub places_of_key : ArePlacesOf vs (slice_range order m n) (live_by_key_at key (Some k) vs)
      places_of_key =
          sym (sliced (slice_get vs) order)
          ∙ ap (λ (l : List (Option Version)). slice_range l m n) places_are
          ∙ sliced (λ (v : Version). let o : Option Version = Some v in o) all
          ∙ ap (map Some) (of_key ∙ of_key_in_order key k vs)
