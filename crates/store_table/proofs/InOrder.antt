-- The order of an index with one version more or less.
use Rattle.std.proofs.Common.{◌≡◌, ◌<◌, ◌≤◌, ◌+◌, ℕ, zero, suc, refl, sym, ap, ap₂, subst, ◌∙◌, Bool, true, false, List, [], ◌∷◌, ◌++◌, length, slice_get, Option, Some, None, arith}
use Rattle.std.specs.Prelude.{is_none, if◌then◌else◌}
use Rattle.std.specs.List.{AllByRecursion, insert, remove, prefix_len}
use Rattle.std.specs.List.Sorted.{IsPartitionedBy, IsPartitionPoint}
use Rattle.std.specs.Cmp.{IsTotalOrder, on_total, then_total, tied_itself}
use Rattle.std.specs.Ordering.{is_gt, ordering_then}
use Rattle.std.specs.declared.cmp.Ordering.{Ordering}
use Rattle.std.specs.declared.cmp.Ordering.TheVariants.{Less, Equal, Greater}
use Rattle.std.proofs.lemmas.List.Elements.{filter-append}
use Rattle.std.proofs.lemmas.List.{length-map}
use Rattle.std.proofs.lemmas.List.Sums.{prefix_len-le-length}
use Rattle.sql_types.specs.declared.version.TypedValue.{TypedValue}
use Rattle.sql_types.specs.declared.version.Version.{Version}
use Rattle.spec_model.specs.Lists.{inserted, sorted}
use Rattle.spec_model.specs.Rows.{EventId, event_cmp, same_event, start_cmp, live}
use Rattle.spec_model.specs.Runs.{Rising}
use Rattle.law_frame.proofs.Alls.{all_weaker, all_both, all_filter, all_map, all_sorted}
use Rattle.law_frame.proofs.Sounds.{event_total, start_total}
use Rattle.law_journal.proofs.Counts.{own_same, same_parts}
use Rattle.sql_parts.proofs.Orders.{key_total}
use Rattle.store_table.specs.Orders.{column_values, key_values, row_cmp, order_cmp, in_order, starts_of, version_at, passes, comes_before, place_of}
use Rattle.sql_parts.proofs.OneMore.{inserted_at, removed_at, place_there, place_within, sorted_more, parted, parted_map, prefix_map, point_is, before_is_downward, IsDownward}
use Rattle.store_table.proofs.Splits.{rising_left}

less_apart : (o t : Ordering) → t ≡ Less → ordering_then o t ≡ Equal → ⊥
less_apart Less t less e = cc
less_apart Equal t less e = cc
less_apart Greater t less e = cc

-- ---- who is live

live_with : (xs : List Version) (v : Version) (ys : List Version) → v.end ≡ None → live (xs ++ v ∷ ys) ≡ live xs ++ v ∷ live ys
live_with xs v ys is_live = filter-append (λ w. is_none w.end) xs (v ∷ ys) ∙ ap (λ l. live xs ++ l) (rw is_live refl)

live_past : (xs : List Version) (v : Version) (ys : List Version) (end : EventId) → v.end ≡ Some end → live (xs ++ v ∷ ys) ≡ live (xs ++ ys)
live_past xs v ys end ended =
    filter-append (λ w. is_none w.end) xs (v ∷ ys)
    ∙ ap (λ l. live xs ++ l) (rw ended refl)
    ∙ sym (filter-append (λ w. is_none w.end) xs ys)

module _ (ordinals key : List ℕ) where
  abbrev cmp : Version → Version → Ordering
  cmp = order_cmp ordinals key

  pub order_total : IsTotalOrder (order_cmp ordinals key)
  order_total = then_total (then_total (on_total (column_values ordinals) key_total) (on_total (key_values key) key_total)) start_total

  pub row_total : IsTotalOrder (row_cmp ordinals key)
  row_total = then_total (on_total (column_values ordinals) key_total) (on_total (key_values key) key_total)

  -- ---- one version more or less

  apart_before : (xs : List Version) (v : Version) (ys : List Version) → Rising (xs ++ v ∷ ys) → AllByRecursion (λ w. cmp w v ≡ Equal → ⊥) (live xs)
  apart_before xs v ys r =
      all_filter (λ w. cmp w v ≡ Equal → ⊥) (λ w. is_none w.end) xs
      (all_weaker (λ w. start_cmp w v ≡ Less) (λ w. cmp w v ≡ Equal → ⊥) (λ w less. less_apart (row_cmp ordinals key w v) (start_cmp w v) less) xs (rising_left xs v ys r))

  pub one_more : (xs : List Version) (v : Version) (ys : List Version) → Rising (xs ++ v ∷ ys) → v.end ≡ None
      → in_order ordinals key (xs ++ v ∷ ys) ≡ inserted cmp v (in_order ordinals key (xs ++ ys))
  one_more xs v ys r is_live =
      ap (sorted cmp) (live_with xs v ys is_live)
      ∙ sorted_more cmp order_total (live xs) v (live ys) (apart_before xs v ys r)
      ∙ ap (λ l. inserted cmp v (sorted cmp l)) (sym (filter-append (λ w. is_none w.end) xs ys))

  pub none_more : (xs : List Version) (v : Version) (ys : List Version) (end : EventId) → v.end ≡ Some end
      → in_order ordinals key (xs ++ v ∷ ys) ≡ in_order ordinals key (xs ++ ys)
  none_more xs v ys end ended = ap (sorted cmp) (live_past xs v ys end ended)

  -- ---- the same without the ends of versions

  same_cmp : (v w u : Version) → v.values ≡ w.values → v.start ≡ w.start → cmp v u ≡ cmp w u
  same_cmp v w u same_values same_start =
      ap₂ (λ (values : List (Option TypedValue)) (start : EventId). cmp (record { values = values; start = start; end = None }) u) same_values same_start

  alike_by : (b : Bool) (v w u : Version) (us : List Version) → v.start ≡ w.start → starts_of (inserted cmp v us) ≡ starts_of (inserted cmp w us)
      → starts_of (if b then u ∷ inserted cmp v us else v ∷ u ∷ us) ≡ starts_of (if b then u ∷ inserted cmp w us else w ∷ u ∷ us)
  alike_by true v w u us same rest = ap (λ l. u.start ∷ l) rest
  alike_by false v w u us same rest = ap (λ (s : EventId). s ∷ u.start ∷ starts_of us) same

  pub inserted_alike : (v w : Version) (us : List Version) → v.values ≡ w.values → v.start ≡ w.start → starts_of (inserted cmp v us) ≡ starts_of (inserted cmp w us)
  inserted_alike v w [] same_values same_start = ap (λ (s : EventId). s ∷ []) same_start
  inserted_alike v w (u ∷ us) same_values same_start =
      rw (same_cmp v w u same_values same_start) (alike_by (is_gt (cmp w u)) v w u us same_start (inserted_alike v w us same_values same_start))

-- ---- a version by its start

same_equal : (a b : EventId) → same_event a b ≡ true → event_cmp a b ≡ Equal
same_equal a b e = let p = same_parts a b e in ap₂ (λ (m n : ℕ). event_cmp (m, n) b) p.0 p.1 ∙ tied_itself event_total b

apart_by : (a b : EventId) (s : Bool) → same_event a b ≡ s → event_cmp a b ≡ Less → s ≡ false
apart_by a b true e less = let equal = same_equal a b e in cc
apart_by a b false e less = refl

find_later : (v w : Version) (vs : List Version) → (start_cmp v w ≡ Less) × (version_at w.start vs ≡ Some w) → version_at w.start (v ∷ vs) ≡ Some w
find_later v w vs h = rw (apart_by v.start w.start (same_event v.start w.start) refl h.0) h.1

pub find_own : (vs : List Version) → Rising vs → AllByRecursion (λ w. version_at w.start vs ≡ Some w) vs
find_own [] r = tt
find_own (v ∷ vs) r = (
  rw (own_same v.start) refl,
  all_weaker (λ w. (start_cmp v w ≡ Less) × (version_at w.start vs ≡ Some w)) (λ w. version_at w.start (v ∷ vs) ≡ Some w) (λ w h. find_later v w vs h) vs
      (all_both (λ w. start_cmp v w ≡ Less) (λ w. version_at w.start vs ≡ Some w) vs r.0 (find_own vs r.1)),
)

-- ---- halving

module _ (ordinals key : List ℕ) (test : Version → Bool) (down : IsDownward (order_cmp ordinals key) (order_total ordinals key) test)
    (vs : List Version) (r : Rising vs) (order : List EventId) (is : order ≡ starts_of (in_order ordinals key vs)) where
  agree : AllByRecursion (λ w. passes test (version_at w.start vs) ≡ test w) (in_order ordinals key vs)
  agree =
      all_sorted (λ w. passes test (version_at w.start vs) ≡ test w) (order_cmp ordinals key) (live vs)
      (all_filter (λ w. passes test (version_at w.start vs) ≡ test w) (λ w. is_none w.end) vs
      (all_weaker (λ w. version_at w.start vs ≡ Some w) (λ w. passes test (version_at w.start vs) ≡ test w) (λ w found. ap (passes test) found) vs (find_own vs r)))

  pub order_parted : IsPartitionedBy (λ e. passes test (version_at e vs)) order
  order_parted =
      subst (IsPartitionedBy (λ e. passes test (version_at e vs))) (sym is)
      (parted_map (λ (w : Version). w.start) test (λ e. passes test (version_at e vs)) (in_order ordinals key vs) agree
      (parted (order_cmp ordinals key) (order_total ordinals key) test down (live vs)))

  pub order_place : (n : ℕ) → n ≤ length order
      → IsPartitionPoint (λ e. passes test (version_at e vs) ≡ true) (λ e. passes test (version_at e vs) ≡ false) order n
      → n ≡ prefix_len test (in_order ordinals key vs)
  order_place n within point =
      point_is (λ e. passes test (version_at e vs)) order n within point
      ∙ ap (prefix_len (λ e. passes test (version_at e vs))) is
      ∙ prefix_map (λ (w : Version). w.start) test (λ e. passes test (version_at e vs)) (in_order ordinals key vs) agree

pub comes_before_is_downward : (ordinals key : List ℕ) (v : Version) → IsDownward (order_cmp ordinals key) (order_total ordinals key) (comes_before ordinals key v)
comes_before_is_downward ordinals key v = before_is_downward (order_cmp ordinals key) (order_total ordinals key) v

-- ---- in the list of starts

starts_insert : (us : List Version) (n : ℕ) (v : Version) → starts_of (insert us n v) ≡ insert (starts_of us) n v.start
starts_insert us zero v = refl
starts_insert [] (suc n) v = refl
starts_insert (u ∷ us) (suc n) v = ap (λ l. u.start ∷ l) (starts_insert us n v)

starts_remove : (us : List Version) (n : ℕ) → starts_of (remove us n) ≡ remove (starts_of us) n
starts_remove [] zero = refl
starts_remove [] (suc n) = refl
starts_remove (u ∷ us) zero = refl
starts_remove (u ∷ us) (suc n) = ap (λ l. u.start ∷ l) (starts_remove us n)

-- ---- an item that is put into a list of others

not_there : {A : Type 0} (zs : List A) (p : ℕ) (x : A) → AllByRecursion (λ z. z ≡ x → ⊥) zs → slice_get zs p ≡ Some x → ⊥
not_there [] p x apart at = cc
not_there (z ∷ zs) zero x apart at = apart.0 cc
not_there (z ∷ zs) (suc p) x apart at = not_there zs p x apart.1 at

only_place : {A : Type 0} (zs : List A) (n p : ℕ) (x : A) → n ≤ length zs → AllByRecursion (λ z. z ≡ x → ⊥) zs → slice_get (insert zs n x) p ≡ Some x → p ≡ n
only_place zs zero zero x within apart at = refl
only_place zs zero (suc p) x within apart at = absurd (not_there zs p x apart at)
only_place [] (suc n) p x within apart at = absurd (omega (arith, within))
only_place (z ∷ zs) (suc n) zero x within apart at = absurd (apart.0 cc)
only_place (z ∷ zs) (suc n) (suc p) x within apart at = ap suc (only_place zs n p x (omega (arith, within)) apart.1 at)

module _ (ordinals key : List ℕ) where
  -- a start that is put at the place of its version
  pub put_in_order : (v : Version) (vs : List Version) (order : List EventId) → order ≡ starts_of (in_order ordinals key vs)
      → insert order (place_of ordinals key v vs) v.start ≡ starts_of (inserted (order_cmp ordinals key) v (in_order ordinals key vs))
  put_in_order v vs order is =
      ap (λ l. insert l (place_of ordinals key v vs) v.start) is
      ∙ sym (starts_insert (in_order ordinals key vs) (place_of ordinals key v vs) v)
      ∙ ap starts_of (sym (inserted_at (order_cmp ordinals key) (order_total ordinals key) v (in_order ordinals key vs)))

  -- a start that is taken from the place of its version, which stands between these
  pub taken_from_order : (xs : List Version) (v : Version) (ys : List Version) (order : List EventId) → Rising (xs ++ v ∷ ys) → v.end ≡ None
      → order ≡ starts_of (in_order ordinals key (xs ++ v ∷ ys))
      → remove order (place_of ordinals key v (xs ++ v ∷ ys)) ≡ starts_of (in_order ordinals key (xs ++ ys))
  taken_from_order xs v ys order r is_live is =
      let rest = in_order ordinals key (xs ++ ys) in
      let with = one_more ordinals key xs v ys r is_live in
      let here : place_of ordinals key v (xs ++ v ∷ ys) ≡ prefix_len (comes_before ordinals key v) rest =
      ap (prefix_len (comes_before ordinals key v)) with ∙ place_there (order_cmp ordinals key) (order_total ordinals key) v rest in
      ap (λ l. remove l (place_of ordinals key v (xs ++ v ∷ ys))) (is ∙ ap starts_of with)
      ∙ ap (remove (starts_of (inserted (order_cmp ordinals key) v rest))) here
      ∙ sym (starts_remove (inserted (order_cmp ordinals key) v rest) (prefix_len (comes_before ordinals key v) rest))
      ∙ ap starts_of (removed_at (order_cmp ordinals key) (order_total ordinals key) v rest)

  -- there is such a place
  pub place_inside : (xs : List Version) (v : Version) (ys : List Version) (order : List EventId) → Rising (xs ++ v ∷ ys) → v.end ≡ None
      → order ≡ starts_of (in_order ordinals key (xs ++ v ∷ ys))
      → place_of ordinals key v (xs ++ v ∷ ys) < length order
  place_inside xs v ys order r is_live is =
      let rest = in_order ordinals key (xs ++ ys) in
      let with = one_more ordinals key xs v ys r is_live in
      let here : place_of ordinals key v (xs ++ v ∷ ys) ≡ prefix_len (comes_before ordinals key v) rest =
      ap (prefix_len (comes_before ordinals key v)) with ∙ place_there (order_cmp ordinals key) (order_total ordinals key) v rest in
      let long : length order ≡ length (inserted (order_cmp ordinals key) v rest) =
      ap length is ∙ length-map (in_order ordinals key (xs ++ v ∷ ys)) (λ (w : Version). w.start) ∙ ap length with in
      let within = place_within (order_cmp ordinals key) (order_total ordinals key) v rest in
      omega (arith, here, long, within)

-- ---- how many there are

inserted_longer : {A : Type 0} (cmp : A → A → Ordering) (x : A) (ys : List A) → length (inserted cmp x ys) ≡ suc (length ys)
inserted_longer cmp x [] = refl
inserted_longer cmp x (y ∷ ys) = by (is_gt (cmp x y)) (inserted_longer cmp x ys)
  where
    by : (b : Bool) → length (inserted cmp x ys) ≡ suc (length ys) → length (if b then y ∷ inserted cmp x ys else x ∷ y ∷ ys) ≡ suc (suc (length ys))
    by true rest = ap suc rest
    by false rest = refl

pub sorted_long : {A : Type 0} (cmp : A → A → Ordering) (xs : List A) → length (sorted cmp xs) ≡ length xs
sorted_long cmp [] = refl
sorted_long cmp (x ∷ xs) = inserted_longer cmp x (sorted cmp xs) ∙ ap suc (sorted_long cmp xs)

pub starts_count : (ordinals key : List ℕ) (vs : List Version) → length (starts_of (in_order ordinals key vs)) ≡ length (live vs)
starts_count ordinals key vs = length-map (in_order ordinals key vs) (λ (v : Version). v.start) ∙ sorted_long (order_cmp ordinals key) (live vs)

-- with room for one more start, an order isn't full
pub not_full : (ordinals key : List ℕ) (vs : List Version) (order : List EventId) (capacity : ℕ) → order ≡ starts_of (in_order ordinals key vs) → length (live vs) + 1 ≤ capacity → length order < capacity
not_full ordinals key vs order capacity is room =
    let n = ap length is ∙ starts_count ordinals key vs in omega (arith, n, room)

-- ---- the place of a start

module _ (ordinals key : List ℕ) where
  not_itself : (a b : EventId) → event_cmp a b ≡ Less → a ≡ b → ⊥
  not_itself a b less same = let equal : event_cmp a b ≡ Equal = ap (λ x. event_cmp x b) same ∙ tied_itself event_total b in cc

  others_apart : (xs : List Version) (v : Version) (ys : List Version) → Rising (xs ++ v ∷ ys) → AllByRecursion (λ w. w.start ≡ v.start → ⊥) (xs ++ ys)
  others_apart [] v ys r = all_weaker (λ w. start_cmp v w ≡ Less) (λ w. w.start ≡ v.start → ⊥) (λ w less same. not_itself v.start w.start less (sym same)) ys r.0
  others_apart (x ∷ xs) v ys r = (not_itself x.start v.start (rising_left (x ∷ xs) v ys r).0, others_apart xs v ys r.1)

  -- what stands at the start of a version that stands between these is at its place
  pub place_by_start : (xs : List Version) (v : Version) (ys : List Version) (order : List EventId) (at : ℕ) → Rising (xs ++ v ∷ ys) → v.end ≡ None
      → order ≡ starts_of (in_order ordinals key (xs ++ v ∷ ys)) → slice_get order at ≡ Some v.start → at ≡ place_of ordinals key v (xs ++ v ∷ ys)
  place_by_start xs v ys order at r is_live is found =
      let rest = in_order ordinals key (xs ++ ys) in
      let with = one_more ordinals key xs v ys r is_live in
      let here : place_of ordinals key v (xs ++ v ∷ ys) ≡ prefix_len (comes_before ordinals key v) rest =
      ap (prefix_len (comes_before ordinals key v)) with ∙ place_there (order_cmp ordinals key) (order_total ordinals key) v rest in
      let put : order ≡ insert (starts_of rest) (place_of ordinals key v (xs ++ ys)) v.start = is ∙ ap starts_of with ∙ sym (put_in_order ordinals key v (xs ++ ys) (starts_of rest) refl) in
      let apart : AllByRecursion (λ e. e ≡ v.start → ⊥) (starts_of rest) =
      all_map (λ w. w.start ≡ v.start → ⊥) (λ e. e ≡ v.start → ⊥) (λ w. w.start) (λ w h. h) rest
      (all_sorted (λ w. w.start ≡ v.start → ⊥) (order_cmp ordinals key) (live (xs ++ ys)) (all_filter (λ w. w.start ≡ v.start → ⊥) (λ w. is_none w.end) (xs ++ ys) (others_apart xs v ys r))) in
      only_place (starts_of rest) (place_of ordinals key v (xs ++ ys)) at v.start
      (omega (arith, prefix_len-le-length (comes_before ordinals key v) rest, length-map rest (λ (w : Version). w.start))) apart (ap (λ l. slice_get l at) (sym put) ∙ found)
      ∙ sym here
