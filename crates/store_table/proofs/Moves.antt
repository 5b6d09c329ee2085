-- What is kept beside the versions, as one of them starts or ends, or that is taken back.
use Rattle.std.proofs.Common.{◌≡◌, ◌<◌, ℕ, suc, sym, ap, subst, ◌∙◌, List, [], ◌∷◌, ◌++◌, length, get_or, slice_get, take, drop, Some, None, arith}
use Rattle.std.specs.Prelude.{slice_set}
use Rattle.std.specs.List.{remove, HoldsAt}
use Rattle.std.proofs.lemmas.List.{get_or_default}
use Rattle.sql_types.specs.declared.version.Version.{Version}
use Rattle.spec_model.specs.Lists.{inserted, sorted}
use Rattle.spec_model.specs.Rows.{EventId}
use Rattle.spec_model.specs.Runs.{Rising}
use Rattle.law_frame.proofs.Alls.{all_weaker}
use Rattle.store_table.specs.declared.ending.Ending.{Ending}
use Rattle.store_table.specs.declared.index.Index.{Index}
use Rattle.store_table.specs.declared.orders.Orders.{Orders}
use Rattle.store_table.specs.Ends.{ending, ending_cmp, endings_in}
use Rattle.store_table.specs.Kept.{IsOf, IsWith, IndexesAreOf, IndexesAreWith, AreOf}
use Rattle.store_table.specs.Orders.{order_cmp, in_order, starts_of, place_of}
use Rattle.store_table.proofs.Ends.{none_ended, one_ended}
use Rattle.store_table.proofs.InOrder.{one_more, none_more, inserted_alike, taken_from_order, place_by_start, place_inside}
use Rattle.store_table.proofs.Splits.{split_at, set_at, rising_instead, rising_without}

-- ---- the version at a place

module _ (vs : List Version) (p : ℕ) (v : Version) (inside : p < length vs) (is : v ≡ get_or vs p v) where
  abbrev xs : List Version
  xs = take p vs

  abbrev ys : List Version
  ys = drop (suc p) vs

  pub around : vs ≡ xs ++ v ∷ ys
  around = split_at vs p v inside ∙ ap (λ (w : Version). xs ++ w ∷ ys) (sym is)

  pub rising_around : Rising vs → Rising (xs ++ v ∷ ys)
  rising_around r = subst Rising around r

  pub rising_removed : Rising vs → Rising (remove vs p)
  rising_removed r = rising_without xs v ys (rising_around r)

  pub rising_set : (w : Version) → w.start ≡ v.start → Rising vs → Rising (slice_set vs p w)
  rising_set w same r = subst Rising (sym (set_at vs p w inside)) (rising_instead xs v w ys same (rising_around r))

  module _ (ordinals key : List ℕ) (order : List EventId) (r : Rising vs) (is_live : v.end ≡ None) (has : order ≡ starts_of (in_order ordinals key vs)) where
    has_around : order ≡ starts_of (in_order ordinals key (xs ++ v ∷ ys))
    has_around = has ∙ ap (λ l. starts_of (in_order ordinals key l)) around

    taken_at : remove order (place_of ordinals key v vs) ≡ starts_of (in_order ordinals key (remove vs p))
    taken_at =
        ap (λ l. remove order (place_of ordinals key v l)) around
        ∙ taken_from_order ordinals key xs v ys order (rising_around r) is_live has_around

    inside_order : place_of ordinals key v vs < length order
    inside_order = subst (λ l. place_of ordinals key v l < length order) (sym around) (place_inside ordinals key xs v ys order (rising_around r) is_live has_around)

    -- what is found by the version's start
    pub found_at_place : (at : ℕ) → slice_get order at ≡ Some v.start → at ≡ place_of ordinals key v vs
    found_at_place at found =
        place_by_start ordinals key xs v ys order at (rising_around r) is_live has_around found
        ∙ ap (place_of ordinals key v) (sym around)

  -- what an index has where the version ended
  pub index_past : (key : List ℕ) (end : EventId) (i : Index) → v.end ≡ Some end → IsOf key vs i → IsOf key (remove vs p) i
  index_past key end i ended h = h ∙ ap starts_of (ap (in_order i.ordinals key) around ∙ none_more i.ordinals key xs v ys end ended)

  pub index_back : (key : List ℕ) (end : EventId) (i : Index) → v.end ≡ Some end → IsOf key (remove vs p) i → IsOf key vs i
  index_back key end i ended h = h ∙ sym (ap starts_of (ap (in_order i.ordinals key) around ∙ none_more i.ordinals key xs v ys end ended))

  pub indexes_past : (key : List ℕ) (end : EventId) (o : Orders) → v.end ≡ Some end → IndexesAreOf key vs o → IndexesAreOf key (remove vs p) o
  indexes_past key end o ended h = record {
    no_ordinals = h.no_ordinals;
    in_key_order = index_past key end o.key_order ended h.in_key_order;
    indexed = all_weaker (IsOf key vs) (IsOf key (remove vs p)) (λ i k. index_past key end i ended k) o.indexes.items h.indexed;
  }

  pub indexes_back : (key : List ℕ) (end : EventId) (o : Orders) → v.end ≡ Some end → IndexesAreOf key (remove vs p) o → IndexesAreOf key vs o
  indexes_back key end o ended h = record {
    no_ordinals = h.no_ordinals;
    in_key_order = index_back key end o.key_order ended h.in_key_order;
    indexed = all_weaker (IsOf key (remove vs p)) (IsOf key vs) (λ i k. index_back key end i ended k) o.indexes.items h.indexed;
  }

  -- the ends have one more
  pub ends_around : (end : EventId) (ends : List Ending) → Rising vs → v.end ≡ Some end → ends ≡ endings_in vs → ends ≡ inserted ending_cmp (ending end v.start) (endings_in (remove vs p))
  ends_around end ends r ended has = has ∙ ap endings_in around ∙ one_ended xs v ys end (rising_around r) ended

  pub ends_past : (ends : List Ending) → v.end ≡ None → ends ≡ endings_in vs → ends ≡ endings_in (remove vs p)
  ends_past ends is_live has = has ∙ ap endings_in around ∙ ap (sorted ending_cmp) (none_ended xs v ys is_live)

  -- ---- another version in its place

  module _ (w : Version) (same : w.start ≡ v.start) (r : Rising vs) where
    rising_with : Rising (xs ++ w ∷ ys)
    rising_with = rising_instead xs v w ys same (rising_around r)

    index_ended : (key : List ℕ) (end : EventId) (i : Index) → w.end ≡ Some end → IsOf key (remove vs p) i → IsOf key (slice_set vs p w) i
    index_ended key end i ended h = h ∙ sym (ap starts_of (ap (in_order i.ordinals key) (set_at vs p w inside) ∙ none_more i.ordinals key xs w ys end ended))

    pub indexes_ended : (key : List ℕ) (end : EventId) (o : Orders) → w.end ≡ Some end → IndexesAreOf key (remove vs p) o → IndexesAreOf key (slice_set vs p w) o
    indexes_ended key end o ended h = record {
      no_ordinals = h.no_ordinals;
      in_key_order = index_ended key end o.key_order ended h.in_key_order;
      indexed = all_weaker (IsOf key (remove vs p)) (IsOf key (slice_set vs p w)) (λ i k. index_ended key end i ended k) o.indexes.items h.indexed;
    }

    pub ends_ended : (end : EventId) → w.end ≡ Some end → inserted ending_cmp (ending end v.start) (endings_in (remove vs p)) ≡ endings_in (slice_set vs p w)
    ends_ended end ended =
        ap (λ (s : EventId). inserted ending_cmp (ending end s) (endings_in (remove vs p))) (sym same)
        ∙ sym (ap endings_in (set_at vs p w inside) ∙ one_ended xs w ys end rising_with ended)

    index_reopened : (key : List ℕ) (end : EventId) (i : Index) → v.end ≡ Some end → w.end ≡ None → v.values ≡ w.values → IsWith key v vs i → IsOf key (slice_set vs p w) i
    index_reopened key end i ended is_live values h =
        h
        ∙ ap (λ l. starts_of (inserted (order_cmp i.ordinals key) v l)) (ap (in_order i.ordinals key) around ∙ none_more i.ordinals key xs v ys end ended)
        ∙ inserted_alike i.ordinals key v w (in_order i.ordinals key (remove vs p)) values (sym same)
        ∙ sym (ap starts_of (ap (in_order i.ordinals key) (set_at vs p w inside) ∙ one_more i.ordinals key xs w ys rising_with is_live))

    pub indexes_reopened : (key : List ℕ) (end : EventId) (o : Orders) → v.end ≡ Some end → w.end ≡ None → v.values ≡ w.values → IndexesAreWith key v vs o → IndexesAreOf key (slice_set vs p w) o
    indexes_reopened key end o ended is_live values h = record {
      no_ordinals = h.no_ordinals;
      in_key_order = index_reopened key end o.key_order ended is_live values h.in_key_order;
      indexed = all_weaker (IsWith key v vs) (IsOf key (slice_set vs p w)) (λ i k. index_reopened key end i ended is_live values k) o.indexes.items h.indexed;
    }

    pub ends_reopened : (ends : List Ending) → w.end ≡ None → ends ≡ endings_in (remove vs p) → ends ≡ endings_in (slice_set vs p w)
    ends_reopened ends is_live has = has ∙ sym (ap endings_in (set_at vs p w inside) ∙ ap (sorted ending_cmp) (none_ended xs w ys is_live))

-- a version that stands has no end
pub ends_left : (vs : List Version) (p : ℕ) → p < length vs → HoldsAt (λ v. v.end ≡ None) vs p → (ends : List Ending) → ends ≡ endings_in vs → ends ≡ endings_in (remove vs p)
ends_left (v ∷ vs) p inside is_live ends has =
    let w = get_or (v ∷ vs) p v in
    ends_past (v ∷ vs) p w inside (get_or_default (v ∷ vs) p v w inside) ends (is_live v) has
ends_left [] p inside is_live ends has = absurd (omega (arith, inside))

-- a start that is taken out at the place of its version
pub taken_there : (ordinals key : List ℕ) (vs : List Version) (p n : ℕ) (order : List EventId) → Rising vs → p < length vs → HoldsAt (λ v. v.end ≡ None) vs p
    → order ≡ starts_of (in_order ordinals key vs) → HoldsAt (λ v. n ≡ place_of ordinals key v vs) vs p
    → (n < length order) × (remove order n ≡ starts_of (in_order ordinals key (remove vs p)))
taken_there ordinals key [] p n order r inside is_live has here = absurd (omega (arith, inside))
taken_there ordinals key (v ∷ vs) p n order r inside is_live has here =
    let w = get_or (v ∷ vs) p v in
    let is = get_or_default (v ∷ vs) p v w inside in (
      omega (arith, here v, inside_order (v ∷ vs) p w inside is ordinals key order r (is_live v) has),
      ap (remove order) (here v) ∙ taken_at (v ∷ vs) p w inside is ordinals key order r (is_live v) has,
    )

-- ---- a start

module _ (vs xs : List Version) (v : Version) (ys : List Version) (cut : vs ≡ xs ++ ys) (r : Rising (xs ++ v ∷ ys)) (is_live : v.end ≡ None) where
  index_started : (key : List ℕ) (i : Index) → IsWith key v vs i → IsOf key (xs ++ v ∷ ys) i
  index_started key i h =
      h ∙ ap (λ l. starts_of (inserted (order_cmp i.ordinals key) v (in_order i.ordinals key l))) cut ∙ sym (ap starts_of (one_more i.ordinals key xs v ys r is_live))

  pub are_started : (key : List ℕ) (o : Orders) → IndexesAreWith key v vs o → o.ends.items ≡ endings_in vs → AreOf key (xs ++ v ∷ ys) o
  are_started key o h ends = record {
    are_indexed = record {
      no_ordinals = h.no_ordinals;
      in_key_order = index_started key o.key_order h.in_key_order;
      indexed = all_weaker (IsWith key v vs) (IsOf key (xs ++ v ∷ ys)) (λ i k. index_started key i k) o.indexes.items h.indexed;
    };
    ends = ends ∙ ap endings_in cut ∙ sym (ap (sorted ending_cmp) (none_ended xs v ys is_live));
  }
