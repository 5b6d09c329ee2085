-- In a list sorted by key and then by start, the first element of a key tells whether any of that key starts before
-- another: where the first doesn't, none does.
use Rattle.std.proofs.Common.{◌≡◌, ◌<◌, ◌≤◌, ℕ, zero, suc, zero-le, suc-le-suc, refl, sym, ap, ◌∙◌, Bool, true, false, List, [], ◌∷◌, length, get_or, Option, Some, None, is_lt, IsSorted, arith}
use Rattle.std.proofs.lemmas.Bool.{true≢false, ltb-true}
use Rattle.std.proofs.lemmas.List.Sorted.{ranks_by, sorted_far}
use Rattle.std.specs.Prelude.{◌&&◌, ◌||◌, slice_get, nat_lt}
use Rattle.std.specs.Cmp.{IsTotalOrder}
use Rattle.std.specs.List.{list_any}
use Rattle.std.specs.List.Sorted.{IsPartitionedBy, IsPartitionPoint}
use Rattle.std.specs.declared.cmp.Ordering.{Ordering}
use Rattle.std.specs.declared.cmp.Ordering.TheVariants.{Less, Equal, Greater}
use Rattle.std.specs.Ordering.{is_eq, ordering_reverse, ordering_then}
use Rattle.audit_columns.specs.Runs as runs

both : (a b : Bool) → a && b ≡ true → (a ≡ true) × (b ≡ true)
both true true e = (refl, refl)
both true false e = cc
both false b e = cc

is_equal : (r : Ordering) → is_eq r ≡ true → r ≡ Equal
is_equal Less e = cc
is_equal Equal e = refl
is_equal Greater e = cc

is_less : (r : Ordering) → is_lt r ≡ true → r ≡ Less
is_less Less e = refl
is_less Equal e = cc
is_less Greater e = cc

less_not_equal : (r : Ordering) → is_lt r ≡ true → is_eq r ≡ false
less_not_equal Less e = refl
less_not_equal Equal e = cc
less_not_equal Greater e = refl

module _ {A : Type 0} (by_key by_start : A → A → Ordering) (keys : IsTotalOrder by_key) (starts : IsTotalOrder by_start) (t : A) where
  abbrev cmp : A → A → Ordering
  cmp = runs.run_cmp by_key by_start

  -- it has t's key, and starts before t
  abbrev pub came : A → Bool
  came x = runs.precedes by_key by_start x t

  -- its key is below t's
  abbrev pub below : A → Bool
  below x = is_lt (by_key x t)

  abbrev pub came_at : Option A → Bool
  came_at None = false
  came_at (Some x) = came x

  back : (x y : A) → by_key x y ≡ Equal → by_key y x ≡ Equal
  back x y e = keys.antisymm y x ∙ ap ordering_reverse e

  not_before : (x y : A) → by_start x t ≡ Less → is_lt (by_start x y) ≡ false → by_start y t ≡ Less
  not_before x y less late = here (by_start x y) refl late
    where
      here : (r : Ordering) → by_start x y ≡ r → is_lt r ≡ false → by_start y t ≡ Less
      here Less e f = cc
      here Equal e f = sym (starts.congr x y t e) ∙ less
      here Greater e f = starts.trans y x t (starts.antisymm y x ∙ ap ordering_reverse e) less

  -- x came, and y stands before it and isn't below: so y came too
  came_too : (y x : A) → below y ≡ false → is_lt (cmp x y) ≡ false → came x ≡ true → came y ≡ true
  came_too y x up order is = here (by_key y t) refl up
    where
      key : by_key x t ≡ Equal
      key = is_equal (by_key x t) (both (is_eq (by_key x t)) (is_lt (by_start x t)) is).0

      start : by_start x t ≡ Less
      start = is_less (by_start x t) (both (is_eq (by_key x t)) (is_lt (by_start x t)) is).1

      here : (r : Ordering) → by_key y t ≡ r → is_lt r ≡ false → came y ≡ true
      here Less e f = cc
      here Equal e f =
          let one : by_key x y ≡ Equal = keys.congr x t y key ∙ back y t e in
          let late : is_lt (by_start x y) ≡ false = sym (ap (λ r. is_lt (ordering_then r (by_start x y))) one) ∙ order in
          let less = not_before x y start late in
          rw (e, less) refl
      here Greater e f =
          let less : by_key x y ≡ Less = keys.congr x t y key ∙ keys.antisymm t y ∙ ap ordering_reverse e in
          absurd (true≢false (sym (ap (λ r. is_lt (ordering_then r (by_start x y))) less) ∙ order))

  any_too : (y : A) (xs : List A) → below y ≡ false → ((i : ℕ) (d : A) → i < length xs → is_lt (cmp (get_or xs i d) y) ≡ false) → list_any came xs ≡ true → came y ≡ true
  any_too y [] up order is = cc
  any_too y (x ∷ xs) up order is = here (came x) refl (any_too y xs up (λ i d lt. order (suc i) d (suc-le-suc lt))) is
    where
      here : (b : Bool) → came x ≡ b → (list_any came xs ≡ true → came y ≡ true) → (b || list_any came xs) ≡ true → came y ≡ true
      here true e more f = came_too y x up (order zero x (suc-le-suc zero-le)) e
      here false e more f = more f

  at_point : (ys : List A) (k : ℕ) → ((i : ℕ) (d : A) → i < k → i < length ys → below (get_or ys i d) ≡ true)
      → ((d : A) → k < length ys → below (get_or ys k d) ≡ false)
      → ((i : ℕ) (d : A) → k ≤ i → i < length ys → is_lt (cmp (get_or ys i d) (get_or ys k d)) ≡ false)
      → list_any came ys ≡ came_at (slice_get ys k)
  at_point [] k front here rise = refl
  at_point (y ∷ ys) zero front here rise = by (came y) refl
    where
      none : (c : Bool) → list_any came ys ≡ c → came y ≡ false → c ≡ false
      none true f e = absurd (true≢false (sym (any_too y ys (here y (suc-le-suc zero-le)) (λ i d lt. rise (suc i) d zero-le (suc-le-suc lt)) f) ∙ e))
      none false f e = refl

      by : (b : Bool) → came y ≡ b → (b || list_any came ys) ≡ b
      by true e = refl
      by false e = none (list_any came ys) refl e
  at_point (y ∷ ys) (suc k) front here rise =
      ap (λ (b : Bool). (b && is_lt (by_start y t)) || list_any came ys) (less_not_equal _ (front zero y (suc-le-suc zero-le) (suc-le-suc zero-le)))
      ∙ at_point ys k (λ i d lt within. front (suc i) d (suc-le-suc lt) (suc-le-suc within)) (λ d within. here d (suc-le-suc within))
      (λ i d le within. rise (suc i) d (suc-le-suc le) (suc-le-suc within))

  module _ (order : IsTotalOrder cmp) (ys : List A) (up : IsSorted cmp ys) where
    far : (i j : ℕ) (d : A) → i ≤ j → j < length ys → is_lt (cmp (get_or ys j d) (get_or ys i d)) ≡ false
    far = sorted_far (λ a b. is_lt (cmp a b)) (ranks_by order (λ p. p)) ys up

    -- keys don't fall
    pub parted : IsPartitionedBy below ys
    parted i j d le within e = here (by_key (get_or ys i d) (get_or ys j d)) refl (by_key (get_or ys i d) t) refl
      where
        x : A
        x = get_or ys i d

        y : A
        y = get_or ys j d

        here : (r : Ordering) → by_key x y ≡ r → (s : Ordering) → by_key x t ≡ s → below x ≡ true
        here Less f s g = ap is_lt (keys.trans x y t f (is_less _ e))
        here Equal f s g = ap is_lt (keys.congr x y t f ∙ is_less _ e)
        here Greater f s g =
            let back_ : by_key y x ≡ Less = keys.antisymm y x ∙ ap ordering_reverse f in
            absurd (true≢false (sym (ap (λ r. is_lt (ordering_then r (by_start y x))) back_) ∙ far i j d le within))

    module _ (k : ℕ) (part : IsPartitionPoint (λ x. below x ≡ true) (λ x. below x ≡ false) ys k) where
      found : list_any came ys ≡ came_at (slice_get ys k)
      found = at_point ys k (λ i d lt within. part.0 i d zero-le lt) (λ d within. part.1 k d (omega arith) within) (λ i d le within. far k i d le within)

      some_there : (zs : List A) (n : ℕ) (q : A) → n < length zs → slice_get zs n ≡ Some (get_or zs n q)
      some_there [] n q lt = absurd (omega (arith, lt))
      some_there (z ∷ zs) zero q lt = refl
      some_there (z ∷ zs) (suc n) q lt = some_there zs n q (omega (arith, lt))

      none_there : (zs : List A) (n : ℕ) → length zs ≤ n → slice_get zs n ≡ None
      none_there [] n le = refl
      none_there (z ∷ zs) zero le = absurd (omega (arith, le))
      none_there (z ∷ zs) (suc n) le = none_there zs n (omega (arith, le))

      pub some_came : (q : A) → true ≡ nat_lt k (length ys) → q ≡ get_or ys k q → came q ≡ list_any came ys
      some_came q within is =
          let lt : k < length ys = ltb-true k (length ys) (sym within) in
          ap came_at (ap (λ (p : A). Some p) is ∙ sym (some_there ys k q lt)) ∙ sym found

      pub none_came : length ys ≤ k → false ≡ list_any came ys
      none_came past = ap came_at (sym (none_there ys k past)) ∙ sym found
