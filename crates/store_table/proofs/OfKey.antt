-- The versions of a key stand together in key order.
use Rattle.std.proofs.Common.{◌≡◌, ◌<◌, ◌≤◌, ◌+◌, ◌⊎◌, inl, inr, ℕ, zero, suc, refl, sym, ap, subst, ◌∙◌, Bool, true, false, cond, List, [], ◌∷◌, map, length, get_or, take, drop, Option, Some, None, ◌-◌, arith}
use Rattle.std.specs.Prelude.{is_none, not, ◌&&◌, ◌||◌, if◌then◌else◌}
use Rattle.std.specs.List.{AllByRecursion, drop-map, filter, list_any, prefix_len, take-map}
use Rattle.std.specs.List.Sorted.{IsPartitionedBy}
use Rattle.std.specs.Cmp.{IsTotalOrder}
use Rattle.std.specs.Ordering.{is_eq, is_gt, is_le, is_lt, ordering_reverse, ordering_then}
use Rattle.std.specs.declared.cmp.Ordering.{Ordering}
use Rattle.std.specs.declared.cmp.Ordering.TheVariants.{Less, Equal, Greater}
use Rattle.std.proofs.lemmas.Bool.{true≢false}
use Rattle.std.proofs.lemmas.List.{drop-take}
use Rattle.sql_types.specs.declared.version.Version.{Version}
use Rattle.spec_model.specs.Lists.{inserted, sorted}
use Rattle.spec_model.specs.Rows.{Row, EventId, start_cmp, live}
use Rattle.spec_model.specs.Keys.{Key, key_at, key_cmp, has_live_row_at, live_by_key_at, same_key}
use Rattle.spec_model.specs.Runs.{Rising}
use Rattle.sql_parts.proofs.Orders.{key_total}
use Rattle.store_table.specs.Orders.{key_values, order_cmp, in_order, starts_of, version_at, passes, is_below, is_up_to, is_of_key, has_row_below, row_cmp}
use Rattle.sql_parts.proofs.OneMore.{IsDownward, before_is_downward, parted}
use Rattle.store_table.proofs.InOrder.{order_total, row_total, find_own}
use Rattle.store_table.proofs.Keeping.{row_is}
use Rattle.store_table.specs.Stored as stored
use Rattle.store_table.specs.Stored.{rows_below}
use Rattle.store_table.specs.Kept.{index_seen}
use Rattle.store_table.specs.declared.index.Index.{Index}
use Rattle.std.specs.Prelude.{slice_get}
use Rattle.store_table.proofs.ByKey.{Front, between, one_in_order}
use Rattle.law_frame.proofs.Alls.{all_filter, all_sorted}

-- ---- what is below a key, and what is up to it

not_less_then : (o t : Ordering) → is_lt (ordering_then o t) ≡ false → is_lt o ≡ false
not_less_then Less t h = h
not_less_then Equal t h = refl
not_less_then Greater t h = refl

module _ {K : Type 0} (cmp : K → K → Ordering) (total : IsTotalOrder cmp) where
  up_below : (x y z : K) (o p : Ordering) → cmp y x ≡ o → cmp y z ≡ p → is_lt o ≡ false → is_le p ≡ true → is_le (cmp x z) ≡ true
  up_below x y z Less p e f h k = absurd cc
  up_below x y z Equal p e f h k = ap is_le (sym (total.congr y x z e) ∙ f) ∙ k
  up_below x y z Greater Less e f h k = ap is_le (total.trans x y z (total.antisymm x y ∙ ap ordering_reverse e) f)
  up_below x y z Greater Equal e f h k = ap is_le (total.antisymm x z ∙ ap ordering_reverse (sym (total.congr y z x f) ∙ e))
  up_below x y z Greater Greater e f h k = absurd cc

module _ (places : List ℕ) (k : Key) where
  key_gap : (v w : Version) → is_lt (order_cmp [] places w v) ≡ false → is_lt (key_cmp (key_values places w) (key_values places v)) ≡ false
  unfolding key_cmp
  key_gap v w h = not_less_then (key_cmp (key_values places w) (key_values places v)) (start_cmp w v) h

  pub below_down : IsDownward (order_cmp [] places) (order_total [] places) (is_below places k)
  below_down v w le passes_ = before_is_downward key_cmp key_total k (key_values places v) (key_values places w) (key_gap v w le) passes_

  pub up_down : IsDownward (order_cmp [] places) (order_total [] places) (is_up_to places k)
  up_down v w le passes_ = up_below key_cmp key_total (key_values places v) (key_values places w) k _ _ refl refl (key_gap v w le) passes_

  both_by : (o : Ordering) → is_lt o ≡ true → is_le o ≡ true
  both_by Less h = refl
  both_by Equal h = absurd cc
  both_by Greater h = absurd cc

  pub both : (v : Version) → is_below places k v ≡ true → is_up_to places k v ≡ true
  both v h = both_by (key_cmp (key_values places v) k) h

  eq_by : (o : Ordering) → is_eq o ≡ (not (is_lt o) && is_le o)
  eq_by Less = refl
  eq_by Equal = refl
  eq_by Greater = refl

  pub has_is : (v : Version) → is_of_key places k v ≡ (not (is_below places k v) && is_up_to places k v)
  has_is v = eq_by (key_cmp (key_values places v) k)

-- ---- in front

none_pass : {A : Type 0} (p : A → Bool) (xs : List A) (d : A) → ((j : ℕ) → j < length xs → p (get_or xs j d) ≡ false) → AllByRecursion (λ y. p y ≡ false) xs
none_pass p [] d h = tt
none_pass p (x ∷ xs) d h = (h 0 (omega arith), none_pass p xs d (λ j lt. h (suc j) (omega (arith, lt))))

no_by : (b c : Bool) → (c ≡ true → b ≡ true) → b ≡ false → c ≡ false
no_by b true f e = absurd (true≢false (sym (f refl) ∙ e))
no_by b false f e = refl

pub front : {A : Type 0} (p : A → Bool) (xs : List A) → IsPartitionedBy p xs → Front p xs
front p [] h = tt
front p (x ∷ xs) h = (
  λ fails. none_pass p xs x (λ j lt. no_by (p x) (p (get_or xs j x)) (λ passes_. h 0 (suc j) x (omega arith) (omega (arith, lt)) passes_) fails),
  front p xs (λ i j d le lt passes_. h (suc i) (suc j) d (omega (arith, le)) (omega (arith, lt)) passes_),
)

-- the first element that isn't below decides whether one has the key
pub record FirstHas {A : Type 0} (has : A → Bool) (xs : List A) (n : ℕ) : Type 0 where
  pub hit : (d : A) → n < length xs → has (get_or xs n d) ≡ list_any has xs
  pub miss : length xs ≤ n → false ≡ list_any has xs

one_up : (n : ℕ) → 1 + n ≡ suc n
one_up n = omega arith

module _ {A : Type 0} (below up has : A → Bool) (is : (x : A) → has x ≡ (not (below x) && up x)) where
  none_has : (xs : List A) → AllByRecursion (λ y. up y ≡ false) xs → list_any has xs ≡ false
  none_has [] h = refl
  none_has (x ∷ xs) h = rw (is x, h.0) (by (not (below x)) (none_has xs h.1))
    where
      by : (b : Bool) → list_any has xs ≡ false → ((b && false) || list_any has xs) ≡ false
      by true e = e
      by false e = e

  here_first : (b : Bool) (x : A) (xs : List A) → has x ≡ b → up x ≡ b → (up x ≡ false → AllByRecursion (λ y. up y ≡ false) xs) → has x ≡ list_any has (x ∷ xs)
  here_first true x xs e f rest = rw e refl
  here_first false x xs e f rest = rw e (sym (none_has xs (rest f)))

  first_by : (b : Bool) (x : A) (xs : List A) → below x ≡ b → (up x ≡ false → AllByRecursion (λ y. up y ≡ false) xs)
      → FirstHas has xs (prefix_len below xs) → FirstHas has (x ∷ xs) (cond b (1 + prefix_len below xs) 0)
  first_by true x xs e last rest =
      let hasnt : has x ≡ false = is x ∙ ap (λ (c : Bool). not c && up x) e in
      let any : list_any has (x ∷ xs) ≡ list_any has xs = ap (λ (c : Bool). c || list_any has xs) hasnt in
      rw (one_up (prefix_len below xs)) record {
        hit = λ d inside. rest.hit d (omega (arith, inside)) ∙ sym any;
        miss = λ beyond. rest.miss (omega (arith, beyond)) ∙ sym any;
      }
  first_by false x xs e last rest =
      let same : has x ≡ up x = is x ∙ ap (λ (c : Bool). not c && up x) e in
      record {
        hit = λ d inside. here_first (up x) x xs same refl last;
        miss = λ beyond. absurd (omega (arith, beyond));
      }

  pub first_has : (xs : List A) → Front up xs → FirstHas has xs (prefix_len below xs)
  first_has [] h = record { hit = λ d inside. absurd (omega (arith, inside)); miss = λ beyond. refl }
  first_has (x ∷ xs) h = first_by (below x) x xs refl h.0 (first_has xs h.1)

  pub has_kept : (xs : List A) → filter has xs ≡ filter (λ x. not (below x) && up x) xs
  has_kept [] = refl
  has_kept (x ∷ xs) = rw (is x) (ap (λ (l : List A). if not (below x) && up x then x ∷ l else l) (has_kept xs))

  less_by : (b : Bool) (x : A) (xs : List A) → below x ≡ b → (below x ≡ true → up x ≡ true) → prefix_len below xs ≤ prefix_len up xs → cond b (1 + prefix_len below xs) 0 ≤ prefix_len up (x ∷ xs)
  less_by true x xs e both_ le = rw (both_ e) (omega (arith, le))
  less_by false x xs e both_ le = omega arith

  pub fewer : ((x : A) → below x ≡ true → up x ≡ true) → (xs : List A) → prefix_len below xs ≤ prefix_len up xs
  fewer both_ [] = omega arith
  fewer both_ (x ∷ xs) = less_by (below x) x xs refl (both_ x) (fewer both_ xs)

-- ---- the versions of a key in key order

module _ (places : List ℕ) (k : Key) (vs : List Version) where
  abbrev all : List Version
  all = in_order [] places vs

  front_below : Front (is_below places k) all
  front_below = front (is_below places k) all (parted (order_cmp [] places) (order_total [] places) (is_below places k) (below_down places k) (live vs))

  front_up : Front (is_up_to places k) all
  front_up = front (is_up_to places k) all (parted (order_cmp [] places) (order_total [] places) (is_up_to places k) (up_down places k) (live vs))

  pub ordered : prefix_len (is_below places k) all ≤ prefix_len (is_up_to places k) all
  ordered = fewer (is_below places k) (is_up_to places k) (is_of_key places k) (has_is places k) (both places k) all

  pub starts_between : (order : List EventId) → order ≡ starts_of all
      → drop (prefix_len (is_below places k) all) (take (prefix_len (is_up_to places k) all) order) ≡ starts_of (filter (is_of_key places k) all)
  starts_between order is =
      ap (λ (l : List EventId). drop (prefix_len (is_below places k) all) (take (prefix_len (is_up_to places k) all) l)) is
      ∙ ap (drop (prefix_len (is_below places k) all)) (take-map (λ (v : Version). v.start) (prefix_len (is_up_to places k) all) all)
      ∙ drop-map (λ (v : Version). v.start) (prefix_len (is_below places k) all) (take (prefix_len (is_up_to places k) all) all)
      ∙ ap starts_of (between (is_below places k) (is_up_to places k) (both places k) all front_below front_up ∙ sym (has_kept (is_below places k) (is_up_to places k) (is_of_key places k) (has_is places k) all))

  pub ordered_counts : (m n : ℕ) → m ≡ prefix_len (is_below places k) all → n ≡ prefix_len (is_up_to places k) all → m ≤ n
  ordered_counts m n below up = omega (arith, below, up, ordered)

  -- the starts from one count up to the other
  pub starts_from : (order : List EventId) → order ≡ starts_of all → (m n : ℕ) → m ≡ prefix_len (is_below places k) all → n ≡ prefix_len (is_up_to places k) all
      → take (n - m) (drop m order) ≡ starts_of (filter (is_of_key places k) all)
  starts_from order is m n below up =
      let le = ordered_counts m n below up in
      let whole : m + (n - m) ≡ n = omega (arith, le) in
      sym (drop-take m (n - m) order)
      ∙ ap (λ (i : ℕ). drop m (take i order)) whole
      ∙ ap (λ (i : ℕ). drop i (take n order)) below
      ∙ ap (λ (i : ℕ). drop (prefix_len (is_below places k) all) (take i order)) up
      ∙ starts_between order is

  first : FirstHas (is_of_key places k) all (prefix_len (is_below places k) all)
  first = first_has (is_below places k) (is_up_to places k) (is_of_key places k) (has_is places k) all front_up

  each_found : Rising vs → AllByRecursion (λ w. version_at w.start vs ≡ Some w) all
  each_found r = all_sorted (λ w. version_at w.start vs ≡ Some w) (order_cmp [] places) (live vs) (all_filter (λ w. version_at w.start vs ≡ Some w) (λ w. is_none w.end) vs (find_own vs r))

  at_start : (us : List Version) (n : ℕ) (e : EventId) (d : Version) → AllByRecursion (λ w. version_at w.start vs ≡ Some w) us → n < length us → e ≡ get_or (starts_of us) n e → version_at e vs ≡ Some (get_or us n d)
  at_start [] n e d h inside is = absurd (omega (arith, inside))
  at_start (u ∷ us) zero e d h inside is = ap (λ (x : EventId). version_at x vs) is ∙ h.0
  at_start (u ∷ us) (suc n) e d h inside is = at_start us n e d h.1 (omega (arith, inside)) is

  -- e is the start at the place
  pub has_at : Rising vs → (n : ℕ) (e : EventId) (d : Version) → n ≡ prefix_len (is_below places k) all → n < length all → e ≡ get_or (starts_of all) n e
      → passes (is_of_key places k) (version_at e vs) ≡ list_any (is_of_key places k) all
  has_at r n e d here inside is =
      ap (passes (is_of_key places k)) (at_start all n e d (each_found r) inside is)
      ∙ subst (λ (m : ℕ). m < length all → is_of_key places k (get_or all m d) ≡ list_any (is_of_key places k) all) (sym here) (first.hit d) inside

  pub none_at : (n : ℕ) → n ≡ prefix_len (is_below places k) all → length all ≤ n → false ≡ list_any (is_of_key places k) all
  none_at n here beyond = first.miss (subst (λ (m : ℕ). length all ≤ m) here beyond)

  starts_long : (us : List Version) → length (starts_of us) ≡ length us
  starts_long [] = refl
  starts_long (u ∷ us) = ap suc (starts_long us)

  any_version : Version
  any_version = record { values = []; start = (0, 0); end = None }

  pub row_there : (order : List EventId) → order ≡ starts_of all → Rising vs → (n : ℕ) (e : EventId) → n ≡ prefix_len (is_below places k) all → n < length order → e ≡ get_or order n e
      → passes (is_of_key places k) (version_at e vs) ≡ list_any (is_of_key places k) all
  row_there order is r n e here inside at =
      let long = ap length is ∙ starts_long all in
      has_at r n e any_version here (omega (arith, inside, long)) (at ∙ ap (λ (l : List EventId). get_or l n e) is)

  pub row_nowhere : (order : List EventId) → order ≡ starts_of all → (n : ℕ) → n ≡ prefix_len (is_below places k) all → length order ≤ n → false ≡ list_any (is_of_key places k) all
  row_nowhere order is n here beyond = let long = ap length is ∙ starts_long all in none_at n here (omega (arith, beyond, long))

-- ---- whether a row of a key stands

any_of_kept : {A : Type 0} (p q : A → Bool) (xs : List A) → list_any p (filter q xs) ≡ list_any q (filter p xs)
any_of_kept p q [] = refl
any_of_kept p q (x ∷ xs) = by (p x) (q x) refl refl (any_of_kept p q xs)
  where
    by : (a b : Bool) → p x ≡ a → q x ≡ b → list_any p (filter q xs) ≡ list_any q (filter p xs)
        → list_any p (if b then x ∷ filter q xs else filter q xs) ≡ list_any q (if a then x ∷ filter p xs else filter p xs)
    by true true e f rest = rw (e, f) refl
    by true false e f rest = rw f rest
    by false true e f rest = rw e rest
    by false false e f rest = rest

or_turns : (a b c : Bool) → (a || (b || c)) ≡ (b || (a || c))
or_turns true true c = refl
or_turns true false c = refl
or_turns false b c = refl

any_inserted : {A : Type 0} (cmp : A → A → Ordering) (q : A → Bool) (x : A) (ys : List A) → list_any q (inserted cmp x ys) ≡ (q x || list_any q ys)
any_inserted cmp q x [] = refl
any_inserted cmp q x (y ∷ ys) = by (is_gt (cmp x y)) (any_inserted cmp q x ys)
  where
    by : (b : Bool) → list_any q (inserted cmp x ys) ≡ (q x || list_any q ys) → list_any q (if b then y ∷ inserted cmp x ys else x ∷ y ∷ ys) ≡ (q x || (q y || list_any q ys))
    by true e = ap (λ (c : Bool). q y || c) e ∙ or_turns (q y) (q x) (list_any q ys)
    by false e = refl

any_sorted : {A : Type 0} (cmp : A → A → Ordering) (q : A → Bool) (xs : List A) → list_any q (sorted cmp xs) ≡ list_any q xs
any_sorted cmp q [] = refl
any_sorted cmp q (x ∷ xs) = any_inserted cmp q x (sorted cmp xs) ∙ ap (λ (c : Bool). q x || c) (any_sorted cmp q xs)

pub has_live_row_is : (places : List ℕ) (row : Row) (vs : List Version)
    → has_live_row_at places (key_at places row) vs ≡ list_any (is_of_key places (key_at places row)) (in_order [] places vs)
unfolding has_live_row_at same_key key_at
has_live_row_is places row vs =
    let has = is_of_key places (key_at places row) in
    any_of_kept (λ (v : Version). is_none v.end) has vs ∙ sym (any_sorted (order_cmp [] places) has (live vs))

pub live_starts_of_key : (places : List ℕ) (k : Key) (vs : List Version) → Rising vs
    → starts_of (filter (is_of_key places k) (in_order [] places vs)) ≡ starts_of (live_by_key_at places (Some k) vs)
unfolding same_key key_at
live_starts_of_key places k vs r = ap starts_of (sym (one_in_order places vs r k))

-- ---- another table of the same key

pub no_live_row : (places : List ℕ) (k : Key) → has_live_row_at places k [] ≡ false
unfolding has_live_row_at
no_live_row places k = refl

pub no_live_by_key : (places : List ℕ) (key : Option Key) → live_by_key_at places key [] ≡ []
unfolding live_by_key_at
no_live_by_key places None = refl
no_live_by_key places (Some k) = refl

pub same_has_live_row : (a b : List ℕ) (row : Row) (vs : List Version) → (vs ≡ []) ⊎ (a ≡ b) → has_live_row_at a (key_at a row) vs ≡ has_live_row_at b (key_at b row) vs
same_has_live_row a b row vs which = elim which [
  | inl none ↦ ap (has_live_row_at a (key_at a row)) none ∙ no_live_row a (key_at a row) ∙ sym (no_live_row b (key_at b row)) ∙ ap (has_live_row_at b (key_at b row)) (sym none)
  | inr same ↦ ap (λ (ps : List ℕ). has_live_row_at ps (key_at ps row) vs) same
]

pub same_live_by_key : (a b : List ℕ) (key : Option Key) (vs : List Version) → (vs ≡ []) ⊎ (a ≡ b) → live_by_key_at a key vs ≡ live_by_key_at b key vs
same_live_by_key a b key vs which = elim which [
  | inl none ↦ ap (live_by_key_at a key) none ∙ no_live_by_key a key ∙ sym (no_live_by_key b key) ∙ ap (live_by_key_at b key) (sym none)
  | inr same ↦ ap (λ (ps : List ℕ). live_by_key_at ps key vs) same
]

-- ---- the rows of an index below that of a version

row_gap : (o t : Ordering) → is_lt (ordering_then o t) ≡ false → is_lt o ≡ false
row_gap o t h = not_less_then o t h

pub row_below_down : (ordinals key : List ℕ) (v : Version) → IsDownward (order_cmp ordinals key) (order_total ordinals key) (has_row_below ordinals key v)
row_below_down ordinals key v x y le passes_ =
    before_is_downward (row_cmp ordinals key) (row_total ordinals key) v x y (row_gap (row_cmp ordinals key y x) (start_cmp y x) le) passes_

none_counted : {A : Type 0} (p : A → Bool) (ys : List A) → AllByRecursion (λ y. p y ≡ false) ys → length (filter p ys) ≡ 0
none_counted p [] h = refl
none_counted p (y ∷ ys) h = rw h.0 (none_counted p ys h.1)

-- how many pass, where what passes stands in front
front_count : {A : Type 0} (p : A → Bool) (xs : List A) → Front p xs → prefix_len p xs ≡ length (filter p xs)
front_count p [] h = refl
front_count p (x ∷ xs) h = by (p x) refl (front_count p xs h.1)
  where
    by : (b : Bool) → p x ≡ b → prefix_len p xs ≡ length (filter p xs) → cond b (1 + prefix_len p xs) 0 ≡ length (if b then x ∷ filter p xs else filter p xs)
    by true e rest = ap (λ (n : ℕ). 1 + n) rest ∙ omega arith
    by false e rest = sym (none_counted p xs (h.0 e))

count_inserted : {A : Type 0} (cmp : A → A → Ordering) (p : A → Bool) (x : A) (ys : List A) → length (filter p (inserted cmp x ys)) ≡ length (filter p (x ∷ ys))
count_inserted cmp p x [] = refl
count_inserted cmp p x (y ∷ ys) = by (is_gt (cmp x y)) (count_inserted cmp p x ys)
  where
    swapped : (a b : Bool) → length (if b then y ∷ (if a then x ∷ filter p ys else filter p ys) else (if a then x ∷ filter p ys else filter p ys))
        ≡ length (if a then x ∷ (if b then y ∷ filter p ys else filter p ys) else (if b then y ∷ filter p ys else filter p ys))
    swapped true true = refl
    swapped true false = refl
    swapped false true = refl
    swapped false false = refl

    more : (b : Bool) (us ws : List _) → length us ≡ length ws → length (if b then y ∷ us else us) ≡ length (if b then y ∷ ws else ws)
    more true us ws e = ap suc e
    more false us ws e = e

    by : (b : Bool) → length (filter p (inserted cmp x ys)) ≡ length (filter p (x ∷ ys)) → length (filter p (if b then y ∷ inserted cmp x ys else x ∷ y ∷ ys)) ≡ length (filter p (x ∷ y ∷ ys))
    by true e = more (p y) (filter p (inserted cmp x ys)) (filter p (x ∷ ys)) e ∙ swapped (p x) (p y)
    by false e = refl

count_sorted : {A : Type 0} (cmp : A → A → Ordering) (p : A → Bool) (xs : List A) → length (filter p (sorted cmp xs)) ≡ length (filter p xs)
count_sorted cmp p [] = refl
count_sorted cmp p (x ∷ xs) = count_inserted cmp p x (sorted cmp xs) ∙ more (p x) (filter p (sorted cmp xs)) (filter p xs) (count_sorted cmp p xs)
  where
    more : (b : Bool) (us ws : List _) → length us ≡ length ws → length (if b then x ∷ us else us) ≡ length (if b then x ∷ ws else ws)
    more true us ws e = ap suc e
    more false us ws e = e

-- so many versions that stand have a row below that of the version
pub place_counts : (key ordinals : List ℕ) (v : Version) (vs : List Version) → prefix_len (has_row_below ordinals key v) (in_order ordinals key vs) ≡ rows_below key ordinals v vs
place_counts key ordinals v vs =
    let test = has_row_below ordinals key v in
    front_count test (in_order ordinals key vs) (front test (in_order ordinals key vs) (parted (order_cmp ordinals key) (order_total ordinals key) test (row_below_down ordinals key v) (live vs)))
    ∙ count_sorted (order_cmp ordinals key) test (live vs)
    ∙ sym (λ i. length (filter (λ w. is_lt (row_is key ordinals w v i)) (live vs)))

same_some : {A : Type 0} (x y : A) → (let o : Option A = Some x in let p : Option A = Some y in o ≡ p) → x ≡ y
same_some x y e = cc

seen_at : (xs : List Index) (n : ℕ) (x : Index) (i : stored.Index) → x ≡ get_or xs n x → slice_get (map index_seen xs) n ≡ Some i → index_seen x ≡ i
seen_at [] n x i at is = absurd cc
seen_at (y ∷ ys) zero x i at is = ap index_seen at ∙ same_some (index_seen y) i is
seen_at (y ∷ ys) (suc n) x i at is = seen_at ys n x i at is

-- that is so for the index at a place and for the version of a start
pub counted_of : (key : List ℕ) (vs : List Version) (xs : List Index) (n : ℕ) (x : Index) (w : Version) (start : EventId) (count : ℕ)
    → x ≡ get_or xs n x → version_at start vs ≡ Some w → count ≡ prefix_len (has_row_below x.ordinals key w) (in_order x.ordinals key vs)
    → (i : stored.Index) (v : Version) → slice_get (map index_seen xs) n ≡ Some i → version_at start vs ≡ Some v → count ≡ rows_below key i.ordinals v vs
counted_of key vs xs n x w start count at found counts i v is there =
    let seen : index_seen x ≡ i = seen_at xs n x i at is in
    let one : w ≡ v = same_some w v (sym found ∙ there) in
    counts
    ∙ place_counts key x.ordinals w vs
    ∙ ap (λ (j : stored.Index). rows_below key j.ordinals w vs) seen
    ∙ ap (λ (u : Version). rows_below key i.ordinals u vs) one
