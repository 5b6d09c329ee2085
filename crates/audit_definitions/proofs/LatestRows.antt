-- Rows that stand by the thing that they are about and then by falling change: those that count are found on the way.
use Rattle.std.proofs.Common.{◌≡◌, ◌<◌, ◌≤◌, ℕ, zero, suc, ℤ, arith, inl, inr, zero-le, suc-le-suc, refl, sym, ap, subst, ◌∙◌, Bool, true, false, List, [], ◌∷◌, map, length, get_or, filter, is_lt, IsSorted, Option, Some, None}
use Rattle.std.proofs.lemmas.Bool.Decides.{Decides-int_eq}
use Rattle.std.proofs.lemmas.Int.{ints}
use Rattle.std.proofs.lemmas.List.Sorted.{ranks_by, sorted_far, IsPermutation-map, length_permutation, list_any-IsPermutation}
use Rattle.std.specs.Bool.{Decides}
use Rattle.std.specs.Cmp.{IsTotalOrder, int_cmp_total, int_ranks, on_total, then_total}
use Rattle.std.specs.List.{AllByRecursion, list_all, list_any}
use Rattle.std.specs.List.Sorted.{IsPermutation}
use Rattle.std.specs.Ordering.{MatchOrdering, int_cmp, int_eq, is_gt, ordering_reverse, ordering_then}
use Rattle.std.specs.Prelude.{◌&&◌, ◌||◌, ◌⊎◌, ◌==◌, ◌<ℤ◌, ◌≤ℤ◌, not, if◌then◌else◌}
use Rattle.std.specs.declared.cmp.Ordering.{Ordering}
use Rattle.std.specs.declared.cmp.Ordering.TheVariants.{Less, Equal, Greater}
use Rattle.spec_model.specs.Keys.{same_key}
use Rattle.spec_model.specs.Lists.{sorted}
use Rattle.spec_model.specs.Rows.{Row}
use Rattle.sql_parts.proofs.Sorting.{is_sorted, same_elements}
use Rattle.law_catalog_rows.specs.Differs.{are_rows}
use Rattle.law_catalog_rows.specs.Latest.{number_at, change_of, is_past, is_latest, latest, without_change, latest_said}
use Rattle.law_catalog_rows.proofs.Orders.{filtered}
use Rattle.audit_definitions.specs.LatestRows.{change_cmp, is_older, newest, latest_of}

-- ---- the order

abbrev falling : ℤ → ℤ → Ordering
falling a b = int_cmp b a

falling_total : IsTotalOrder falling
falling_total = record {
  antisymm = λ x y. int_cmp_total.antisymm y x;
  trans = λ x y z e f. int_cmp_total.trans z y x f e;
  congr = λ x y z e. int_cmp_total.antisymm z x ∙ ap ordering_reverse (sym (int_cmp_total.congr y x z e)) ∙ sym (int_cmp_total.antisymm z y);
}

pub changes_total : (k : ℕ) → IsTotalOrder (change_cmp k)
changes_total k = then_total (on_total (number_at k) int_cmp_total) (on_total (change_of k) falling_total)

-- a row that isn't less is about a greater thing, or the same and has no greater change
not_less : (t u c d : ℤ) → is_lt (ordering_then (int_cmp u t) (int_cmp c d)) ≡ false → (t <ℤ u) ⊎ ((t ≡ u) × (d ≤ℤ c))
not_less t u c d = here (int_cmp u t) (int_ranks u t) (int_cmp c d) (int_ranks c d)
  where
    here : (o : Ordering) → MatchOrdering o (u <ℤ t) (u ≡ t) (t <ℤ u) → (p : Ordering) → MatchOrdering p (c <ℤ d) (c ≡ d) (d <ℤ c)
        → is_lt (ordering_then o p) ≡ false → (t <ℤ u) ⊎ ((t ≡ u) × (d ≤ℤ c))
    here Less m p n h = cc
    here Equal m Less n h = cc
    here Equal m Equal n h = inr (sym m, omega (arith, ints, n))
    here Equal m Greater n h = inr (sym m, omega (arith, ints, n))
    here Greater m p n h = inl m

past_so : (t u c d : ℤ) → (int_eq t u && is_gt (int_cmp c d)) ≡ true → (t ≡ u) × (d <ℤ c)
past_so t u c d = here (int_eq t u) (Decides-int_eq t u) (int_cmp c d) (int_ranks c d)
  where
    here : (b : Bool) → Decides b (t ≡ u) → (o : Ordering) → MatchOrdering o (c <ℤ d) (c ≡ d) (d <ℤ c) → (b && is_gt o) ≡ true → (t ≡ u) × (d <ℤ c)
    here false e o m h = cc
    here true e Less m h = cc
    here true e Equal m h = cc
    here true e Greater m h = (e.0 refl, m)

past_where : (t u c d : ℤ) → t ≡ u → d <ℤ c → (int_eq t u && is_gt (int_cmp c d)) ≡ true
past_where t u c d same less = here (int_eq t u) (Decides-int_eq t u) (int_cmp c d) (int_ranks c d)
  where
    here : (b : Bool) → Decides b (t ≡ u) → (o : Ordering) → MatchOrdering o (c <ℤ d) (c ≡ d) (d <ℤ c) → (b && is_gt o) ≡ true
    here false e o m = e.1 same
    here true e Less m = absurd (omega (arith, ints, m, less))
    here true e Equal m = absurd (omega (arith, ints, m, less))
    here true e Greater m = refl

never : (b : Bool) → (b ≡ true → ⊥) → b ≡ false
never true h = absurd (h refl)
never false h = refl

module _ (k : ℕ) where
  -- the second doesn't stand before the first
  abbrev IsBehind : Row → Row → Type 0
  IsBehind a b = is_lt (change_cmp k b a) ≡ false

  place_of : (a b : Row) → IsBehind a b → (number_at k a <ℤ number_at k b) ⊎ ((number_at k a ≡ number_at k b) × (change_of k b ≤ℤ change_of k a))
  place_of a b h = not_less (number_at k a) (number_at k b) (change_of k a) (change_of k b) h

  past : (a b : Row) → is_past k a b ≡ true → (number_at k a ≡ number_at k b) × (change_of k b <ℤ change_of k a)
  past a b h = past_so (number_at k a) (number_at k b) (change_of k a) (change_of k b) h

  -- no row is past one that it stands behind
  not_behind : (a b : Row) → IsBehind a b → is_past k b a ≡ false
  not_behind a b h = never (is_past k b a) (λ e. here (place_of a b h) (past b a e))
    where
      here : (number_at k a <ℤ number_at k b) ⊎ ((number_at k a ≡ number_at k b) × (change_of k b ≤ℤ change_of k a)) → (number_at k b ≡ number_at k a) × (change_of k a <ℤ change_of k b) → ⊥
      here (inl less) p = omega (arith, ints, less, p.0)
      here (inr q) p = omega (arith, ints, q.1, p.1)

  not_itself : (a : Row) → is_past k a a ≡ false
  not_itself a = never (is_past k a a) (λ e. let p = past a a e in omega (arith, ints, p.1))

  past_both : (a b c : Row) → is_past k a b ≡ true → is_past k b c ≡ true → is_past k a c ≡ true
  past_both a b c e f =
      let p = past a b e in
      let q = past b c f in
      past_where (number_at k a) (number_at k c) (change_of k a) (change_of k c) (p.0 ∙ q.0) (omega (arith, ints, p.1, q.1))

  -- what a row is past, that stands behind one that it isn't past, that one is past
  past_between : (a b c : Row) → IsBehind a b → IsBehind b c → is_past k a b ≡ false → is_past k a c ≡ true → is_past k b c ≡ true
  past_between a b c h g not e = here (place_of a b h) (place_of b c g) (past a c e)
    where
      not_past : (number_at k a ≡ number_at k b) → change_of k b <ℤ change_of k a → ⊥
      not_past same less = let is = past_where (number_at k a) (number_at k b) (change_of k a) (change_of k b) same less in cc

      here : (number_at k a <ℤ number_at k b) ⊎ ((number_at k a ≡ number_at k b) × (change_of k b ≤ℤ change_of k a))
          → (number_at k b <ℤ number_at k c) ⊎ ((number_at k b ≡ number_at k c) × (change_of k c ≤ℤ change_of k b))
          → (number_at k a ≡ number_at k c) × (change_of k c <ℤ change_of k a) → is_past k b c ≡ true
      here (inl less) (inl more) p = absurd (omega (arith, ints, less, more, p.0))
      here (inl less) (inr q) p = absurd (omega (arith, ints, less, q.0, p.0))
      here (inr r) (inl more) p = absurd (omega (arith, ints, r.0, more, p.0))
      here (inr r) (inr q) p = by (int_cmp (change_of k b) (change_of k a)) (int_ranks (change_of k b) (change_of k a))
        where
          by : (o : Ordering) → MatchOrdering o (change_of k b <ℤ change_of k a) (change_of k b ≡ change_of k a) (change_of k a <ℤ change_of k b) → is_past k b c ≡ true
          by Less m = absurd (not_past r.0 m)
          by Equal m = past_where (number_at k b) (number_at k c) (change_of k b) (change_of k c) q.0 (omega (arith, ints, m, p.1))
          by Greater m = past_where (number_at k b) (number_at k c) (change_of k b) (change_of k c) q.0 (omega (arith, ints, m, p.1))

  -- ---- on the way

  Rises : List Row → Type 0
  Rises [] = Unit {0}
  Rises (r ∷ rs) = AllByRecursion (IsBehind r) rs × Rises rs

  StandBehind : Option Row → List Row → Type 0
  StandBehind None rows = Unit {0}
  StandBehind (Some last) rows = AllByRecursion (IsBehind last) rows

  abbrev any_past : List Row → Row → Bool
  any_past rows x = list_any (λ a. is_past k a x) rows

  none_past : (r : Row) (rows : List Row) → AllByRecursion (IsBehind r) rows → any_past rows r ≡ false
  none_past r [] h = refl
  none_past r (x ∷ xs) h = rw (not_behind r x h.0, none_past r xs h.1) refl

  filter_same : (p q : Row → Bool) (xs : List Row) → AllByRecursion (λ x. p x ≡ q x) xs → filter p xs ≡ filter q xs
  filter_same p q [] h = refl
  filter_same p q (x ∷ xs) h = rw (h.0, filter_same p q xs h.1) refl

  first_says : (a b c : Bool) → (b ≡ true → a ≡ true) → (a || (b || c)) ≡ (a || c)
  first_says true b c h = refl
  first_says false true c h = let e : false ≡ true = h refl in cc
  first_says false false c h = refl

  second_says : (a b c : Bool) → (a ≡ true → b ≡ true) → (a || (b || c)) ≡ (b || c)
  second_says true b c h = rw (h refl) refl
  second_says false b c h = refl

  abbrev counts_behind : Option Row → List Row → Row → Bool
  counts_behind last rows x = not (is_older k last x || any_past rows x)

  older_past : (last : Option Row) (r x : Row) → is_older k last r ≡ true → is_past k r x ≡ true → is_older k last x ≡ true
  older_past None r x e f = cc
  older_past (Some q) r x e f = past_both q r x e f

  skipped : (last : Option Row) (r : Row) (rows some : List Row) → is_older k last r ≡ true → AllByRecursion (λ x. counts_behind last (r ∷ rows) x ≡ counts_behind last rows x) some
  skipped last r rows [] e = tt
  skipped last r rows (x ∷ xs) e = (ap not (first_says (is_older k last x) (is_past k r x) (any_past rows x) (older_past last r x e)), skipped last r rows xs e)

  past_next : (last : Option Row) (r x : Row) (rows : List Row) → StandBehind last (r ∷ rows) → IsBehind r x → is_older k last r ≡ false → is_older k last x ≡ true → is_past k r x ≡ true
  unfolding StandBehind
  past_next None r x rows h b e f = cc
  past_next (Some q) r x rows h b e f = past_between q r x h.0 b e f

  taken : (last : Option Row) (r : Row) (rows some : List Row) → StandBehind last (r ∷ rows) → AllByRecursion (IsBehind r) some → is_older k last r ≡ false
      → AllByRecursion (λ x. counts_behind last (r ∷ rows) x ≡ counts_behind (Some r) rows x) some
  taken last r rows [] h b e = tt
  taken last r rows (x ∷ xs) h b e =
      (ap not (second_says (is_older k last x) (is_past k r x) (any_past rows x) (past_next last r x rows h b.0 e)), taken last r rows xs h b.1 e)

  tail_behind : (last : Option Row) (r : Row) (rows : List Row) → StandBehind last (r ∷ rows) → StandBehind last rows
  unfolding StandBehind
  tail_behind None r rows h = tt
  tail_behind (Some q) r rows h = h.1

  own : (last : Option Row) (r : Row) (rows : List Row) (b : Bool) → is_older k last r ≡ b → AllByRecursion (IsBehind r) rows → counts_behind last (r ∷ rows) r ≡ not b
  own last r rows true e h = rw e refl
  own last r rows false e h = rw (e, not_itself r, none_past r rows h) refl

  newest_is : (last : Option Row) (rows : List Row) → Rises rows → StandBehind last rows → newest k last rows ≡ filter (counts_behind last rows) rows
  unfolding Rises StandBehind
  newest_is last [] up h = refl
  newest_is last (r ∷ rs) up h = here (is_older k last r) refl (newest_is last rs up.1 (tail_behind last r rs h)) (newest_is (Some r) rs up.1 up.0)
    where
      here : (b : Bool) → is_older k last r ≡ b → newest k last rs ≡ filter (counts_behind last rs) rs → newest k (Some r) rs ≡ filter (counts_behind (Some r) rs) rs
          → newest k last (r ∷ rs) ≡ filter (counts_behind last (r ∷ rs)) (r ∷ rs)
      here true e skip take_ =
          ap (λ (b : Bool). if b then newest k last rs else r ∷ newest k (Some r) rs) e
          ∙ skip ∙ sym (filter_same (counts_behind last (r ∷ rs)) (counts_behind last rs) rs (skipped last r rs rs e))
          ∙ sym (ap (λ (b : Bool). if b then r ∷ filter (counts_behind last (r ∷ rs)) rs else filter (counts_behind last (r ∷ rs)) rs) (own last r rs true e up.0))
      here false e skip take_ =
          ap (λ (b : Bool). if b then newest k last rs else r ∷ newest k (Some r) rs) e
          ∙ ap (λ (l : List Row). r ∷ l) (take_ ∙ sym (filter_same (counts_behind last (r ∷ rs)) (counts_behind (Some r) rs) rs (taken last r rs rs h up.0 e)))
          ∙ sym (ap (λ (b : Bool). if b then r ∷ filter (counts_behind last (r ∷ rs)) rs else filter (counts_behind last (r ∷ rs)) rs) (own last r rs false e up.0))

  -- ---- of sorted rows

  all_places : (P : Row → Type 0) (rs : List Row) → ((j : ℕ) (d : Row) → j < length rs → P (get_or rs j d)) → AllByRecursion P rs
  all_places P [] h = tt
  all_places P (r ∷ rs) h = (h zero r (suc-le-suc zero-le), all_places P rs (λ j d lt. h (suc j) d (suc-le-suc lt)))

  rises_far : (rs : List Row) → ((i j : ℕ) (d : Row) → i ≤ j → j < length rs → IsBehind (get_or rs i d) (get_or rs j d)) → Rises rs
  unfolding Rises
  rises_far [] far = tt
  rises_far (r ∷ rs) far = (all_places (IsBehind r) rs (λ j d lt. far zero (suc j) d zero-le (suc-le-suc lt)), rises_far rs (λ i j d le lt. far (suc i) (suc j) d (suc-le-suc le) (suc-le-suc lt)))

  rises : (rs : List Row) → IsSorted (change_cmp k) rs → Rises rs
  rises rs up = rises_far rs (sorted_far (λ a b. is_lt (change_cmp k a b)) (ranks_by (changes_total k) (λ x. x)) rs up)

  same_latest : (xs ys : List Row) → IsPermutation xs ys → (some : List Row) → filter (is_latest k xs) some ≡ filter (is_latest k ys) some
  same_latest xs ys h [] = refl
  same_latest xs ys h (x ∷ some) = rw (list_any-IsPermutation (λ a. is_past k a x) xs ys h, same_latest xs ys h some) refl

  -- they are those that count, in another order
  pub same_rows : (rows : List Row) → IsPermutation (latest k rows) (latest_of k rows)
  unfolding StandBehind
  same_rows rows =
      let ys : List Row = sorted (change_cmp k) rows in
      let h : IsPermutation rows ys = same_elements (change_cmp k) (changes_total k) rows in
      let found : latest_of k rows ≡ latest k ys = newest_is None ys (rises ys (is_sorted (change_cmp k) (changes_total k) rows)) tt in
      subst (IsPermutation (latest k rows)) (same_latest rows ys h ys ∙ sym found) (filtered (is_latest k rows) rows ys h)

-- ---- whatever their order

pub list_all_permuted : (p : Row → Bool) (xs ys : List Row) → IsPermutation xs ys → list_all p xs ≡ list_all p ys
list_all_permuted p xs ys h = by_any xs ∙ ap not (list_any-IsPermutation (λ x. not (p x)) xs ys h) ∙ sym (by_any ys)
  where
    either : (b c d : Bool) → c ≡ not d → (b && c) ≡ not (not b || d)
    either true c d e = e
    either false c d e = refl

    by_any : (l : List Row) → list_all p l ≡ not (list_any (λ x. not (p x)) l)
    by_any [] = refl
    by_any (x ∷ l) = either (p x) (list_all p l) (list_any (λ y. not (p y)) l) (by_any l)

same_all : (p q : Row → Bool) → ((x : Row) → p x ≡ q x) → (l : List Row) → list_all p l ≡ list_all q l
same_all p q h [] = refl
same_all p q h (x ∷ l) = rw (h x, same_all p q h l) refl

pub are_rows_permuted : (xs ys wanted : List Row) → IsPermutation xs ys → are_rows xs wanted ≡ are_rows ys wanted
are_rows_permuted xs ys wanted h =
    rw (length_permutation xs ys h)
    (ap (λ (b : Bool). length xs == length wanted && b) (same_all (λ w. list_any (same_key w) xs) (λ w. list_any (same_key w) ys) (λ w. list_any-IsPermutation (same_key w) xs ys h) wanted))

-- what the rows that count say, asked of those that were found
pub said_permuted : (k : ℕ) (rows wanted : List Row) → are_rows (latest_said k rows) wanted ≡ are_rows (map (without_change k) (latest_of k rows)) wanted
said_permuted k rows wanted =
    are_rows_permuted (latest_said k rows) (map (without_change k) (latest_of k rows)) wanted
    (IsPermutation-map (without_change k) (latest k rows) (latest_of k rows) (same_rows k rows))
