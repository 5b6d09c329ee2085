-- What the rows about a table spell, whatever the order in which they stand.
use Rattle.std.proofs.Common.{◌≡◌, ℕ, pos, refl, sym, ap, subst, ◌∙◌, Bool, true, false, List, [], ◌∷◌, ◌++◌, map, length}
use Rattle.std.proofs.lemmas.List.Sorted.{IsPermutation-append, IsPermutation-map, IsPermutation-trans, length_permutation, list_any-IsPermutation}
use Rattle.std.specs.List.{list_all, filter}
use Rattle.std.specs.List.Sorted.{IsPermutation}
use Rattle.std.specs.Ordering.{int_cmp, int_eq}
use Rattle.std.specs.Prelude.{◌==◌, ◌&&◌, ◌||◌, not}
use Rattle.sql_types.specs.declared.table.TableDef.{TableDef}
use Rattle.spec_model.specs.Lists.{sorted}
use Rattle.spec_model.specs.Rows.{Row}
use Rattle.law_catalog_rows.specs.Changes.{counts_up, is_first, later_changes, is_of_index, changes_are_right, is_dropped, comes_before, rows_before, follows, items_follow}
use Rattle.law_catalog_rows.specs.Encoded.{is_about, about, latest_table_row, latest_item_rows, EncodeDef}
use Rattle.law_catalog_rows.specs.Latest.{change_of, is_past, is_latest, latest, without_change, latest_said}
use Rattle.law_catalog_rows.proofs.CountingUp.{sorted_alike}
use Rattle.law_catalog_rows.proofs.Orders.{along_permutation, filtered}

-- ---- tests

pub filter_same : {X : Type 0} (p q : X → Bool) (xs : List X) → ((x : X) → p x ≡ q x) → filter p xs ≡ filter q xs
filter_same p q [] h = refl
filter_same p q (x ∷ xs) h = rw (h x, filter_same p q xs h) refl

pub all_same : {X : Type 0} (p q : X → Bool) (xs : List X) → ((x : X) → p x ≡ q x) → list_all p xs ≡ list_all q xs
all_same p q [] h = refl
all_same p q (x ∷ xs) h = rw (h x, all_same p q xs h) refl

and_turned : (a b c : Bool) → (a && (b && c)) ≡ (b && (a && c))
and_turned true true c = refl
and_turned true false c = refl
and_turned false true c = refl
and_turned false false c = refl

pub all_in_order : {X : Type 0} (p : X → Bool) (xs ys : List X) → IsPermutation xs ys → list_all p xs ≡ list_all p ys
all_in_order p = along_permutation (λ xs ys. list_all p xs ≡ list_all p ys)
    (λ xs. refl)
    (λ x xs ys h. ap (λ (b : Bool). p x && b) h)
    (λ x y xs. and_turned (p x) (p y) (list_all p xs))
    (λ xs ys zs h k. h ∙ k)

pub record AllThree (a b c : Bool) : Type 0 where
  pub first : a ≡ true
  pub second : b ≡ true
  pub third : c ≡ true

pub three_true : (a b c : Bool) → (a && b && c) ≡ true → AllThree a b c
three_true true true true e = record { first = refl; second = refl; third = refl }
three_true true true false e = cc
three_true true false c e = cc
three_true false b c e = cc

pub all_three : (a b c : Bool) → a ≡ true → b ≡ true → c ≡ true → (a && b && c) ≡ true
all_three a b c e f g = rw (e, f, g) refl

-- ---- the rows that count

module _ (k : ℕ) (xs ys : List Row) (h : IsPermutation xs ys) where
  latest_alike : IsPermutation (latest k xs) (latest k ys)
  latest_alike =
      subst (IsPermutation (latest k xs))
      (filter_same (is_latest k xs) (is_latest k ys) ys (λ r. ap not (list_any-IsPermutation (λ a. is_past k a r) xs ys h)))
      (filtered (is_latest k xs) xs ys h)

  said_alike : IsPermutation (latest_said k xs) (latest_said k ys)
  said_alike = IsPermutation-map (without_change k) (latest k xs) (latest k ys) latest_alike

  later_alike : IsPermutation (later_changes k xs) (later_changes k ys)
  later_alike = filtered (λ n. not (int_eq n (pos 0))) (map (change_of k) xs) (map (change_of k) ys) (IsPermutation-map (change_of k) xs ys h)

-- ---- their changes, and what stays

changes_alike : (tables items first second : List Row) → IsPermutation first tables → IsPermutation second items → changes_are_right tables items ≡ true → changes_are_right first second ≡ true
changes_alike tables items first second p q e =
    let t = three_true (length (filter (is_first 0) tables) == 1) (list_all (λ row. not (is_of_index row) || is_first 1 row) items)
    (counts_up 1 (sorted int_cmp (later_changes 0 tables ++ later_changes 1 items))) e in
    all_three (length (filter (is_first 0) first) == 1) (list_all (λ row. not (is_of_index row) || is_first 1 row) second)
    (counts_up 1 (sorted int_cmp (later_changes 0 first ++ later_changes 1 second)))
    (ap (λ (n : ℕ). n == 1) (sym (length_permutation (filter (is_first 0) first) (filter (is_first 0) tables) (filtered (is_first 0) first tables p))) ∙ t.first)
    (all_in_order (λ row. not (is_of_index row) || is_first 1 row) second items q ∙ t.second)
    (ap (counts_up 1) (sorted_alike (later_changes 0 first ++ later_changes 1 second) (later_changes 0 tables ++ later_changes 1 items)
    (IsPermutation-append (later_changes 0 first) (later_changes 0 tables) (later_changes 1 second) (later_changes 1 items)
    (later_alike 0 first tables p) (later_alike 1 second items q))) ∙ t.third)

module _ (items second : List Row) (q : IsPermutation second items) where
  follows_alike : (row : Row) → follows second row ≡ follows items row
  follows_alike row =
      let before : IsPermutation (rows_before second row) (rows_before items row) = filtered (is_past 1 row) second items q in
      ap (λ (b : Bool). b && not (is_dropped row && length (rows_before second row) == 0)) (all_in_order (comes_before row) (rows_before second row) (rows_before items row) before)
      ∙ ap (λ (n : ℕ). list_all (comes_before row) (rows_before items row) && not (is_dropped row && n == 0)) (sym (length_permutation (rows_before second row) (rows_before items row) before))

  follow_alike : items_follow items ≡ true → items_follow second ≡ true
  follow_alike e =
      all_in_order (follows second) (latest 1 second) (latest 1 items) (latest_alike 1 second items q)
      ∙ all_same (follows second) (follows items) (latest 1 items) follows_alike ∙ e

-- ---- the whole

module _ (first first' second second' : List Row) (p : IsPermutation first' first) (q : IsPermutation second' second) (def : TableDef) where
  abbrev own : List Row → List Row
  own rows = about (pos def.id) rows

  pub encoded_alike : EncodeDef first second def → EncodeDef first' second' def
  encoded_alike h =
      let t : IsPermutation (own first') (own first) = filtered (is_about (pos def.id)) first' first p in
      let i : IsPermutation (own second') (own second) = filtered (is_about (pos def.id)) second' second q in
      record {
        table = IsPermutation-trans (latest_said 0 (own first')) (latest_said 0 (own first)) (latest_table_row def ∷ []) (said_alike 0 (own first') (own first) t) h.table;
        items = IsPermutation-trans (latest_said 1 (own second')) (latest_said 1 (own second)) (latest_item_rows def) (said_alike 1 (own second') (own second) i) h.items;
        changes = changes_alike (own first) (own second) (own first') (own second') t i h.changes;
        follow = follow_alike (own second) (own second') i h.follow;
      }
