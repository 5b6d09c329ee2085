-- Rows in another order, and rows about one table among others.
use Rattle.std.proofs.Common.{◌≡◌, ◌≢◌, ◌+◌, ℕ, refl, ap, subst, ◌∙◌, Bool, true, false, List, [], ◌∷◌, ◌++◌}
use Rattle.std.proofs.lemmas.List.Elements.{All-from_recursion, recursion_from_All}
use Rattle.std.proofs.lemmas.List.Sorted.{All-permutation, IsPermutation-middle, list_any-IsPermutation}
use Rattle.std.specs.Prelude.{ℤ, pos, not, if◌then◌else◌}
use Rattle.std.specs.List.{AllByRecursion, filter, list_all}
use Rattle.std.specs.List.Sorted.{IsPermutation}
use Rattle.spec_model.specs.Rows.{Row}
use Rattle.law_catalog_rows.specs.Encoded.{about, is_about}
use Rattle.law_catalog_rows.specs.Latest.{is_past}
use Rattle.law_catalog_rows.proofs.About.{StartsWith, own_row, other_row}
use Rattle.law_catalog_rows.proofs.AnyOrder.{filter_same, all_same, all_in_order}
use Rattle.law_catalog_rows.proofs.Orders.{filtered, filter_all, filter_none}
use Rattle.spec_rules.specs.Places.{PlacedRow}
use Rattle.spec_rules.specs.Rows.{firsts, seconds, is_about_table, is_first_of}
use Rattle.law_rules.specs.Steps.{placed_from, rows_alone}

-- what holds of all holds of them in any order
pub of_any_order : {A : Type 0} (P : A → Type 0) (xs ys : List A) → IsPermutation xs ys → AllByRecursion P xs → AllByRecursion P ys
of_any_order P xs ys h all = recursion_from_All P ys (All-permutation P xs ys h (All-from_recursion P xs all))

-- ---- rows about a table

-- the rows that are entered, where these are about the table
pub placed_about : (position n id : ℕ) (rows : List Row) → AllByRecursion (StartsWith id) rows → AllByRecursion (λ (r : PlacedRow). is_about_table (pos id) r ≡ true) (placed_from position n rows)
placed_about position n id [] h = tt
placed_about position n id (r ∷ rs) h = (own_row id r h.0, placed_about position (n + 1) id rs h.1)

placed_elsewhere : (position n id : ℕ) (t : ℤ) → pos id ≢ t → (rows : List Row) → AllByRecursion (StartsWith id) rows → AllByRecursion (λ (r : PlacedRow). is_about_table t r ≡ false) (placed_from position n rows)
placed_elsewhere position n id t ne [] h = tt
placed_elsewhere position n id t ne (r ∷ rs) h = (other_row id t ne r h.0, placed_elsewhere position (n + 1) id t ne rs h.1)

module _ (position n id : ℕ) (new : List Row) (starts : AllByRecursion (StartsWith id) new) (after before : List PlacedRow) (h : IsPermutation after (placed_from position n new ++ before)) where
  pub own_rows : IsPermutation (filter (is_about_table (pos id)) after) (placed_from position n new ++ filter (is_about_table (pos id)) before)
  own_rows =
      subst (IsPermutation (filter (is_about_table (pos id)) after)) (filter_all (is_about_table (pos id)) (placed_from position n new) before (placed_about position n id new starts))
      (filtered (is_about_table (pos id)) after (placed_from position n new ++ before) h)

  pub other_rows : (t : ℤ) → pos id ≢ t → IsPermutation (filter (is_about_table t) after) (filter (is_about_table t) before)
  other_rows t ne =
      subst (IsPermutation (filter (is_about_table t) after)) (filter_none (is_about_table t) (placed_from position n new) before (placed_elsewhere position n id t ne new starts))
      (filtered (is_about_table t) after (placed_from position n new ++ before) h)

-- where no row is about a table, none is with its place
pub none_about : (t : ℤ) (rows : List PlacedRow) → about t (rows_alone rows) ≡ [] → filter (is_about_table t) rows ≡ []
none_about t [] e = refl
none_about t (r ∷ rs) e = here (is_about t r.row) (none_about t rs) e
  where
    here : (b : Bool) → (about t (rows_alone rs) ≡ [] → filter (is_about_table t) rs ≡ []) → (if b then r.row ∷ about t (rows_alone rs) else about t (rows_alone rs)) ≡ []
        → (if b then r ∷ filter (is_about_table t) rs else filter (is_about_table t) rs) ≡ []
    here true f k = cc
    here false f k = f k

-- two in the other order
pub turned : {A : Type 0} (x y : A) → IsPermutation (y ∷ x ∷ []) (x ∷ y ∷ [])
turned x y = IsPermutation-middle (y ∷ []) x []

-- ---- first and second rows

module _ (k : ℕ) (xs ys : List PlacedRow) (h : IsPermutation xs ys) where
  first_alike : (r : PlacedRow) → is_first_of k xs r ≡ is_first_of k ys r
  first_alike r = ap not (list_any-IsPermutation (λ (b : PlacedRow). is_past k r.row b.row) xs ys h)

  pub firsts_alike : IsPermutation (firsts k xs) (firsts k ys)
  firsts_alike = subst (IsPermutation (firsts k xs)) (filter_same (is_first_of k xs) (is_first_of k ys) ys first_alike) (filtered (is_first_of k xs) xs ys h)

  pub seconds_alike : IsPermutation (seconds k xs) (seconds k ys)
  seconds_alike =
      subst (IsPermutation (seconds k xs)) (filter_same (λ r. not (is_first_of k xs r)) (λ r. not (is_first_of k ys r)) ys (λ r. ap not (first_alike r)))
      (filtered (λ r. not (is_first_of k xs r)) xs ys h)

-- a test of pairs
pub pairs_alike : {A B : Type 0} (test : A → B → Bool) (xs ys : List A) (us vs : List B) → IsPermutation xs ys → IsPermutation us vs
    → list_all (λ x. list_all (test x) us) xs ≡ list_all (λ x. list_all (test x) vs) ys
pairs_alike test xs ys us vs h k =
    all_in_order (λ x. list_all (test x) us) xs ys h ∙ all_same (λ x. list_all (test x) us) (λ x. list_all (test x) vs) ys (λ x. all_in_order (test x) us vs k)
