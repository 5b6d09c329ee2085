-- The rows of a transaction, found among rows that stand by the positions of their entries.
use Rattle.std.proofs.Common.{◌≡◌, refl, sym, ap, ap₂, ◌∙◌, ℕ, ℤ, Bool, true, false, cond, List, [], ◌∷◌, ◌++◌, map, filter}
use Rattle.std.proofs.lemmas.Bool.{eqb-true}
use Rattle.std.proofs.lemmas.List.Sorted.{IsNonDecreasingBy-from_sort}
use Rattle.std.specs.Prelude.{◌==◌, ◌&&◌}
use Rattle.std.specs.Cmp.{nat_cmp_total, tied_itself}
use Rattle.std.specs.List.{AllByRecursion, list_all}
use Rattle.std.specs.List.Sorted.{IsNonDecreasingBy}
use Rattle.std.specs.Ordering.{is_gt, nat_cmp}
use Rattle.sql_parts.proofs.Sorting.{is_sorted}
use Rattle.sql_types.specs.declared.entry.TxEntry.{TxEntry}
use Rattle.spec_model.specs.Lists.{inserted, sorted}
use Rattle.spec_rules.specs.OneStatement.{are_of_one_statement, is_one_statement, is_system_table, one_statement, started_at}
use Rattle.spec_rules.specs.Places.{PlacedRow, rooted_at}
use Rattle.spec_rules.specs.Rows.{CatalogRows, is_about_table, items_about, tables_about}
use Rattle.audit_columns.proofs.Sortings.{filter_sorted}
use Rattle.audit_rules.specs.declared.rows.PlacedVersion.{PlacedVersion}
use Rattle.audit_rules.specs.ByPosition.{is_one, rows_at}
use Rattle.audit_rules.specs.Seen.{position_cmp, position_in, row_of, seen}
use Rattle.audit_rules.proofs.Lists.{all_append}
use Rattle.audit_rules.proofs.Sorted.{positions_total}

pub by_position_rises : (rows : List PlacedVersion) → IsNonDecreasingBy position_in (sorted position_cmp rows)
by_position_rises rows = IsNonDecreasingBy-from_sort position_in (sorted position_cmp rows) (is_sorted position_cmp positions_total rows)

-- ---- those of one position

module _ (k : ℕ) where
  abbrev own : PlacedVersion → Bool
  own r = position_in r == k

  AllOwn : List PlacedVersion → Type 0
  AllOwn rows = AllByRecursion (λ r. own r ≡ true) rows

  kept : (rows : List PlacedVersion) → AllOwn (filter own rows)
  unfolding AllOwn
  kept [] = tt
  kept (r ∷ rs) = here (own r) refl (kept rs)
    where
      here : (b : Bool) → own r ≡ b → AllByRecursion (λ r. own r ≡ true) (filter own rs) → AllByRecursion (λ r. own r ≡ true) (cond b (r ∷ filter own rs) (filter own rs))
      here true e more = (e, more)
      here false e more = more

  not_over : (a b : PlacedVersion) → own a ≡ true → own b ≡ true → is_gt (position_cmp a b) ≡ false
  not_over a b e f =
      ap₂ (λ (m n : ℕ). is_gt (nat_cmp m n)) (eqb-true (position_in a) k e) (eqb-true (position_in b) k f)
      ∙ ap is_gt (tied_itself nat_cmp_total k)

  in_front : (r : PlacedVersion) (rs : List PlacedVersion) → own r ≡ true → AllOwn rs → inserted position_cmp r rs ≡ r ∷ rs
  unfolding AllOwn
  in_front r [] e all = refl
  in_front r (s ∷ ss) e all = ap (λ b. cond b (s ∷ inserted position_cmp r ss) (r ∷ s ∷ ss)) (not_over r s e all.0)

  as_they_are : (rs : List PlacedVersion) → AllOwn rs → sorted position_cmp rs ≡ rs
  unfolding AllOwn
  as_they_are [] all = refl
  as_they_are (r ∷ rs) all = ap (inserted position_cmp r) (as_they_are rs all.1) ∙ in_front r rs all.0 all.1

  seen_own : (rs : List PlacedVersion) → map row_of (filter own rs) ≡ filter (λ (r : PlacedRow). r.place.0 == k) (map row_of rs)
  seen_own [] = refl
  seen_own (r ∷ rs) = here (own r) (seen_own rs)
    where
      here : (b : Bool) → map row_of (filter own rs) ≡ filter (λ (r : PlacedRow). r.place.0 == k) (map row_of rs)
          → map row_of (cond b (r ∷ filter own rs) (filter own rs)) ≡ cond b (row_of r ∷ filter (λ (r : PlacedRow). r.place.0 == k) (map row_of rs)) (filter (λ (r : PlacedRow). r.place.0 == k) (map row_of rs))
      here true more = ap (λ l. row_of r ∷ l) more
      here false more = more

  pub rows_at_is : (rs : List PlacedVersion) → rows_at k (sorted position_cmp rs) ≡ started_at k (seen rs)
  rows_at_is rs =
      ap (map row_of) (filter_sorted position_cmp positions_total own rs ∙ as_they_are (filter own rs) (kept rs))
      ∙ seen_own rs

-- ---- statements

module _ (entries : List TxEntry) (tables items : List PlacedVersion) (t : ℤ) where
  abbrev all : CatalogRows
  all = record { tables = seen tables; items = seen items }

  one_is : (k : ℕ) → is_one entries (sorted position_cmp tables) (sorted position_cmp items) t k ≡ is_one_statement entries all t k
  one_is k =
      ap₂ (λ a b. list_all is_system_table (rooted_at entries k) && list_all (is_about_table t) a && list_all (is_about_table t) b && are_of_one_statement a b)
      (rows_at_is k tables) (rows_at_is k items)

  pub statements_are : (own_tables own_items : List PlacedRow) → own_tables ≡ tables_about all t → own_items ≡ items_about all t
      → (list_all (λ (r : PlacedRow). is_one entries (sorted position_cmp tables) (sorted position_cmp items) t r.place.0) own_tables
      && list_all (λ (r : PlacedRow). is_one entries (sorted position_cmp tables) (sorted position_cmp items) t r.place.0) own_items)
      ≡ one_statement entries all t
  unfolding one_statement
  statements_are own_tables own_items tables_are items_are =
      sym (all_append (λ (r : PlacedRow). is_one entries (sorted position_cmp tables) (sorted position_cmp items) t r.place.0) own_tables own_items)
      ∙ ap₂ (λ (p : PlacedRow → Bool) l. list_all p l) (λ i r. one_is r.place.0 i) (ap₂ (λ a b. a ++ b) tables_are items_are)
