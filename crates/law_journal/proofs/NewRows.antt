-- The rows that an INSERT keeps fit, at new keys.
use Rattle.std.proofs.Common.{◌≡◌, ℕ, refl, sym, ap, subst, ◌∙◌, Bool, true, false, List, [], ◌∷◌, ◌++◌, length, Option, Some, None, Ok, Err}
use Rattle.std.proofs.lemmas.Bool.{eqb-true}
use Rattle.std.proofs.lemmas.List.{length-map}
use Rattle.std.specs.Prelude.{if◌then◌else◌, ◌==◌, not}
use Rattle.std.specs.List.{AllByRecursion, list_any, list_all, zip}
use Rattle.sql_value.specs.declared.column.ColumnDef.{ColumnDef}
use Rattle.sql_value.specs.declared.refusal.Refusal.TheVariants.{NameConflict, NoSuchColumn, DuplicateKey, ReadOnlyTable, LimitExceeded, ValueCountMismatch}
use Rattle.sql_types.specs.declared.table.TableDef.{TableDef}
use Rattle.sql_types.specs.declared.table.Part.{Part}
use Rattle.sql_types.specs.declared.version.Version.{Version}
use Rattle.spec_model.specs.Refusals.{Checked, and_then}
use Rattle.spec_model.specs.Columns.{names_of}
use Rattle.spec_model.specs.Lists.{without, checked_fold}
use Rattle.spec_model.specs.LiveColumns.{live_columns}
use Rattle.spec_model.specs.Rows.{Row, stored_row}
use Rattle.spec_model.specs.Keys.{Key, key_of, same_key, has_live_row}
use Rattle.spec_model.specs.Changes.{kept, kept_row, value_named, names_for, written_names, arranged, is_duplicate, one_more, inserted_rows}
use Rattle.spec_model.specs.Checks.{listed, listed_check, values_check, insert_check}
use Rattle.law_frame.proofs.Checked.{Led, led, was_passed, not_refused}
use Rattle.law_frame.proofs.Alls.{all_weaker, all_both, all_append}
use Rattle.law_frame.proofs.MappedRows.{stored_mapped}
use Rattle.law_frame.proofs.SameKeys.{or_false, and_true}
use Rattle.law_journal.specs.Fits.{Fits}
use Rattle.law_journal.specs.Fine.{key_in}
use Rattle.law_journal.proofs.Order.{NoneLive, none_is_live}
use Rattle.law_journal.proofs.Here.{Differ, AllNew}
use Rattle.law_journal.proofs.Values.{kept_row_fits}

-- ---- how many values a row has

passed_not : (b : Bool) → not b ≡ false → b ≡ true
passed_not true e = refl
passed_not false e = cc

abbrev HasAll : List ColumnDef → Option (List (List ℕ)) → Row → Type 0
HasAll columns names row = length (arranged columns names row) ≡ length columns

lengths : (n : ℕ) (rows : List Row) → list_all (λ (row : Row). length row == n) rows ≡ true → AllByRecursion (λ (row : Row). length row ≡ n) rows
lengths n [] e = tt
lengths n (r ∷ rs) e = let p = and_true (length r == n) (list_all (λ (row : Row). length row == n) rs) e in (eqb-true (length r) n p.0, lengths n rs p.1)

always : (columns : List ColumnDef) (names : List (List ℕ)) (rows : List Row) → AllByRecursion (HasAll columns (Some names)) rows
unfolding arranged
always columns names [] = tt
always columns names (r ∷ rs) = (length-map columns (λ c. value_named (zip names r) c.name), always columns names rs)

listed_lengths : (columns : List ColumnDef) (rows : List Row) → listed_check columns rows ≡ Ok tt → AllByRecursion (λ (row : Row). length row ≡ length columns) rows
unfolding listed_check
listed_lengths columns rows e = lengths (length columns) rows (passed_not _ (was_passed _ ValueCountMismatch _ tt e))

-- where a column was dropped a row is written by names
arranged_lengths : (dropped : List ℕ) (def : TableDef) (names : Option (List (List ℕ))) (rows : List Row) → listed_check (listed (without dropped def.columns) names) rows ≡ Ok tt → AllByRecursion (HasAll def.columns (names_for dropped def names)) rows
unfolding arranged
arranged_lengths [] def None rows e = listed_lengths def.columns rows e
arranged_lengths [] def (Some names) rows e = always def.columns names rows
arranged_lengths (n ∷ ns) def None rows e = always def.columns (names_of (live_columns def)) rows
arranged_lengths (n ∷ ns) def (Some names) rows e = always def.columns names rows

values_listed : (columns : List ColumnDef) (names : Option (List (List ℕ))) (rows : List Row) → values_check columns names rows ≡ Ok tt → listed_check (listed columns names) rows ≡ Ok tt
unfolding values_check
values_listed columns names rows e = not_refused _ NoSuchColumn _ tt e

pub rows_have_all : (def : TableDef) (part : Part) (names : Option (List (List ℕ))) (rows : List Row) → insert_check def part names rows ≡ Ok tt → AllByRecursion (HasAll def.columns (written_names def names)) rows
unfolding insert_check
rows_have_all def part names rows e = arranged_lengths def.dropped def names rows (values_listed (live_columns def) names rows (not_refused _ ReadOnlyTable _ tt (not_refused _ LimitExceeded _ tt (not_refused _ NameConflict _ tt e))))

-- ---- one row after another

none_any : (test : Row → Bool) (rows : List Row) → list_any test rows ≡ false → AllByRecursion (λ r. test r ≡ false) rows
none_any test [] e = tt
none_any test (r ∷ rs) e = let p = or_false (test r) (list_any test rs) e in (p.0, none_any test rs p.1)

pub new_appended : (columns : List ColumnDef) (V : List Version) (rows : List Row) (row : Row) → AllNew columns rows V → Fits columns (stored_row columns row) → NoneLive columns (key_in columns (stored_row columns row)) V → AllByRecursion (λ r. Differ columns r row) rows → AllNew columns (rows ++ row ∷ []) V
new_appended columns V [] row a f n d = (f, n, tt, tt)
new_appended columns V (r ∷ rs) row a f n d = (a.0, a.1, all_append (Differ columns r) rs (row ∷ []) a.2 (d.0, tt), new_appended columns V rs row a.3 f n d.1)

module _ (columns : List ColumnDef) (V : List Version) (names : Option (List (List ℕ))) where
  -- columns store all its values
  abbrev IsPlain : Row → Type 0
  IsPlain r = key_in columns (stored_row columns r) ≡ key_of columns r

  plain : (row out : Row) → kept_row columns row ≡ Ok out → IsPlain out
  unfolding kept_row
  plain row out e = ap (key_of columns) (stored_mapped kept columns row out e)

  not_twice : (b : Bool) (before : List Row) (row : Row) (c : List Row) → (if b then Err DuplicateKey else Ok (before ++ row ∷ [])) ≡ Ok c → (b ≡ false) × (before ++ row ∷ [] ≡ c)
  not_twice true before row c e = cc
  not_twice false before row c e = (refl, cc)

  free : (before : List Row) (key : Key) → is_duplicate columns V before key ≡ false → (has_live_row columns key V ≡ false) × (list_any (λ row. same_key (key_of columns row) key) before ≡ false)
  unfolding is_duplicate
  free before key e = or_false (has_live_row columns key V) (list_any (λ row. same_key (key_of columns row) key) before) e

  added : (before : List Row) (row : Row) → AllNew columns before V → AllByRecursion IsPlain before → Fits columns (stored_row columns row) → IsPlain row → is_duplicate columns V before (key_of columns row) ≡ false → AllNew columns (before ++ row ∷ []) V
  added before row a p f is e =
      let g = free before (key_of columns row) e in
      let n : NoneLive columns (key_in columns (stored_row columns row)) V = subst (λ (k : Key). NoneLive columns k V) (sym is) (none_is_live columns (key_of columns row) V g.0) in
      new_appended columns V before row a f n
      (all_weaker (λ r. IsPlain r × (same_key (key_of columns r) (key_of columns row) ≡ false)) (λ r. Differ columns r row) (λ r h. ap (λ (k : Key). same_key k (key_in columns (stored_row columns row))) h.0 ∙ ap (same_key (key_of columns r)) is ∙ h.1) before
      (all_both IsPlain (λ r. same_key (key_of columns r) (key_of columns row) ≡ false) before p (none_any (λ r. same_key (key_of columns r) (key_of columns row)) before g.1)))

  abbrev step : List Row → Row → Checked (List Row)
  step before row = and_then (kept_row columns (arranged columns names row)) (one_more columns V before)

  fold_new : (rows before kept : List Row) → AllByRecursion (HasAll columns names) rows → AllNew columns before V → AllByRecursion IsPlain before → checked_fold step before rows ≡ Ok kept → AllNew columns kept V
  fold_new [] before kept h a p e = let is : before ≡ kept = cc in subst (λ (rs : List Row). AllNew columns rs V) is a
  fold_new (r ∷ rs) before kept h a p e =
      let l : Led (step before r) (λ c. checked_fold step c rs) kept = led _ _ kept e in
      let k : Led (kept_row columns (arranged columns names r)) (one_more columns V before) l.value = led _ _ l.value l.was in
      let t = not_twice (is_duplicate columns V before (key_of columns k.value)) before k.value l.value k.then_ in
      let fit : Fits columns (stored_row columns k.value) = kept_row_fits columns (arranged columns names r) k.value h.0 k.was in
      let is : IsPlain k.value = plain (arranged columns names r) k.value k.was in
      fold_new rs l.value kept h.1
      (subst (λ (xs : List Row). AllNew columns xs V) t.1 (added before k.value a p fit is t.0))
      (subst (λ (xs : List Row). AllByRecursion IsPlain xs) t.1 (all_append IsPlain before (k.value ∷ []) p (is, tt)))
      l.then_

  pub inserted_new : (rows kept : List Row) → AllByRecursion (HasAll columns names) rows → inserted_rows columns V names rows ≡ Ok kept → AllNew columns kept V
  unfolding inserted_rows
  inserted_new rows kept h e = fold_new rows [] kept h tt tt e
