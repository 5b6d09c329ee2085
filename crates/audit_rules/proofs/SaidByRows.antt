-- When things happened, by the rows that say so.
use Rattle.std.proofs.Common.{◌≡◌, refl, sym, ap, ◌∙◌, ℤ, Bool, true, false, cond, List, [], ◌∷◌, filter, filter_map, Option, Some, None}
use Rattle.std.specs.Prelude.{◌&&◌, ◌||◌}
use Rattle.std.specs.List.{cons_option, list_any}
use Rattle.std.specs.Ordering.{int_eq}
use Rattle.sql_value.specs.declared.value.Value.TheVariants.{Null, Num, Text, Bytes, Date}
use Rattle.spec_model.specs.Lists.{sorted}
use Rattle.spec_model.specs.Rows.{Row}
use Rattle.law_catalog_rows.specs.Differs.{table_of}
use Rattle.law_catalog_rows.specs.Encoded.{is_about}
use Rattle.spec_rules.specs.Places.{EventPlace, PlacedRow, stands_before}
use Rattle.spec_rules.specs.Rows.{is_about_table}
use Rattle.audit_columns.proofs.Folds.{sorted_is}
use Rattle.audit_rules.specs.declared.first_ranks.Happened.{Happened}
use Rattle.audit_rules.specs.declared.first_ranks.Thing.{Thing}
use Rattle.audit_rules.specs.declared.times.What.{What}
use Rattle.audit_rules.specs.FirstRanks.{happened_cmp, has_happened}
use Rattle.audit_rules.specs.HappenedLists.{all_happened, happened, happened_to, item_in, says_so, tells}
use Rattle.audit_rules.proofs.Lists.{any_filtered}

or_twice : (a b c : Bool) → (a || (b || c)) ≡ (b || (a || c))
or_twice true true c = refl
or_twice true false c = refl
or_twice false true c = refl
or_twice false false c = refl

any_sorted : (q : Happened → Bool) (hs : List Happened) → list_any q (sorted happened_cmp hs) ≡ list_any q hs
any_sorted q hs = sorted_is happened_cmp (λ h b. q h || b) (λ l. list_any q l) (λ h l. refl) (λ g h b gt. or_twice (q h) (q g) b) hs

-- the table that a row is about, as a number that may be missing
is_number : ℤ → Option ℤ → Bool
is_number t None = false
is_number t (Some n) = int_eq n t

about_is : (t : ℤ) (row : Row) → is_about t row ≡ is_number t (table_of row)
unfolding is_number
about_is t [] = refl
about_is t (Null ∷ vs) = refl
about_is t (Num s n ∷ vs) = refl
about_is t (Text x ∷ vs) = refl
about_is t (Bytes x ∷ vs) = refl
about_is t (Date x ∷ vs) = refl

module _ (w : What) (t i : ℤ) (before : EventPlace) where
  abbrev thing : Thing
  thing = record { table = t; item = i }

  abbrev says : PlacedRow → Bool
  says = says_so w i before

  abbrev own : PlacedRow → Bool
  own r = is_about_table t r && says r

  one : (r : PlacedRow) (tab : Option ℤ) (rest : List Happened) → is_about_table t r ≡ is_number t tab
      → list_any (has_happened thing before) (cons_option (happened_to w r tab) rest) ≡ (own r || list_any (has_happened thing before) rest)
  unfolding is_number
  one r None rest e = ap (λ b. (b && says r) || list_any (has_happened thing before) rest) (sym e)
  one r (Some n) rest e = by (tells w r) ∙ ap (λ b. (b && says r) || list_any (has_happened thing before) rest) (sym e)
    where
      reordered : (a b c : Bool) → ((a && b) && c) ≡ (a && ((b && true) && c))
      reordered true true c = refl
      reordered true false c = refl
      reordered false b c = refl

      none : (a b : Bool) → (a && ((b && false) && stands_before r.place before)) ≡ false
      none true true = refl
      none true false = refl
      none false b = refl

      by : (x : Bool) → list_any (has_happened thing before) (cons_option (cond x (Some (record { thing = record { table = n; item = item_in w r }; rank = r.place })) None) rest)
          ≡ ((int_eq n t && ((int_eq (item_in w r) i && x) && stands_before r.place before)) || list_any (has_happened thing before) rest)
      by true = ap (λ b. b || list_any (has_happened thing before) rest) (reordered (int_eq n t) (int_eq (item_in w r) i) (stands_before r.place before))
      by false = sym (ap (λ b. b || list_any (has_happened thing before) rest) (none (int_eq n t) (int_eq (item_in w r) i)))

  all : (rows : List PlacedRow) → list_any (has_happened thing before) (filter_map (happened w) rows) ≡ list_any own rows
  all [] = refl
  all (r ∷ rs) = one r (table_of r.row) (filter_map (happened w) rs) (about_is t r.row) ∙ ap (λ b. own r || b) (all rs)

  pub happened_so : (rows : List PlacedRow) → list_any (has_happened thing before) (all_happened w rows) ≡ list_any (says_so w i before) (filter (is_about_table t) rows)
  happened_so rows = any_sorted (has_happened thing before) (filter_map (happened w) rows) ∙ all rows ∙ sym (any_filtered (says_so w i before) (is_about_table t) rows)
