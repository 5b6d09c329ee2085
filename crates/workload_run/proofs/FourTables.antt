-- What is counted of the workload's tables.
use Rattle.std.proofs.Common.{◌≡◌, ◌∙◌, ◌≤◌, ◌+◌, ◌*◌, ◌/◌, ℕ, List, [], ◌∷◌, drop, length, map, refl, sym, ap, arith}
use Rattle.sql_value.specs.declared.column.ColumnDef.{ColumnDef}
use Rattle.sql_types.specs.declared.version.Table.{Table}
use Rattle.sql_types.specs.declared.version.Version.{Version}
use Rattle.spec_model.specs.Catalog.{Tables, versions_of}
use Rattle.spec_model.specs.Rows.{live}
use Rattle.format_image.specs.Rows.{filled_version, table_rows}
use Rattle.law_workload.specs.Tables.{Shows, history, total}
use Rattle.law_workload.specs.Turns.{inserted_total}
use Rattle.workload_run.specs.Figures.{amount, history_count, row_count}
use Rattle.workload_run.specs.Reports.{inserted_in_all}
use Rattle.workload_run.proofs.FilledRows.{as_many_ended, as_many_live, same_total}

-- what is counted, where each table shows what it does
pub record Are (T : Tables) (n : ℕ) : Type 0 where
  pub rows : row_count (drop 2 (map table_rows T)) ≡ 4 * n
  pub changed : history_count (drop 2 (map table_rows T)) ≡ 4 * (n / 10)
  pub sum_is : amount (drop 2 (map table_rows T)) ≡ inserted_in_all n + 4 * (n / 10)

module _ (s c v w x y : Table) (n : ℕ) (s_is : s.def.id ≡ 1) (c_is : c.def.id ≡ 2) (v_is : v.def.id ≡ 3) (w_is : w.def.id ≡ 4) (x_is : x.def.id ≡ 5) (y_is : y.def.id ≡ 6) where
  abbrev T : Tables
  T = s ∷ c ∷ v ∷ w ∷ x ∷ y ∷ []

  third : versions_of T 3 ≡ v.versions
  third = rw (s_is, c_is, v_is) refl

  fourth : versions_of T 4 ≡ w.versions
  fourth = rw (s_is, c_is, v_is, w_is) refl

  fifth : versions_of T 5 ≡ x.versions
  fifth = rw (s_is, c_is, v_is, w_is, x_is) refl

  sixth : versions_of T 6 ≡ y.versions
  sixth = rw (s_is, c_is, v_is, w_is, x_is, y_is) refl

  module _ (shows : (table : ℕ) → 1 ≤ table → table ≤ 4 → Shows T table n (n / 10) (inserted_total table n + n / 10)) where
    rows_at : (table : ℕ) (cs : List ColumnDef) (V : List Version) → versions_of T (table + 2) ≡ V → 1 ≤ table → table ≤ 4 → length (live (map (filled_version cs) V)) ≡ n
    rows_at table cs V is some four = as_many_live cs V ∙ ap (λ (U : List Version). length (live U)) (sym is) ∙ (shows table some four).rows_are

    changed_at : (table : ℕ) (cs : List ColumnDef) (V : List Version) → versions_of T (table + 2) ≡ V → 1 ≤ table → table ≤ 4 → length (history (map (filled_version cs) V)) ≡ n / 10
    changed_at table cs V is some four = as_many_ended cs V ∙ ap (λ (U : List Version). length (history U)) (sym is) ∙ (shows table some four).history_is

    sum_at : (table : ℕ) (cs : List ColumnDef) (V : List Version) → versions_of T (table + 2) ≡ V → 1 ≤ table → table ≤ 4 → total (live (map (filled_version cs) V)) ≡ inserted_total table n + n / 10
    sum_at table cs V is some four = same_total cs V ∙ ap (λ (U : List Version). total (live U)) (sym is) ∙ (shows table some four).sum_is

    all_four : Are T n
    unfolding table_rows
    all_four = record {
      rows = omega (arith, rows_at 1 v.def.columns v.versions third (omega arith) (omega arith), rows_at 2 w.def.columns w.versions fourth (omega arith) (omega arith), rows_at 3 x.def.columns x.versions fifth (omega arith) (omega arith), rows_at 4 y.def.columns y.versions sixth (omega arith) (omega arith));
      changed = omega (arith, changed_at 1 v.def.columns v.versions third (omega arith) (omega arith), changed_at 2 w.def.columns w.versions fourth (omega arith) (omega arith), changed_at 3 x.def.columns x.versions fifth (omega arith) (omega arith), changed_at 4 y.def.columns y.versions sixth (omega arith) (omega arith));
      sum_is = omega (arith, sum_at 1 v.def.columns v.versions third (omega arith) (omega arith), sum_at 2 w.def.columns w.versions fourth (omega arith) (omega arith), sum_at 3 x.def.columns x.versions fifth (omega arith) (omega arith), sum_at 4 y.def.columns y.versions sixth (omega arith) (omega arith));
    }

pub counted_are : (T : Tables) (n : ℕ) → map (λ (t : Table). t.def.id) T ≡ 1 ∷ 2 ∷ 3 ∷ 4 ∷ 5 ∷ 6 ∷ []
    → ((table : ℕ) → 1 ≤ table → table ≤ 4 → Shows T table n (n / 10) (inserted_total table n + n / 10)) → Are T n
counted_are [] n e shows = cc
counted_are (s ∷ []) n e shows = cc
counted_are (s ∷ c ∷ []) n e shows = cc
counted_are (s ∷ c ∷ v ∷ []) n e shows = cc
counted_are (s ∷ c ∷ v ∷ w ∷ []) n e shows = cc
counted_are (s ∷ c ∷ v ∷ w ∷ x ∷ []) n e shows = cc
counted_are (s ∷ c ∷ v ∷ w ∷ x ∷ y ∷ []) n e shows = all_four s c v w x y n (cc) (cc) (cc) (cc) (cc) (cc) shows
counted_are (s ∷ c ∷ v ∷ w ∷ x ∷ y ∷ z ∷ more) n e shows = cc
