-- The rows that stand after some have started: those, and the ones before, in some order.
use Rattle.std.proofs.Common.{◌≡◌, ℕ, ◌+◌, refl, subst, Bool, true, false, List, [], ◌∷◌, ◌++◌, map, Option, None}
use Rattle.std.proofs.lemmas.List.Sorted.{IsPermutation-refl, IsPermutation-trans, IsPermutation-cons, IsPermutation-append_right, IsPermutation-middle}
use Rattle.std.specs.Prelude.{if◌then◌else◌, is_none}
use Rattle.std.specs.List.{AllByRecursion}
use Rattle.std.specs.List.Sorted.{IsPermutation}
use Rattle.std.specs.Ordering.{is_gt}
use Rattle.sql_value.specs.declared.column.ColumnDef.{ColumnDef}
use Rattle.sql_types.specs.declared.version.TypedValue.{TypedValue}
use Rattle.sql_types.specs.declared.version.Version.{Version}
use Rattle.spec_model.specs.Lists.{inserted}
use Rattle.spec_model.specs.Rows.{Row, EventId, stored_row, value_or_null, values_of, start_cmp, started}
use Rattle.spec_model.specs.Changes.{Starts, changed, changed_all}
use Rattle.law_catalog_rows.specs.Encoded.{live_rows}

-- ---- a version that started is among the others

module _ (at : EventId) (values : List (Option TypedValue)) where
  abbrev new_one : Version
  new_one = record { values = values; start = at; end = None }

  abbrev new_row : Row
  new_row = map value_or_null values

  past_one : (a b : Row) (rows others : List Row) → IsPermutation rows (a ∷ others) → IsPermutation (b ∷ rows) (a ∷ b ∷ others)
  past_one a b rows others h =
      IsPermutation-trans (b ∷ rows) (b ∷ a ∷ others) (a ∷ b ∷ others) (IsPermutation-cons b rows (a ∷ others) h)
      (IsPermutation-middle (b ∷ []) a others)

  among : (b c : Bool) (y : Version) (ys : List Version) → is_none y.end ≡ c → IsPermutation (live_rows (inserted start_cmp new_one ys)) (new_row ∷ live_rows ys)
      → IsPermutation (live_rows (if b then y ∷ inserted start_cmp new_one ys else new_one ∷ y ∷ ys)) (new_row ∷ live_rows (y ∷ ys))
  among false c y ys e h = IsPermutation-refl (new_row ∷ live_rows (y ∷ ys))
  among true true y ys e h = rw e (past_one new_row (values_of y) (live_rows (inserted start_cmp new_one ys)) (live_rows ys) h)
  among true false y ys e h = rw e h

  inserted_row : (V : List Version) → IsPermutation (live_rows (inserted start_cmp new_one V)) (new_row ∷ live_rows V)
  inserted_row [] = IsPermutation-refl (new_row ∷ [])
  inserted_row (y ∷ ys) = among (is_gt (start_cmp new_one y)) (is_none y.end) y ys refl (inserted_row ys)

  pub started_row : (V : List Version) → IsPermutation (live_rows (started at values V)) (new_row ∷ live_rows V)
  unfolding started
  started_row V = inserted_row V

-- ---- rows that are kept as they are

abbrev pub IsWhole : List ColumnDef → Row → Type 0
IsWhole columns row = map value_or_null (stored_row columns row) ≡ row

module _ (columns : List ColumnDef) (tx : ℕ) where
  pub starts_rows : (seq : ℕ) (rows : List Row) (V : List Version) → AllByRecursion (IsWhole columns) rows
      → IsPermutation (live_rows (changed_all tx seq (map (λ row. Starts (stored_row columns row)) rows) V)) (rows ++ live_rows V)
  unfolding changed_all
  starts_rows seq [] V h = IsPermutation-refl (live_rows V)
  starts_rows seq (r ∷ rs) V h =
      let W : List Version = changed (tx, seq) (Starts (stored_row columns r)) V in
      let one : IsPermutation (live_rows W) (r ∷ live_rows V) = subst (λ (x : Row). IsPermutation (live_rows W) (x ∷ live_rows V)) h.0 (started_row (tx, seq) (stored_row columns r) V) in
      let all : List Row = live_rows (changed_all tx (seq + 1) (map (λ row. Starts (stored_row columns row)) rs) W) in
      IsPermutation-trans all (rs ++ live_rows W) (r ∷ rs ++ live_rows V) (starts_rows (seq + 1) rs W h.1)
      (IsPermutation-trans (rs ++ live_rows W) (rs ++ r ∷ live_rows V) (r ∷ rs ++ live_rows V)
      (IsPermutation-append_right rs (live_rows W) (r ∷ live_rows V) one)
      (IsPermutation-middle rs r (live_rows V)))
