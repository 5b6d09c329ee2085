-- Rows projected by places that were looked up, and without the values of dropped columns.
use Rattle.std.proofs.Common.{◌≡◌, ℕ, refl, sym, ap, ap₂, List, [], ◌∷◌, length, map, take}
use Rattle.sql_value.specs.declared.column.ColumnDef.{ColumnDef}
use Rattle.spec_model.specs.Columns.{place_of}
use Rattle.spec_model.specs.Parts.{what_shown}
use Rattle.spec_model.specs.Rows.{Row}
use Rattle.spec_model.specs.Query.{value_in, projected}
use Rattle.sql_parts.specs.Dropped.{flags_from, unflagged}
use Rattle.sql_parts.proofs.Dropped.{none_dropped, unflagged_first}
use Rattle.sql_select.specs.Places.{values_at}

in_row : (columns : List ColumnDef) (names : List (List ℕ)) (row : Row) → map (λ place. value_in place row) (map (place_of columns) names) ≡ projected columns names row
in_row columns [] row = refl
in_row columns (n ∷ ns) row = ap (λ vs. value_in (place_of columns n) row ∷ vs) (in_row columns ns row)

pub by_places : (columns : List ColumnDef) (names : List (List ℕ)) (rows : List Row) → map (values_at (map (place_of columns) names)) rows ≡ map (projected columns names) rows
unfolding values_at
by_places columns names [] = refl
by_places columns names (r ∷ rs) = ap₂ (λ x xs. x ∷ xs) (in_row columns names r) (by_places columns names rs)

-- ---- what `*` shows

pub all_shown : (dropped : List ℕ) (shown : ℕ) (rows : List Row) → length dropped ≡ 0 → map (take shown) rows ≡ map (what_shown dropped shown) rows
all_shown dropped shown [] h = refl
all_shown dropped shown (r ∷ rs) h = ap₂ (λ x xs. x ∷ xs) (sym (none_dropped dropped (take shown r) h)) (all_shown dropped shown rs h)

pub shown_by_flags : (dropped : List ℕ) (shown : ℕ) (rows : List Row) → map (unflagged (flags_from dropped 1 shown)) rows ≡ map (what_shown dropped shown) rows
shown_by_flags dropped shown [] = refl
shown_by_flags dropped shown (r ∷ rs) = ap₂ (λ x xs. x ∷ xs) (unflagged_first dropped shown r) (shown_by_flags dropped shown rs)
