-- The key of a row of VALUES is what its places give, one by one.
use Rattle.std.proofs.Common.{◌≡◌, refl, sym, ap, ◌∙◌, ℕ, suc, ◌+◌, ◌==◌, not, List, [], ◌∷◌, map, Option, Some, slice_get, arith}
use Rattle.std.specs.List.{AllByRecursion, filter, filter_map, zip}
use Rattle.sql_value.specs.declared.column.ColumnDef.{ColumnDef}
use Rattle.sql_value.specs.Conversion.{conversion_of}
use Rattle.spec_model.specs.Lists.{all_some, numbered, sorted}
use Rattle.spec_model.specs.Keys.{Placed, position_cmp, key_places, value_at}
use Rattle.spec_model.specs.Changes.{arranged}
use Rattle.spec_model.specs.Locks.{key_value, key_inserted}
use Rattle.spec_model.specs.Rows.{Row}
use Rattle.law_frame.proofs.Alls.{all_map, all_filter, all_sorted}
use Rattle.sql_locks.specs.Inserted.{keyed_at}

-- ---- the places of a key are those of columns

all_numbered : {A : Type 0} (get : ℕ → Option A) (n : ℕ) (xs : List A) → ((i : ℕ) → get (n + i) ≡ slice_get xs i)
    → AllByRecursion (λ p. get p.0 ≡ Some p.1) (numbered n xs)
all_numbered get n [] h = tt
all_numbered get n (x ∷ xs) h =
    let first : n + 0 ≡ n = omega arith in (
      sym (ap get first) ∙ h 0,
      all_numbered get (n + 1) xs (λ i. let next : n + 1 + i ≡ n + suc i = omega arith in ap get next ∙ h (suc i)),
    )

abbrev Here : List ColumnDef → ℕ → Type 0
Here columns i = (c : ColumnDef) × (slice_get columns i ≡ Some c)

places_here : (columns : List ColumnDef) → AllByRecursion (Here columns) (key_places columns)
unfolding key_places
places_here columns =
    all_map (λ (p : Placed). slice_get columns p.0 ≡ Some p.1) (Here columns) (λ (p : Placed). p.0) (λ p h. (p.1, h)) (sorted position_cmp (filter (λ (p : Placed). not (p.1.key_position == 0)) (numbered 0 columns)))
    (all_sorted (λ (p : Placed). slice_get columns p.0 ≡ Some p.1) position_cmp (filter (λ (p : Placed). not (p.1.key_position == 0)) (numbered 0 columns))
    (all_filter (λ (p : Placed). slice_get columns p.0 ≡ Some p.1) (λ (p : Placed). not (p.1.key_position == 0)) (numbered 0 columns)
    (all_numbered (slice_get columns) 0 columns (λ i. let at : 0 + i ≡ i = omega arith in ap (slice_get columns) at))))

-- ---- what they give

values_are : (columns : List ColumnDef) (row : Row) (places : List ℕ) → AllByRecursion (Here columns) places
    → map (λ p. key_value (conversion_of p.1 p.0.ty)) (zip (filter_map (slice_get columns) places) (map (value_at row) places)) ≡ map (keyed_at columns row) places
values_are columns row [] h = refl
values_are columns row (i ∷ is) h = rw (h.0.1) (ap (λ r. key_value (conversion_of (value_at row i) h.0.0.ty) ∷ r) (values_are columns row is h.1))

pub key_is : (columns : List ColumnDef) (names : Option (List (List ℕ))) (row : Row)
    → key_inserted columns names row ≡ all_some (map (keyed_at columns (arranged columns names row)) (key_places columns))
unfolding key_inserted
key_is columns names row = ap all_some (values_are columns (arranged columns names row) (key_places columns) (places_here columns))
