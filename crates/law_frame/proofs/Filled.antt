-- Rows that are shorter than their columns: what is missing is NULL.
use Rattle.std.proofs.Common.{◌≡◌, ◌≤◌, ℕ, zero, suc, ◌+◌, refl, ap, List, [], ◌∷◌, ◌++◌, map, length, Option, arith, flat_map}
use Rattle.std.proofs.lemmas.List.{length-map}
use Rattle.sql_value.specs.declared.column.ColumnDef.{ColumnDef}
use Rattle.sql_value.specs.declared.value.Value.TheVariants.{Null}
use Rattle.sql_types.specs.declared.event.EventField.{EventField}
use Rattle.sql_types.specs.declared.version.TypedValue.{TypedValue}
use Rattle.sql_types.specs.declared.version.Version.{Version}
use Rattle.spec_model.specs.Events.{fields_at, fields_of}
use Rattle.spec_model.specs.Lists.{numbered}
use Rattle.spec_model.specs.Rows.{Row, value_or_null, filled, filled_stored, row_of, values_of}
use Rattle.spec_model.specs.Keys.{key_at, key_of, key_places, value_at}

pub filled_whole : (cs : List ColumnDef) (row : Row) → length cs ≤ length row → filled cs row ≡ row
filled_whole [] row le = refl
filled_whole (c ∷ cs) [] le = absurd (omega (arith, le))
filled_whole (c ∷ cs) (v ∷ vs) le = ap (λ (r : Row). v ∷ r) (filled_whole cs vs (omega (arith, le)))

pub filled_stored_whole : (cs : List ColumnDef) (values : List (Option TypedValue)) → length cs ≤ length values → filled_stored cs values ≡ values
filled_stored_whole [] values le = refl
filled_stored_whole (c ∷ cs) [] le = absurd (omega (arith, le))
filled_stored_whole (c ∷ cs) (v ∷ vs) le = ap (λ (vs : List (Option TypedValue)). v ∷ vs) (filled_stored_whole cs vs (omega (arith, le)))

pub filled_one_more : (cs : List ColumnDef) (c : ColumnDef) (row : Row) → length row ≤ length cs → filled (cs ++ c ∷ []) row ≡ filled cs row ++ Null ∷ []
filled_one_more [] c [] le = refl
filled_one_more [] c (v ∷ vs) le = absurd (omega (arith, le))
filled_one_more (d ∷ cs) c [] le = ap (λ (r : Row). Null ∷ r) (filled_one_more cs c [] (omega arith))
filled_one_more (d ∷ cs) c (v ∷ vs) le = ap (λ (r : Row). v ∷ r) (filled_one_more cs c vs (omega (arith, le)))

pub filled_values : (cs : List ColumnDef) (values : List (Option TypedValue)) → map value_or_null (filled_stored cs values) ≡ filled cs (map value_or_null values)
filled_values [] values = refl
filled_values (c ∷ cs) [] = ap (λ (r : Row). Null ∷ r) (filled_values cs [])
filled_values (c ∷ cs) (v ∷ vs) = ap (λ (r : Row). value_or_null v ∷ r) (filled_values cs vs)

fields_from : (n : ℕ) (cs : List ColumnDef) (values : List (Option TypedValue)) → flat_map fields_at (numbered n (filled_stored cs values)) ≡ flat_map fields_at (numbered n values)
fields_from n [] values = refl
fields_from n (c ∷ cs) [] = fields_from (n + 1) cs []
fields_from n (c ∷ cs) (v ∷ vs) = ap (λ (fs : List EventField). fields_at (n, v) ++ fs) (fields_from (n + 1) cs vs)

pub filled_fields : (cs : List ColumnDef) (values : List (Option TypedValue)) → fields_of (filled_stored cs values) ≡ fields_of values
filled_fields cs values = fields_from 1 cs values

pub filled_at : (cs : List ColumnDef) (row : Row) (place : ℕ) → value_at (filled cs row) place ≡ value_at row place
filled_at [] row place = refl
filled_at (c ∷ cs) [] zero = refl
filled_at (c ∷ cs) [] (suc place) = filled_at cs [] place
filled_at (c ∷ cs) (v ∷ vs) zero = refl
filled_at (c ∷ cs) (v ∷ vs) (suc place) = filled_at cs vs place

filled_at_each : (cs : List ColumnDef) (row : Row) (places : List ℕ) → map (value_at (filled cs row)) places ≡ map (value_at row) places
filled_at_each cs row [] = refl
filled_at_each cs row (p ∷ ps) = rw (filled_at cs row p, filled_at_each cs row ps) refl

-- a row is filled with all but its key
pub filled_key : (columns cs : List ColumnDef) (row : Row) → key_of columns (filled cs row) ≡ key_of columns row
unfolding key_at
filled_key columns cs row = filled_at_each cs row (key_places columns)

-- ---- versions

pub row_whole : (columns : List ColumnDef) (v : Version) → length v.values ≡ length columns → row_of columns v ≡ values_of v
row_whole columns v e = filled_whole columns (values_of v) (omega (arith, length-map v.values value_or_null, e))

pub row_one_more : (columns : List ColumnDef) (c : ColumnDef) (v : Version) → length v.values ≤ length columns → row_of (columns ++ c ∷ []) v ≡ row_of columns v ++ Null ∷ []
row_one_more columns c v le = filled_one_more columns c (values_of v) (omega (arith, length-map v.values value_or_null, le))
