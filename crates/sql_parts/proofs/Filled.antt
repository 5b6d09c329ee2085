-- A row is filled by NULL behind its last value.
use Rattle.std.proofs.Common.{◌≡◌, ◌-◌, ℕ, suc, ap, sym, ◌∙◌, arith, List, [], ◌∷◌, ◌++◌, length, map, replicate}
use Rattle.std.proofs.lemmas.List.{append-nil, append_assoc, length-map}
use Rattle.sql_value.specs.declared.column.ColumnDef.{ColumnDef}
use Rattle.sql_value.specs.declared.value.Value.TheVariants.{Null}
use Rattle.sql_types.specs.declared.version.Version.{Version}
use Rattle.spec_model.specs.Rows.{Row, filled, row_of, value_or_null, values_of}

filled_up : (columns : List ColumnDef) (row : Row) → filled columns row ≡ row ++ replicate (length columns - length row) Null
filled_up [] row = sym (append-nil row) ∙ ap (λ (n : ℕ). row ++ replicate n Null) (let none : 0 ≡ 0 - length row = omega arith in none)
filled_up (c ∷ cs) [] =
    ap (λ (r : Row). Null ∷ r) (filled_up cs [])
    ∙ ap (λ (n : ℕ). replicate n Null) (let e : suc (length cs - 0) ≡ suc (length cs) - 0 = omega arith in e)
filled_up (c ∷ cs) (v ∷ vs) =
    ap (λ (r : Row). v ∷ r) (filled_up cs vs)
    ∙ ap (λ (n : ℕ). v ∷ vs ++ replicate n Null) (let e : length cs - length vs ≡ suc (length cs) - suc (length vs) = omega arith in e)

-- once its values stand, and NULL as often as it has fewer of them than there are columns
pub filled_by : (columns : List ColumnDef) (v : Version) (row : Row) (n : ℕ) → n ≡ length columns - length v.values → (row ++ values_of v) ++ replicate n Null ≡ row ++ row_of columns v
filled_by columns v row n e =
    append_assoc row (values_of v) (replicate n Null)
    ∙ ap (λ (r : Row). row ++ r)
    (ap (λ (k : ℕ). values_of v ++ replicate k Null) (let same : n ≡ length columns - length (values_of v) = omega (arith, e, length-map v.values value_or_null) in same)
    ∙ sym (filled_up columns (values_of v)))
