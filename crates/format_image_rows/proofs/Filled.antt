-- Values are filled by none behind the last one.
use Rattle.std.proofs.Common.{◌≡◌, ◌-◌, ℕ, suc, ap, ◌∙◌, arith, List, [], ◌∷◌, ◌++◌, length, replicate, None}
use Rattle.std.proofs.lemmas.List.{append-nil}
use Rattle.sql_value.specs.declared.column.ColumnDef.{ColumnDef}
use Rattle.spec_model.specs.Rows.{filled_stored}
use Rattle.format_image.specs.Rows.{Stored}

abbrev nones : ℕ → Stored
nones n = replicate n None

pub filled_by : (columns : List ColumnDef) (values : Stored) → values ++ nones (length columns - length values) ≡ filled_stored columns values
filled_by [] values = ap (λ (n : ℕ). values ++ nones n) (let none : 0 - length values ≡ 0 = omega arith in none) ∙ append-nil values
filled_by (c ∷ cs) [] =
    ap nones (let e : suc (length cs) - 0 ≡ suc (length cs - 0) = omega arith in e)
    ∙ ap (λ (vs : Stored). None ∷ vs) (filled_by cs [])
filled_by (c ∷ cs) (v ∷ vs) =
    ap (λ (n : ℕ). v ∷ vs ++ nones n) (let e : suc (length cs) - suc (length vs) ≡ length cs - length vs = omega arith in e)
    ∙ ap (λ (ws : Stored). v ∷ ws) (filled_by cs vs)
