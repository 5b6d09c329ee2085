-- What stands in the second column of a row.
use Rattle.std.proofs.Common.{◌≡◌, List, [], ◌∷◌, map, Option, Some, None, refl, ap}
use Rattle.std.specs.Prelude.{slice_get}
use Rattle.sql_types.specs.declared.version.TypedValue.{TypedValue}
use Rattle.spec_model.specs.Rows.{value_or_null}
use Rattle.law_workload.specs.Tables.{number_in, second}

pub second_there : (row : List (Option TypedValue)) (x : Option TypedValue) → slice_get row 1 ≡ Some x → number_in (value_or_null x) ≡ second (map value_or_null row)
second_there [] x e = cc
second_there (a ∷ []) x e = cc
second_there (a ∷ b ∷ row) x e = let same : x ≡ b = cc in ap (λ y. number_in (value_or_null y)) same

pub second_lacks : (row : List (Option TypedValue)) → slice_get row 1 ≡ None → 0 ≡ second (map value_or_null row)
second_lacks [] e = refl
second_lacks (a ∷ []) e = refl
second_lacks (a ∷ b ∷ row) e = cc
