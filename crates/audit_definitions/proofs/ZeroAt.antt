-- A row where 0 counts at one place, value by value.
use Rattle.std.proofs.Common.{◌≡◌, ℕ, zero, suc, refl, List, ◌∷◌, Option, Some, None}
use Rattle.sql_value.specs.declared.value.Value.{Value}
use Rattle.audit_definitions.specs.LatestRows.{counted_value, one_nearer, with_zero}

pub zero_step : (at : Option ℕ) (v : Value) (vs : List Value) → with_zero at (v ∷ vs) ≡ counted_value at v ∷ with_zero (one_nearer at) vs
zero_step None v vs = refl
zero_step (Some zero) v vs = refl
zero_step (Some (suc place)) v vs = refl
