use Rattle.std.proofs.Common.{◌≡◌, ◌++◌, drop, map}
use Rattle.sql_value.specs.declared.value.Value.TheVariants.{Null}
use Rattle.spec_model.specs.Query.{value_in}
use Rattle.sql_select.proofs.showing.values_in.Given as goal

abbrev pub invariant-loop-place : goal.invariant-loop-place
invariant-loop-place l =
    (l.null ≡ Null)
    × (l.values.items ++ map (λ place. value_in place l.row) (drop l.place-index l.places) ≡ map (λ place. value_in place l.row) l.places)
