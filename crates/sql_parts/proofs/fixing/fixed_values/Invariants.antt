use Rattle.std.proofs.Common.{◌≡◌, drop, map}
use Rattle.sql_value.specs.Tree.{tree}
use Rattle.spec_model.specs.Lists.{all_some}
use Rattle.sql_parts.specs.InTurn.{some_after}
use Rattle.sql_parts.specs.Fixed.{fixed_in}
use Rattle.sql_parts.proofs.fixing.fixed_values.Given as goal

abbrev pub invariant-loop-column : goal.invariant-loop-column
invariant-loop-column l =
    some_after l.key (map (λ c. fixed_in c (tree l.e)) (map (λ c. c.now) (drop l.column-index l.columns)))
    ≡ all_some (map (λ c. fixed_in c (tree l.e)) (map (λ c. c.now) l.columns))
