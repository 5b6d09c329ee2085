use Rattle.std.proofs.Common.{◌≡◌, take, map}
use Rattle.std.specs.List.{zip}
use Rattle.spec_model.specs.Changes.{value_named}
use Rattle.sql_change.proofs.keeping.arranged_by.Given as goal

abbrev pub invariant-loop-column : goal.invariant-loop-column
invariant-loop-column l = l.values.items ≡ map (λ c. value_named (zip l.names l.row) c.name) (take l.column-index l.columns)
