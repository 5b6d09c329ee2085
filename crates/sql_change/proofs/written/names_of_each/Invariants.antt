use Rattle.std.proofs.Common.{◌≡◌, take, map}
use Rattle.spec_model.specs.Columns.{names_of}
use Rattle.sql_change.proofs.written.names_of_each.Given as goal

abbrev pub invariant-loop-column : goal.invariant-loop-column
invariant-loop-column l = l.names.items ≡ names_of (map (λ c. c.now) (take l.column-index l.columns))
