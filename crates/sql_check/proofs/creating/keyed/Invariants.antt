use Rattle.std.proofs.Common.{◌≡◌, take, map}
use Rattle.spec_model.specs.Create as spec
use Rattle.sql_check.proofs.creating.keyed.Given as goal

abbrev pub invariant-loop-column : goal.invariant-loop-column
invariant-loop-column l = l.keyed.items ≡ map (spec.keyed l.key) (take l.column-index l.columns)
