use Rattle.std.proofs.Common.{◌≡◌, take}
use Rattle.spec_model.specs.Create as spec
use Rattle.sql_check.proofs.indexing.ordinals_of.Given as goal

abbrev pub invariant-loop-name : goal.invariant-loop-name
invariant-loop-name l = l.ordinals.items ≡ spec.ordinals_of l.columns (take l.name-index l.names)
