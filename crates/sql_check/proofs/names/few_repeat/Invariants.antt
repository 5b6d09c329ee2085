use Rattle.std.proofs.Common.{◌≡◌, drop, map}
use Rattle.spec_model.specs.Lists as spec
use Rattle.sql_check.proofs.names.few_repeat.Given as goal

abbrev pub invariant-loop-at : goal.invariant-loop-at
invariant-loop-at g l = spec.repeats (map g.T.Named.named (drop l.at l.items)) ≡ spec.repeats (map g.T.Named.named l.items)
