use Rattle.std.proofs.Common.{◌≡◌, drop}
use Rattle.spec_model.specs.Create.{names_of}
use Rattle.spec_model.specs.Lists.{repeats}
use Rattle.audit_definitions.proofs.names.column_names_repeat.Given as goal

abbrev pub invariant-loop-at : goal.invariant-loop-at
invariant-loop-at l = repeats (names_of (drop l.at l.columns)) ≡ repeats (names_of l.columns)
