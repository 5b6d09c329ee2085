use Rattle.std.proofs.Common.{◌≡◌, drop}
use Rattle.spec_model.specs.Lists.{repeats}
use Rattle.audit_rules.specs.Seen.{texts}
use Rattle.audit_rules.proofs.table_names.repeat.Given as goal

abbrev pub invariant-loop-at : goal.invariant-loop-at
invariant-loop-at l = repeats (texts (drop l.at l.names)) ≡ repeats (texts l.names)
