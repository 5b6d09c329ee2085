use Rattle.std.proofs.Common.{◌≡◌, drop}
use Rattle.spec_model.specs.Lists.{has_name}
use Rattle.audit_rules.specs.Seen.{texts}
use Rattle.audit_rules.proofs.table_names.is_among.Given as goal

abbrev pub invariant-loop-own : goal.invariant-loop-own
invariant-loop-own l = has_name (texts (drop l.own-index l.names)) l.name ≡ has_name (texts l.names) l.name
