use Rattle.std.proofs.Common.{◌≡◌, drop}
use Rattle.audit_definitions.specs.DefinitionRows.{is_missing}
use Rattle.audit_definitions.proofs.spelling.is_missing.Given as goal

abbrev pub invariant-loop-own : goal.invariant-loop-own
invariant-loop-own l = is_missing (drop l.own-index l.ids) l.id ≡ is_missing l.ids l.id
