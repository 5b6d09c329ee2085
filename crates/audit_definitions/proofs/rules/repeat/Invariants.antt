use Rattle.std.proofs.Common.{◌≡◌, drop}
use Rattle.law_catalog_rows.specs.IsEncodableDef.{number_repeats}
use Rattle.audit_definitions.proofs.rules.repeat.Given as goal

abbrev pub invariant-loop-k : goal.invariant-loop-k
invariant-loop-k l = number_repeats (drop l.k l.numbers) ≡ number_repeats l.numbers
