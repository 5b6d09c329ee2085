use Rattle.std.proofs.Common.{◌≡◌, drop}
use Rattle.spec_model.specs.Lists.{rise_within}
use Rattle.audit_definitions.proofs.rules.rise_within.Given as goal

abbrev pub invariant-loop-n : goal.invariant-loop-n
invariant-loop-n l = rise_within l.last l.limit (drop l.n-index l.numbers) ≡ rise_within 0 l.limit l.numbers
