use Rattle.std.proofs.Common.{◌≡◌, ◌++◌, drop, filter}
use Rattle.std.specs.Prelude.{not}
use Rattle.spec_rules.specs.Rows.{is_first_of}
use Rattle.audit_rules.specs.Seen.{seen}
use Rattle.audit_rules.proofs.rows.seconds.Given as goal

abbrev pub invariant-loop-row : goal.invariant-loop-row
invariant-loop-row l = seen l.second.items ++ filter (λ r. not (is_first_of l.thing (seen l.rows) r)) (seen (drop l.row-index l.rows)) ≡ filter (λ r. not (is_first_of l.thing (seen l.rows) r)) (seen l.rows)
