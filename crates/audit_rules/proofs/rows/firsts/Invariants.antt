use Rattle.std.proofs.Common.{◌≡◌, ◌++◌, drop, filter}
use Rattle.spec_rules.specs.Rows.{is_first_of}
use Rattle.audit_rules.specs.Seen.{seen}
use Rattle.audit_rules.proofs.rows.firsts.Given as goal

abbrev pub invariant-loop-row : goal.invariant-loop-row
invariant-loop-row l = seen l.first.items ++ filter (is_first_of l.thing (seen l.rows)) (seen (drop l.row-index l.rows)) ≡ filter (is_first_of l.thing (seen l.rows)) (seen l.rows)
