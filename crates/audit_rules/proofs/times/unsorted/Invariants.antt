use Rattle.std.proofs.Common.{◌≡◌, ◌++◌, drop, filter_map}
use Rattle.audit_rules.specs.Seen.{seen}
use Rattle.audit_rules.specs.HappenedLists.{happened}
use Rattle.audit_rules.proofs.times.unsorted.Given as goal

abbrev pub invariant-loop-row : goal.invariant-loop-row
invariant-loop-row l = l.all.items ++ filter_map (happened l.what) (seen (drop l.row-index l.rows)) ≡ filter_map (happened l.what) (seen l.rows)
