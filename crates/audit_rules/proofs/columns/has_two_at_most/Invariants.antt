use Rattle.std.proofs.Common.{◌≡◌, ◌≤◌, ◌+◌, drop, filter, length}
use Rattle.spec_rules.specs.Rows.{same_thing}
use Rattle.audit_rules.specs.Seen.{row_of, seen}
use Rattle.audit_rules.proofs.columns.has_two_at_most.Given as goal

abbrev pub invariant-loop-other : goal.invariant-loop-other
invariant-loop-other l = record {
  few : l.count ≤ l.other-index;
  count : l.count + length (filter (same_thing 1 (row_of l.row)) (seen (drop l.other-index l.columns))) ≡ length (filter (same_thing 1 (row_of l.row)) (seen l.columns));
}
