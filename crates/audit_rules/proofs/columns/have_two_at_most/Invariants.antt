use Rattle.std.proofs.Common.{◌≡◌, drop, filter, length, nat_le}
use Rattle.std.specs.List.{list_all}
use Rattle.spec_rules.specs.Rows.{same_thing}
use Rattle.audit_rules.specs.Seen.{seen}
use Rattle.audit_rules.proofs.columns.have_two_at_most.Given as goal

abbrev pub invariant-loop-row : goal.invariant-loop-row
invariant-loop-row l =
    list_all (λ r. nat_le (length (filter (same_thing 1 r) (seen l.columns))) 2) (seen (drop l.row-index l.columns))
    ≡ list_all (λ r. nat_le (length (filter (same_thing 1 r) (seen l.columns))) 2) (seen l.columns)
