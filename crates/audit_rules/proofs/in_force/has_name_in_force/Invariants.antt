use Rattle.std.proofs.Common.{◌≡◌, drop, filter}
use Rattle.std.specs.List.{list_any}
use Rattle.spec_rules.specs.ColumnNames.{same_column_name}
use Rattle.spec_rules.specs.Rows.{is_last_of}
use Rattle.audit_rules.specs.Seen.{row_of, seen}
use Rattle.audit_rules.proofs.in_force.has_name_in_force.Given as goal

abbrev pub invariant-loop-other : goal.invariant-loop-other
invariant-loop-other l =
    list_any (same_column_name (row_of l.row)) (filter (is_last_of 1 (seen l.earlier)) (seen (drop l.other-index l.earlier)))
    ≡ list_any (same_column_name (row_of l.row)) (filter (is_last_of 1 (seen l.earlier)) (seen l.earlier))
