use Rattle.std.proofs.Common.{◌≡◌, drop}
use Rattle.std.specs.Prelude.{not}
use Rattle.std.specs.List.{list_all, list_any}
use Rattle.spec_rules.specs.ColumnNames.{same_column_name}
use Rattle.spec_rules.specs.Places.{PlacedRow}
use Rattle.spec_rules.specs.Rows.{in_force}
use Rattle.audit_rules.specs.Seen.{seen}
use Rattle.audit_rules.proofs.in_force.column_names_are_new.Given as goal

abbrev pub invariant-loop-row : goal.invariant-loop-row
invariant-loop-row l =
    list_all (λ (r : PlacedRow). not (list_any (same_column_name r) (in_force 1 r.place (seen l.columns)))) (seen (drop l.row-index l.columns))
    ≡ list_all (λ (r : PlacedRow). not (list_any (same_column_name r) (in_force 1 r.place (seen l.columns)))) (seen l.columns)
