use Rattle.std.proofs.Common.{◌≡◌, drop}
use Rattle.std.specs.Prelude.{◌||◌, not}
use Rattle.std.specs.List.{list_all}
use Rattle.spec_rules.specs.Columns.{drops_column}
use Rattle.spec_rules.specs.Rows.{same_thing}
use Rattle.audit_rules.specs.Seen.{row_of, seen}
use Rattle.audit_rules.proofs.columns.follows_all.Given as goal

abbrev pub invariant-loop-row : goal.invariant-loop-row
invariant-loop-row l =
    list_all (λ f. not (same_thing 1 f (row_of l.second)) || drops_column f (row_of l.second)) (seen (drop l.row-index l.first))
    ≡ list_all (λ f. not (same_thing 1 f (row_of l.second)) || drops_column f (row_of l.second)) (seen l.first)
