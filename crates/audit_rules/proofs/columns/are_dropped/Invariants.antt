use Rattle.std.proofs.Common.{◌≡◌, drop}
use Rattle.std.specs.Prelude.{◌||◌, not}
use Rattle.std.specs.List.{list_all}
use Rattle.spec_rules.specs.Columns.{drops_column}
use Rattle.spec_rules.specs.Rows.{same_thing}
use Rattle.audit_rules.specs.Seen.{seen}
use Rattle.audit_rules.proofs.columns.are_dropped.Given as goal

abbrev pub invariant-loop-row : goal.invariant-loop-row
invariant-loop-row l =
    list_all (λ s. list_all (λ f. not (same_thing 1 f s) || drops_column f s) (seen l.first)) (seen (drop l.row-index l.second))
    ≡ list_all (λ s. list_all (λ f. not (same_thing 1 f s) || drops_column f s) (seen l.first)) (seen l.second)
