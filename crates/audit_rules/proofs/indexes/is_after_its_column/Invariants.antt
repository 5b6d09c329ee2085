use Rattle.std.proofs.Common.{◌≡◌, drop}
use Rattle.std.specs.List.{list_all}
use Rattle.std.specs.Prelude.{◌||◌, not}
use Rattle.spec_rules.specs.Indexes.{is_column_of}
use Rattle.spec_rules.specs.Places.{stands_before}
use Rattle.audit_rules.specs.Seen.{row_of, seen}
use Rattle.audit_rules.proofs.indexes.is_after_its_column.Given as goal

abbrev pub invariant-loop-column : goal.invariant-loop-column
invariant-loop-column l =
    list_all (λ c. not (is_column_of (row_of l.index) c) || stands_before c.place l.index.place) (seen (drop l.column-index l.first))
    ≡ list_all (λ c. not (is_column_of (row_of l.index) c) || stands_before c.place l.index.place) (seen l.first)
