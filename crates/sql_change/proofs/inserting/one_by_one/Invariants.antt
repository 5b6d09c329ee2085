use Rattle.std.proofs.Common.{◌≡◌, [], drop}
use Rattle.spec_model.specs.Changes as spec
use Rattle.spec_model.specs.Lists.{checked_fold}
use Rattle.spec_model.specs.Refusals.{and_then}
use Rattle.sql_change.specs.KeyOrder.{InKeyOrder}
use Rattle.sql_change.proofs.inserting.one_by_one.Given as goal

abbrev pub invariant-loop-row : goal.invariant-loop-row
invariant-loop-row g l =
    InKeyOrder l.table.columns l.before.rows l.before.by_key.items
    × (checked_fold (λ before row. and_then (spec.kept_row l.table.columns (spec.arranged l.table.columns l.names row)) (spec.one_more l.table.columns (g.R.LiveVersions.versions l.versions) before)) l.before.rows (drop l.row-index l.rows)
    ≡ checked_fold (λ before row. and_then (spec.kept_row l.table.columns (spec.arranged l.table.columns l.names row)) (spec.one_more l.table.columns (g.R.LiveVersions.versions l.versions) before)) [] l.rows)
