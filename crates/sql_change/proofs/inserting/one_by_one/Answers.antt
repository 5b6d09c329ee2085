use Rattle.std.proofs.Common.{ap}
use Rattle.spec_model.specs.Changes as spec
use Rattle.spec_model.specs.Lists.{checked_fold}
use Rattle.spec_model.specs.Refusals.{and_then}
use Rattle.sql_change.proofs.KeyOrder.{none_in_order}
use Rattle.sql_change.proofs.inserting.one_by_one.Goals as goal

pub loop-row-init : goal.loop-row-init
loop-row-init g c = (
  none_in_order c.args.table.now.columns _ _ c.new-before.ensures.rows c.new-before.ensures.by_key,
  ap (λ before. checked_fold (λ before row. and_then (spec.kept_row c.args.table.now.columns (spec.arranged c.args.table.now.columns c.args.names.now row)) (spec.one_more c.args.table.now.columns (g.R.LiveVersions.versions c.args.versions.now) before)) before c.args.rows.now)
      c.new-before.ensures.rows,
)
