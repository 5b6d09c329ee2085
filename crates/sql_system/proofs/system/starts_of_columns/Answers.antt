use Rattle.std.proofs.Common.{◌∙◌}
use Rattle.spec_model.specs.Rows.{stored_row}
use Rattle.spec_model.specs.SystemTables.{column_row}
use Rattle.spec_model.specs.Changes.{Starts}
use Rattle.sql_system.proofs.Started.{one_more}
use Rattle.sql_system.proofs.system.starts_of_columns.Goals as goal

pub loop-place-preserved : goal.loop-place-preserved
loop-place-preserved c =
    one_more (λ row. Starts (stored_row c.args.stored.now row)) (column_row c.args.id) _ _ _ _ _ _
    c.in_ok-push.ensures.ok c.in_ok-start_of_column.ensures c.index-columns-place.is c.loop-place-test.true
    ∙ c.loop-place.invariant
