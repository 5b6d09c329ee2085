use Rattle.std.proofs.Common.{arith}
use Rattle.base_fields.proofs.Loops.{goes_on}
use Rattle.format_event.specs.LeafReading.{column_at}
use Rattle.format_event.proofs.reading.some_columns.Goals as goal

pub loop-preserved : goal.loop-preserved
loop-preserved c =
    let lt = c.loop-test.true in
    rw c.in_ok-push.ensures.ok (goes_on column_at c.loop.columns c.args.count c.loop.counter c.loop.rest.now c.in_ok-column.column c.in_ok-column.after.now _ (omega arith) c.in_ok-column.ensures c.loop.invariant)
