use Rattle.std.proofs.Common.{arith}
use Rattle.base_fields.proofs.Loops.{goes_on}
use Rattle.format_image.specs.ImageReading.{history_at}
use Rattle.format_image.proofs.read_rows.some_history_rows.Goals as goal

pub loop-preserved : goal.loop-preserved
loop-preserved c =
    let lt = c.loop-test.true in
    rw c.in_ok-push.ensures.ok (goes_on history_at c.loop.rows c.args.count c.loop.counter c.loop.rest.now c.in_ok-row.row c.in_ok-row.after.now _ (omega arith) c.in_ok-row.ensures c.loop.invariant)
