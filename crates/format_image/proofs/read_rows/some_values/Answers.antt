use Rattle.std.proofs.Common.{arith}
use Rattle.base_fields.proofs.Loops.{goes_on}
use Rattle.format_image.specs.ImageReading.{value_at}
use Rattle.format_image.proofs.read_rows.some_values.Goals as goal

pub loop-preserved : goal.loop-preserved
loop-preserved c =
    let lt = c.loop-test.true in
    rw c.in_ok-push.ensures.ok (goes_on value_at c.loop.values c.args.count c.loop.counter c.loop.rest.now c.in_ok-value.value c.in_ok-value.after.now _ (omega arith) c.in_ok-value.ensures c.loop.invariant)
