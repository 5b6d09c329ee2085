use Rattle.std.proofs.Common.{arith}
use Rattle.base_fields.proofs.Loops.{goes_on}
use Rattle.format_row_receipt.specs.RowReading.{step_at}
use Rattle.format_row_receipt.proofs.steps.some_steps.Goals as goal

pub loop-preserved : goal.loop-preserved
loop-preserved c =
    let lt = c.loop-test.true in
    rw c.in_ok-push.ensures.ok (goes_on step_at c.loop.steps c.args.count c.loop.counter c.loop.rest.now c.in_ok-step.step c.in_ok-step.after.now _ (omega arith) c.in_ok-step.ensures c.loop.invariant)
