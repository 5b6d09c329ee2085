use Rattle.std.proofs.Common.{arith}
use Rattle.base_fields.proofs.Loops.{goes_on}
use Rattle.format_image.specs.ImageReading.{index_at}
use Rattle.format_image.proofs.read_definitions.some_indexes.Goals as goal

pub loop-preserved : goal.loop-preserved
loop-preserved c =
    let lt = c.loop-test.true in
    rw c.in_ok-push.ensures.ok (goes_on index_at c.loop.indexes c.args.count c.loop.counter c.loop.rest.now c.in_ok-index.index c.in_ok-index.after.now _ (omega arith) c.in_ok-index.ensures c.loop.invariant)
