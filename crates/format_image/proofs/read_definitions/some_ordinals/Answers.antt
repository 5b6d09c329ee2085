use Rattle.std.proofs.Common.{arith}
use Rattle.base_fields.proofs.Loops.{goes_on}
use Rattle.base_fields.specs.Readers.{u16_at}
use Rattle.format_image.proofs.read_definitions.some_ordinals.Goals as goal

pub loop-preserved : goal.loop-preserved
loop-preserved c =
    let lt = c.loop-test.true in
    rw c.in_ok-push.ensures.ok (goes_on u16_at c.loop.ordinals c.args.count c.loop.counter c.loop.rest.now c.in_ok-ordinal.ordinal c.in_ok-ordinal.after.now _ (omega arith) c.in_ok-ordinal.ensures c.loop.invariant)
