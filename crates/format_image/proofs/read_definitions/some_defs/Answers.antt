use Rattle.std.proofs.Common.{arith}
use Rattle.base_fields.proofs.Loops.{goes_on}
use Rattle.format_image.specs.ImageReading.{def_at}
use Rattle.format_image.proofs.read_definitions.some_defs.Goals as goal

pub loop-preserved : goal.loop-preserved
loop-preserved c =
    let lt = c.loop-test.true in
    rw c.in_ok-push.ensures.ok (goes_on (def_at c.args.version) c.loop.defs c.args.count c.loop.counter c.loop.rest.now c.in_ok-def.def c.in_ok-def.after.now _ (omega arith) c.in_ok-def.ensures c.loop.invariant)
