use Rattle.std.proofs.Common.{arith}
use Rattle.base_fields.proofs.Loops.{goes_on}
use Rattle.format_entry.specs.EntryReading.{root_at}
use Rattle.format_entry.proofs.reading.some_roots.Goals as goal

pub loop-preserved : goal.loop-preserved
loop-preserved c =
    let lt = c.loop-test.true in
    rw c.in_ok-push.ensures.ok (goes_on root_at c.loop.roots c.args.count c.loop.counter c.loop.rest.now c.in_ok-root.root c.in_ok-root.after.now _ (omega arith) c.in_ok-root.ensures c.loop.invariant)
