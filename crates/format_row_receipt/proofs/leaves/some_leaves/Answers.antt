use Rattle.std.proofs.Common.{arith}
use Rattle.base_fields.proofs.Loops.{goes_on}
use Rattle.base_fields.specs.Readers.{long_at}
use Rattle.format_row_receipt.proofs.leaves.some_leaves.Goals as goal

pub loop-preserved : goal.loop-preserved
loop-preserved c =
    let lt = c.loop-test.true in
    rw c.in_ok-push.ensures.ok (goes_on long_at c.loop.leaves c.args.count c.loop.counter c.loop.rest.now c.in_ok-leaf.leaf c.in_ok-leaf.after.now _ (omega arith) c.in_ok-leaf.ensures c.loop.invariant)
