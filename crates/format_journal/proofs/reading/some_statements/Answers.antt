use Rattle.std.proofs.Common.{arith}
use Rattle.base_fields.proofs.Loops.{goes_on}
use Rattle.format_journal.specs.JournalReading.{statement_at}
use Rattle.format_journal.proofs.reading.some_statements.Goals as goal

pub loop-preserved : goal.loop-preserved
loop-preserved c =
    let lt = c.loop-test.true in
    rw c.in_ok-push.ensures.ok (goes_on statement_at c.loop.script c.args.count c.loop.counter c.loop.rest.now c.in_ok-statement.statement c.in_ok-statement.after.now _ (omega arith) c.in_ok-statement.ensures c.loop.invariant)
