use Rattle.std.proofs.Common.{◌≡◌, ◌++◌, replicate}
use Rattle.sql_types.specs.declared.journal.JournalItem.TheVariants.{Close}
use Rattle.audit_replay.proofs.past.add_closings.Given as goal

abbrev pub invariant-loop : goal.invariant-loop
invariant-loop l = l.items.items ≡ l.fn.items.items ++ replicate l.counter (Close l.size)
