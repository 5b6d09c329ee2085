use Rattle.std.proofs.Common.{arith}
use Rattle.sql_parts.proofs.Dropped.{both_over}
use Rattle.sql_parts.proofs.Zipped.{all_done}
use Rattle.sql_parts.proofs.live_columns.unflagged_columns.Goals as goal

pub returns : goal.returns
returns c =
    all_done _ _ _
    (both_over c.loop-place.place c.args.flags.now c.args.declared.now
    (λ left. omega (arith, left, c.min-place-end.ensures, c.loop-place-test.false)))
    c.loop-place.invariant
