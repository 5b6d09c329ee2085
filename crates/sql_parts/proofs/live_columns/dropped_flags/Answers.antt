use Rattle.std.proofs.Common.{arith}
use Rattle.sql_parts.proofs.Dropped.{flags_done}
use Rattle.sql_parts.proofs.live_columns.dropped_flags.Goals as goal

pub returns : goal.returns
returns c =
    flags_done c.args.dropped.now c.loop-ordinal.ordinal-index c.args.count c.loop-ordinal.flags.items
    (omega (arith, c.loop-ordinal-test.false)) c.loop-ordinal.invariant
