use Rattle.std.proofs.Common.{◌≡◌, drop, replicate, false}
use Rattle.sql_parts.specs.Dropped.{all_flagged}
use Rattle.sql_parts.proofs.live_columns.dropped_flags.Given as goal

abbrev pub invariant-loop-ordinal : goal.invariant-loop-ordinal
invariant-loop-ordinal l =
    all_flagged l.flags.items (drop l.ordinal-index l.dropped) ≡ all_flagged (replicate l.count false) l.dropped
