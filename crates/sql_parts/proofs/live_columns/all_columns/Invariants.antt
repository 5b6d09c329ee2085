use Rattle.std.proofs.Common.{◌≡◌, take, map}
use Rattle.sql_parts.proofs.live_columns.all_columns.Given as goal

abbrev pub invariant-loop-column : goal.invariant-loop-column
invariant-loop-column l = map (λ c. c.now) l.all.items ≡ take l.column-index l.declared
