use Rattle.std.proofs.Common.{◌≡◌, ◌++◌, drop, map}
use Rattle.sql_parts.specs.Dropped.{unflagged}
use Rattle.sql_parts.proofs.live_columns.unflagged_columns.Given as goal

abbrev pub invariant-loop-place : goal.invariant-loop-place
invariant-loop-place l =
    map (λ c. c.now) l.found.items ++ unflagged (drop l.place l.flags) (drop l.place l.declared) ≡ unflagged l.flags l.declared
