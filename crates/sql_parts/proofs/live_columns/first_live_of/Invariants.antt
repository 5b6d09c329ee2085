use Rattle.std.proofs.Common.{◌≡◌, ◌+◌, drop}
use Rattle.sql_parts.specs.Dropped.{first_live}
use Rattle.sql_parts.proofs.live_columns.first_live_of.Given as goal

abbrev pub invariant-loop-place : goal.invariant-loop-place
invariant-loop-place l = first_live l.dropped l.name (l.place + 1) (drop l.place l.declared) ≡ first_live l.dropped l.name 1 l.declared
