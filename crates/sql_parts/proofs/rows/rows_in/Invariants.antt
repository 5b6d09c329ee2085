use Rattle.std.proofs.Common.{◌≡◌, map}
use Rattle.sql_parts.specs.Places.{row_in}
use Rattle.sql_parts.proofs.rows.rows_in.Given as goal

abbrev pub invariant-loop-row : goal.invariant-loop-row
invariant-loop-row l = l.rows.items ≡ map row_in l.yielded
