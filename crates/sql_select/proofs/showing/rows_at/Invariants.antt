use Rattle.std.proofs.Common.{◌≡◌, ◌++◌, drop, map}
use Rattle.sql_select.specs.Places.{values_at}
use Rattle.sql_select.proofs.showing.rows_at.Given as goal

abbrev pub invariant-loop-row : goal.invariant-loop-row
invariant-loop-row l = l.out.items ++ map (values_at l.places) (drop l.row-index l.rows) ≡ map (values_at l.places) l.rows
