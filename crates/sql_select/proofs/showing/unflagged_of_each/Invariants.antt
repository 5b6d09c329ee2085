use Rattle.std.proofs.Common.{◌≡◌, ◌++◌, map}
use Rattle.sql_parts.specs.Dropped.{unflagged}
use Rattle.sql_select.proofs.showing.unflagged_of_each.Given as goal

abbrev pub invariant-loop-row : goal.invariant-loop-row
invariant-loop-row l =
    (goal.iterator-loop-row).can_next l.row-iterator
    × (goal.iterator-loop-row).is_finite l.row-iterator
    × (l.out.items ++ map (unflagged l.flags) l.row-iterator.rest.items ≡ map (unflagged l.flags) l.fn.rows.items)
