use Rattle.std.proofs.Common.{◌≡◌, ◌++◌, take, map}
use Rattle.sql_select.proofs.showing.first_of_each.Given as goal

abbrev pub invariant-loop-row : goal.invariant-loop-row
invariant-loop-row l =
    (goal.iterator-loop-row).can_next l.row-iterator
    × (goal.iterator-loop-row).is_finite l.row-iterator
    × (l.out.items ++ map (take l.shown) l.row-iterator.rest.items ≡ map (take l.shown) l.fn.rows.items)
