use Rattle.std.proofs.Common.{◌≡◌, []}
use Rattle.spec_model.specs.Where.{holds}
use Rattle.sql_parts.specs.InTurn.{filter_after}
use Rattle.sql_select.proofs.filtering.those_taken.Given as goal

abbrev pub invariant-loop-row : goal.invariant-loop-row
invariant-loop-row l =
    (goal.iterator-loop-row).can_next l.row-iterator
    × (goal.iterator-loop-row).is_finite l.row-iterator
    × (filter_after (holds l.columns l.cond) l.taken.items l.row-iterator.rest.items ≡ filter_after (holds l.columns l.cond) [] l.fn.rows.items)
