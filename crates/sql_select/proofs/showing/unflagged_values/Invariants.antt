use Rattle.std.proofs.Common.{◌≡◌, ◌++◌}
use Rattle.sql_parts.specs.Dropped.{unflagged}
use Rattle.sql_select.proofs.showing.unflagged_values.Given as goal

abbrev pub invariant-loop-flag : goal.invariant-loop-flag
invariant-loop-flag l = l.values.items ++ unflagged l.flag-iterator.a.rest.now l.flag-iterator.b.rest.items ≡ unflagged l.fn.flags l.fn.row
