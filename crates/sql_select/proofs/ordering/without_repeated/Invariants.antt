use Rattle.std.proofs.Common.{◌≡◌, ◌++◌, drop}
use Rattle.spec_model.specs.Rows.{Row}
use Rattle.sql_select.specs.SortKeys.{keys_cmp}
use Rattle.sql_select.proofs.ordering.without_repeated.Given as goal

abbrev pub invariant-loop-key : goal.invariant-loop-key
invariant-loop-key l = (a b : Row) → keys_cmp (l.kept.items ++ drop l.key-index l.keys) a b ≡ keys_cmp l.keys a b
