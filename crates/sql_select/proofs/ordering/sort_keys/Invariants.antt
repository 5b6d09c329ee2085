use Rattle.std.proofs.Common.{◌≡◌, ◌++◌, drop, map}
use Rattle.sql_select.specs.SortKeys.{key_of}
use Rattle.sql_select.proofs.ordering.sort_keys.Given as goal

abbrev pub invariant-loop-by : goal.invariant-loop-by
invariant-loop-by l = l.keys.items ++ map (key_of l.columns) (drop l.by-index l.order) ≡ map (key_of l.columns) l.order
