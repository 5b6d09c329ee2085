use Rattle.std.proofs.Common.{◌≡◌, drop}
use Rattle.sql_select.specs.SortKeys.{keys_cmp}
use Rattle.sql_select.proofs.ordering.compare_rows.Given as goal

abbrev pub invariant-loop-key : goal.invariant-loop-key
invariant-loop-key l = keys_cmp (drop l.key-index l.keys) l.a l.b ≡ keys_cmp l.keys l.a l.b
