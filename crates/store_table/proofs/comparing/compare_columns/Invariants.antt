use Rattle.std.proofs.Common.{◌≡◌, drop}
use Rattle.spec_model.specs.Keys.{key_cmp}
use Rattle.store_table.specs.Orders.{column_values}
use Rattle.store_table.proofs.comparing.compare_columns.Given as goal

abbrev pub invariant-loop-ordinal : goal.invariant-loop-ordinal
invariant-loop-ordinal l =
    key_cmp (column_values (drop l.ordinal-index l.ordinals) l.a) (column_values (drop l.ordinal-index l.ordinals) l.b)
    ≡ key_cmp (column_values l.ordinals l.a) (column_values l.ordinals l.b)
