use Rattle.std.proofs.Common.{◌≡◌, drop, map}
use Rattle.sql_value.specs.declared.value.Value.TheVariants.{Null}
use Rattle.spec_model.specs.Lists.{checked_fold}
use Rattle.spec_model.specs.Query.{added_up, value_in}
use Rattle.sql_select.proofs.totals.total.Given as goal

abbrev pub invariant-loop-row : goal.invariant-loop-row
invariant-loop-row l =
    (l.null ≡ Null)
    × (checked_fold added_up l.total (map (value_in l.place) (drop l.row-index l.rows)) ≡ checked_fold added_up Null (map (value_in l.place) l.rows))
