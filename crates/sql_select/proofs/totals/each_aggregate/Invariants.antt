use Rattle.std.proofs.Common.{◌≡◌, drop, []}
use Rattle.spec_model.specs.Query.{agg_value}
use Rattle.sql_parts.specs.InTurn.{map_after}
use Rattle.sql_select.specs.Totals.{AreTotals}
use Rattle.sql_select.proofs.totals.each_aggregate.Given as goal

abbrev pub invariant-loop-agg : goal.invariant-loop-agg
invariant-loop-agg l =
    (map_after (agg_value l.columns l.rows) l.values (drop l.agg-index l.aggs) ≡ map_after (agg_value l.columns l.rows) [] l.aggs)
    × AreTotals l.rows l.totals.items
