use Rattle.std.proofs.Common.{subst}
use Rattle.spec_model.specs.Refusals.{MatchesUnlessOom}
use Rattle.spec_model.specs.Query.{agg_value}
use Rattle.sql_parts.proofs.InTurn.{map_after_none}
use Rattle.sql_select.proofs.totals.aggregates.Goals as goal

pub returns : goal.returns
returns c =
    subst (λ meant. MatchesUnlessOom meant c.each_aggregate.result) (map_after_none (agg_value c.args.columns.now c.args.rows.now) c.args.aggs.now) c.each_aggregate.ensures
