use Rattle.std.proofs.Common.{rules, subst, sym}
use Rattle.spec_model.specs.Refusals.{MatchesUnlessOom}
use Rattle.sql_check.proofs.Alterations.{by_names}
use Rattle.sql_check.proofs.altering.dropped_table.Goals as goal

pub returns : goal.returns
returns g c =
    subst (λ meant. MatchesUnlessOom meant c.gone_as.result)
    (sym (by_names (g.D.Definitions.defs c.args.defs.now) c.args.def.now c.args.part
    c.in_ok-name.name c.in_ok-history.history c.in_ok-view.view
    (search rules) c.in_ok-name.ensures c.in_ok-history.ensures c.in_ok-view.ensures))
    c.gone_as.ensures
