use Rattle.std.proofs.Common.{ap, ◌∙◌}
use Rattle.server_session.specs.VisitedCells.{not_catalog}
use Rattle.server_session.proofs.Savepoints.{gone_back}
use Rattle.server_session.proofs.going_on.go_back.Goals as goal

pub returns-clause-back : goal.returns-clause-back
returns-clause-back g c = gone_back g.H.Hash32.digest c.args.name.now c.args.running.now.visited.left c.args.running.now.context _ _ c.rollback_to-went.result
    c.rollback_to-went.ensures.back c.rollback_to-went.ensures.none c.not_catalog.result (c.not_catalog.ensures ∙ ap not_catalog c.at.ensures) c.back_stage.ensures.stage
