use Rattle.std.proofs.Common.{[], sym, ap, ◌∙◌, subst}
use Rattle.server_session.specs.Steps.{StepsAlone}
use Rattle.server_session.specs.declared.stage.ControlPoint.{ControlPoint}
use Rattle.server_session.specs.declared.stage.ControlPoint.TheVariants.{Inside}
use Rattle.server_session.proofs.Alone.{lacks, then_point}
use Rattle.server_session.proofs.seat.Seat.lack_memory.Goals as goal

pub returns-clause-steps : goal.returns-clause-steps
returns-clause-steps g c = subst (λ (p : ControlPoint). StepsAlone g.H.Hash32.digest c.args.self.now [] (then_point c.args.self.now p)) (sym (c.put_point.ensures ∙ ap Inside c.stopped.ensures))
    (lacks g.H.Hash32.digest c.args.self.now c.requires)
