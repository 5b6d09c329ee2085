use Rattle.std.proofs.Common.{◌<◌, [], sym, ap, ◌∙◌, subst}
use Rattle.server_session.specs.ControlPoints.{KeepsStatement}
use Rattle.server_session.specs.Needs.{visits_left}
use Rattle.server_session.specs.Steps.{StepsAlone}
use Rattle.server_session.specs.declared.stage.ControlPoint.{ControlPoint}
use Rattle.server_session.specs.declared.stage.ControlPoint.TheVariants.{Inside}
use Rattle.server_session.proofs.Alone.{then_point}
use Rattle.server_session.proofs.Keeping.{lacks_alone, lacks_fewer, lacks_stays}
use Rattle.server_session.proofs.seat.Seat.lack_image.Goals as goal

pub returns-clause-steps : goal.returns-clause-steps
returns-clause-steps g c = subst (λ (p : ControlPoint). StepsAlone g.H.Hash32.digest c.args.self.now [] (then_point c.args.self.now p)) (sym (c.put_point.ensures ∙ ap Inside c.stopped.ensures))
    (lacks_alone g.H.Hash32.digest c.args.self.now c.requires.needs)

pub returns-clause-stays : goal.returns-clause-stays
returns-clause-stays g c = subst (λ (p : ControlPoint). KeepsStatement c.args.self.now (then_point c.args.self.now p)) (sym (c.put_point.ensures ∙ ap Inside c.stopped.ensures))
    (lacks_stays g.H.Hash32.digest c.args.self.now c.requires.needs)

pub returns-clause-comes_on : goal.returns-clause-comes_on
returns-clause-comes_on g c = subst (λ (p : ControlPoint). visits_left (then_point c.args.self.now p) < visits_left c.args.self.now) (sym (c.put_point.ensures ∙ ap Inside c.stopped.ensures))
    (lacks_fewer g.H.Hash32.digest c.args.self.now c.requires.needs c.requires.seated)
