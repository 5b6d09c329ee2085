use Rattle.std.proofs.Common.{Bool, [], sym, ap, ◌∙◌, subst}
use Rattle.server_session.specs.Steps.{StepsAlone}
use Rattle.server_session.specs.declared.stage.ControlPoint.{ControlPoint}
use Rattle.server_session.specs.declared.stage.ControlPoint.TheVariants.{Inside}
use Rattle.server_session.specs.declared.stage.Stage.TheVariants.{Answering}
use Rattle.server_session.proofs.Alone.{then_point}
use Rattle.server_session.proofs.Course.{refusing, is_refused}
use Rattle.server_session.proofs.seat.Seat.refuse.Goals as goal

pub returns-clause-steps : goal.returns-clause-steps
returns-clause-steps g c = subst (λ (p : ControlPoint). StepsAlone g.H.Hash32.digest c.args.self.now [] (then_point c.args.self.now p))
    (sym (c.put_point.ensures ∙ ap (λ (b : Bool). Inside (Answering (refusing b c.args.refusal))) c.is_some.ensures))
    (is_refused g.H.Hash32.digest c.args.self.now c.requires.ready c.args.refusal c.requires.refused)
