use Rattle.std.proofs.Common.{[], refl, sym, ap, ◌∙◌, subst}
use Rattle.server_session.specs.Steps.{StepsAlone}
use Rattle.server_session.specs.declared.stage.ControlPoint.{ControlPoint}
use Rattle.server_session.proofs.Alone.{then_seat}
use Rattle.server_session.proofs.Ending.{end_point, finishes, finishing}
use Rattle.server_session.proofs.seat.Seat.finish.Goals as goal

pub returns-clause-steps : goal.returns-clause-steps
returns-clause-steps g c = let y = c.args.self.now in
    subst (λ (p : ControlPoint). StepsAlone g.H.Hash32.digest y [] (then_seat y y.started y.text y.stmt c.take_said.new.running p))
    (sym (c.put_point.ensures ∙ c.end_point.ensures ∙ ap end_point c.is_some.ensures)) (finishes g.H.Hash32.digest y c.take_said.new.running c.requires c.take_said.ensures.same)

pub returns-clause-end : goal.returns-clause-end
returns-clause-end g c = finishing c.args.self.now.running c.take_said.new.running c.args.self.now _ (c.put_point.ensures ∙ c.end_point.ensures ∙ ap end_point c.is_some.ensures) refl c.take_said.ensures.same
