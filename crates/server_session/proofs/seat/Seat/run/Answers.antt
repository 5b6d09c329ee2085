use Rattle.std.proofs.Common.{[], sym, subst, rules}
use Rattle.server_session.specs.Steps.{StepsAlone}
use Rattle.server_session.specs.declared.stage.ControlPoint.{ControlPoint}
use Rattle.server_session.proofs.Alone.{then_seat}
use Rattle.server_session.proofs.Course.{takes_course}
use Rattle.server_session.proofs.seat.Seat.run.Goals as goal

pub returns-clause-steps : goal.returns-clause-steps
returns-clause-steps g c = let y = c.args.self.now in
    subst (λ (p : ControlPoint). StepsAlone g.H.Hash32.digest y [] (then_seat y y.started y.text y.stmt c.take_course.new.running p)) (sym c.put_point.ensures)
    (takes_course g.H.Hash32.digest y c.requires.ready c.in-Some.stmt (search rules) c.requires.free c.take_course.new.running c.take_course.result c.take_course.ensures.stage)
