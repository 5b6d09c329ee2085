use Rattle.std.proofs.Common.{refl}
use Rattle.server_session.specs.ControlPoints.{IsOver}
use Rattle.server_engine.specs.CoreInput.{at_end}
use Rattle.server_engine.specs.IsMidway.{IsAtSessionEnd, IsOverThen, WentToEnd}
use Rattle.server_engine.proofs.Calls.{leave_ready, others_on, turned_found, turned_others}
use Rattle.server_engine.proofs.one_thread.Core.end_session.Goals as goal

pub visit_needed-requires-after_bounds : goal.visit_needed-requires-after_bounds
visit_needed-requires-after_bounds g c κs within =
    let s = c.requires.standing in record { h = s.h; a = at_end s.a; goes = c.finish.ensures.midway s.h s.a s.stands }

pub leave-requires-after_bounds : goal.leave-requires-after_bounds
leave-requires-after_bounds g c κs within =
    let s = c.requires.standing in
    let q = c.visit_needed.ensures.midway s.h (at_end s.a) (c.finish.ensures.midway s.h s.a s.stands) in record {
      h = s.h;
      a = at_end s.a;
      goes = q;
      ends = leave_ready g.H.Hash32.digest s.h (at_end s.a) c.args.session c.args.self.now c.finish.new.self
          c.visit_needed.new.self q.midway c.finish.ensures.turned c.visit_needed.ensures.turned;
    }

pub returns-clause-stands : goal.returns-clause-stands
returns-clause-stands g c = λ h a m.
    c.leave.ensures.stands h (at_end a) (c.visit_needed.ensures.midway h (at_end a) (c.finish.ensures.midway h a m)) refl

pub returns-clause-ended : goal.returns-clause-ended
returns-clause-ended g c = turned_found c.visit_needed.new.self c.args.session c.leave.new.self IsOverThen
    (λ y. IsOver y.seat) (λ y z p. p) c.leave.ensures.turned

pub returns-clause-others : goal.returns-clause-others
returns-clause-others g c = others_on c.args.session c.args.self.now c.visit_needed.new.self c.leave.new.self
    (others_on c.args.session c.args.self.now c.finish.new.self c.visit_needed.new.self
    (turned_others c.args.self.now c.args.session c.finish.new.self IsAtSessionEnd c.finish.ensures.turned)
    (turned_others c.finish.new.self c.args.session c.visit_needed.new.self WentToEnd c.visit_needed.ensures.turned))
    (turned_others c.visit_needed.new.self c.args.session c.leave.new.self IsOverThen c.leave.ensures.turned)
