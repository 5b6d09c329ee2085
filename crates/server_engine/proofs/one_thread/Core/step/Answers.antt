use Rattle.server_session.specs.ControlPoints.{IsBetween}
use Rattle.server_engine.specs.CoreInput.{with_line}
use Rattle.server_engine.specs.IsMidway.{IsBetweenThen, TookUp, WentToEnd}
use Rattle.server_engine.proofs.Calls.{answer_ready, name_there, open_near, others_on, turned_found, turned_others, when_err}
use Rattle.server_engine.proofs.Unchanged.{same_stands, still_open, still_others, still_ready, unchanged_same}
use Rattle.server_engine.proofs.one_thread.Core.step.Goals as goal

pub close_full-requires-after_bounds : goal.close_full-requires-after_bounds
close_full-requires-after_bounds g c κs within =
    let s = c.requires.standing in record {
      h = s.h;
      a = s.a;
      stands = same_stands c.args.self.now c.write_answer.new.self c.write_answer.ensures.same g.H.Hash32.digest s.h s.a s.stands;
    }

pub start-requires-clause-standing : goal.start-requires-clause-standing
start-requires-clause-standing g c κs within =
    let s = c.requires.standing in record {
      h = s.h;
      a = s.a;
      roomy = c.in_ok-close_full.ensures.roomy s.h s.a
          (same_stands c.args.self.now c.write_answer.new.self c.write_answer.ensures.same g.H.Hash32.digest s.h s.a s.stands);
      phase = s.phase;
    }

pub start-requires-clause-ready : goal.start-requires-clause-ready
start-requires-clause-ready g c κs within = still_ready c.write_answer.new.self c.close_full.new.self c.args.session
    c.close_full.ensures.sessions c.in_ok-write_answer.ensures.ready

pub visit_needed-requires-after_bounds : goal.visit_needed-requires-after_bounds
visit_needed-requires-after_bounds g c κs within =
    let s = c.requires.standing in
    let m = same_stands c.args.self.now c.write_answer.new.self c.write_answer.ensures.same g.H.Hash32.digest s.h s.a s.stands in
    let n = name_there g.H.Hash32.digest s.h s.a c.args.self.now s.stands c.args.session
    (open_near c.args.self.now c.args.session c.requires.open) in record {
      h = s.h;
      a = with_line n.0 c.args.text c.args.now s.a;
      goes = c.start.ensures.midway s.h s.a n.0 (c.in_ok-close_full.ensures.roomy s.h s.a m) s.phase n.1;
    }

pub answer-requires-after_bounds : goal.answer-requires-after_bounds
answer-requires-after_bounds g c κs within =
    let s = c.requires.standing in
    let m = same_stands c.args.self.now c.write_answer.new.self c.write_answer.ensures.same g.H.Hash32.digest s.h s.a s.stands in
    let n = name_there g.H.Hash32.digest s.h s.a c.args.self.now s.stands c.args.session
    (open_near c.args.self.now c.args.session c.requires.open) in
    let p = c.start.ensures.midway s.h s.a n.0 (c.in_ok-close_full.ensures.roomy s.h s.a m) s.phase n.1 in
    let q = c.visit_needed.ensures.midway s.h (with_line n.0 c.args.text c.args.now s.a) p in
    let r = answer_ready g.H.Hash32.digest s.h (with_line n.0 c.args.text c.args.now s.a) c.args.session c.close_full.new.self
    c.start.new.self c.visit_needed.new.self q.midway c.start.ensures.turned c.visit_needed.ensures.turned in record {
      h = s.h;
      a = with_line n.0 c.args.text c.args.now s.a;
      goes = q;
      answers = r.0;
      done = r.1;
    }

pub returns-clause-stands : goal.returns-clause-stands
returns-clause-stands g c = λ h a name m phase named.
    let k = same_stands c.args.self.now c.write_answer.new.self c.write_answer.ensures.same g.H.Hash32.digest h a m in
    let p = c.start.ensures.midway h a name (c.in_ok-close_full.ensures.roomy h a k) phase named in
    c.answer.ensures.stands h (with_line name c.args.text c.args.now a) (c.visit_needed.ensures.midway h (with_line name c.args.text c.args.now a) p)

pub returns-clause-open : goal.returns-clause-open
returns-clause-open g c = turned_found c.visit_needed.new.self c.args.session c.answer.new.self IsBetweenThen
    (λ y. IsBetween y.seat) (λ y z p. p) c.answer.ensures.turned

pub returns-clause-others : goal.returns-clause-others
returns-clause-others g c = others_on c.args.session c.args.self.now c.visit_needed.new.self c.answer.new.self
    (others_on c.args.session c.args.self.now c.start.new.self c.visit_needed.new.self
    (others_on c.args.session c.args.self.now c.close_full.new.self c.start.new.self
    (others_on c.args.session c.args.self.now c.write_answer.new.self c.close_full.new.self c.write_answer.ensures.others
    (still_others c.write_answer.new.self c.close_full.new.self c.close_full.ensures.sessions c.args.session))
    (turned_others c.close_full.new.self c.args.session c.start.new.self TookUp c.start.ensures.turned))
    (turned_others c.start.new.self c.args.session c.visit_needed.new.self WentToEnd c.visit_needed.ensures.turned))
    (turned_others c.visit_needed.new.self c.args.session c.answer.new.self IsBetweenThen c.answer.ensures.turned)

pub returns-in_err-write_answer-clause-err : goal.returns-in_err-write_answer-clause-err
returns-in_err-write_answer-clause-err g c = when_err c.from_residual.result c.write_answer.ensures.same

pub returns-in_err-write_answer-clause-stays : goal.returns-in_err-write_answer-clause-stays
returns-in_err-write_answer-clause-stays g c = λ h a m. when_err c.from_residual.result
    (same_stands c.args.self.now c.write_answer.new.self c.write_answer.ensures.same g.H.Hash32.digest h a m)

pub returns-in_err-close_full-clause-err : goal.returns-in_err-close_full-clause-err
returns-in_err-close_full-clause-err g c = when_err c.from_residual-in_err-close_full.result
    (unchanged_same c.write_answer.new.self c.close_full.new.self c.args.self.now c.write_answer.ensures.same c.in_err-close_full.ensures.err)

pub returns-in_err-close_full-clause-stays : goal.returns-in_err-close_full-clause-stays
returns-in_err-close_full-clause-stays g c = λ h a m. when_err c.from_residual-in_err-close_full.result
    (same_stands c.args.self.now c.close_full.new.self
    (unchanged_same c.write_answer.new.self c.close_full.new.self c.args.self.now c.write_answer.ensures.same c.in_err-close_full.ensures.err)
    g.H.Hash32.digest h a m)

pub returns-in_err-close_full-clause-open : goal.returns-in_err-close_full-clause-open
returns-in_err-close_full-clause-open g c = still_open c.write_answer.new.self c.close_full.new.self c.args.session
    c.in_err-close_full.ensures.err.sessions c.write_answer.ensures.open

pub returns-in_err-close_full-clause-others : goal.returns-in_err-close_full-clause-others
returns-in_err-close_full-clause-others g c = others_on c.args.session c.args.self.now c.write_answer.new.self c.close_full.new.self c.write_answer.ensures.others
    (still_others c.write_answer.new.self c.close_full.new.self c.close_full.ensures.sessions c.args.session)
