use Rattle.std.proofs.Common.{◌≡◌, refl, arith}
use Rattle.server_session.specs.Needs.{need_of}
use Rattle.server_session.specs.ControlPoints.{IsAnswering}
use Rattle.server_session.specs.declared.need.NextVisit.TheVariants.{Done}
use Rattle.server_engine.specs.Standing.{cells_seen}
use Rattle.server_engine.proofs.Calls.{midway_near, midway_at}
use Rattle.server_engine.proofs.Midways.{room_within}
use Rattle.server_engine.proofs.Pairs.{index_there}
use Rattle.server_engine.proofs.Turns.{answer_stands, its_written}
use Rattle.server_engine.proofs.one_thread.Core.answer.Goals as goal

pub index_mut-requires : goal.index_mut-requires
index_mut-requires g c =
    let r = c.requires in
    let l = midway_near c.args.self.now c.args.session g.H.Hash32.digest r.h r.a r.goes.midway in
    let ok = c.args.self.now.sessions.ok in omega (arith, l, ok)

pub answer-requires-clause-answers : goal.answer-requires-clause-answers
answer-requires-clause-answers g c κs within =
    let r = c.requires in
    let y = c.index_mut.result.now in
    let there = index_there c.args.self.now.sessions.items c.args.session y
    (midway_near c.args.self.now c.args.session g.H.Hash32.digest r.h r.a r.goes.midway) c.index_mut.ensures.value in
    midway_at c.args.self.now c.args.session g.H.Hash32.digest r.h r.a r.goes.midway (λ u. IsAnswering u.seat) r.answers y there

pub answer-requires-clause-done : goal.answer-requires-clause-done
answer-requires-clause-done g c κs within =
    let r = c.requires in
    let y = c.index_mut.result.now in
    let there = index_there c.args.self.now.sessions.items c.args.session y
    (midway_near c.args.self.now c.args.session g.H.Hash32.digest r.h r.a r.goes.midway) c.index_mut.ensures.value in
    midway_at c.args.self.now c.args.session g.H.Hash32.digest r.h r.a r.goes.midway (λ u. need_of u.seat ≡ Done) r.done y there

pub answer-requires-clause-written : goal.answer-requires-clause-written
answer-requires-clause-written g c κs within =
    let r = c.requires in
    let y = c.index_mut.result.now in
    let there = index_there c.args.self.now.sessions.items c.args.session y
    (midway_near c.args.self.now c.args.session g.H.Hash32.digest r.h r.a r.goes.midway) c.index_mut.ensures.value in
    its_written g.H.Hash32.digest r.h r.a c.args.session c.args.self.now r.goes.midway y there
    (midway_at c.args.self.now c.args.session g.H.Hash32.digest r.h r.a r.goes.midway (λ u. IsAnswering u.seat) r.answers y there)

pub returns-clause-stands : goal.returns-clause-stands
returns-clause-stands g c = λ h a k.
    let r = c.requires in
    let m = k.midway in
    let y = c.index_mut.result.now in
    let there = index_there c.args.self.now.sessions.items c.args.session y
    (midway_near c.args.self.now c.args.session g.H.Hash32.digest r.h r.a r.goes.midway) c.index_mut.ensures.value in
    answer_stands g.H.Hash32.digest h a c.args.session c.args.self.now m y there
    (room_within g.H.Hash32.digest h a c.args.session a.size (cells_seen c.args.self.now.cells.items) m.y.seat k.room)
    (midway_at c.args.self.now c.args.session g.H.Hash32.digest r.h r.a r.goes.midway (λ u. IsAnswering u.seat) r.answers y there)
    c.answer.new.self c.answer.ensures _ refl refl refl

pub returns-clause-turned : goal.returns-clause-turned
returns-clause-turned g c =
    let r = c.requires in record {
      y = c.index_mut.result.now;
      z = c.answer.new.self;
      there = index_there c.args.self.now.sessions.items c.args.session c.index_mut.result.now
          (midway_near c.args.self.now c.args.session g.H.Hash32.digest r.h r.a r.goes.midway) c.index_mut.ensures.value;
      are = refl;
      went = c.answer.ensures.between;
    }
