use Rattle.std.proofs.Common.{inl, refl}
use Rattle.server_engine.specs.IsMidway.{WentOn, WentToEnd}
use Rattle.server_engine.proofs.Calls.{when_true, when_false}
use Rattle.server_engine.proofs.Midways.{turned_none, turned_on, went_further, work_falls}
use Rattle.server_engine.proofs.one_thread.Core.visit_needed.Goals as goal

pub loop-alloc-init : goal.loop-alloc-init
loop-alloc-init g c =
    let r = c.requires.goes.midway in
    (λ h a k. k, turned_none c.args.session c.args.self.now r.y r.there WentOn (inl refl))

pub visit_next-requires-after_bounds : goal.visit_next-requires-after_bounds
visit_next-requires-after_bounds g c κs within =
    let r = c.requires in record { h = r.h; a = r.a; goes = c.loop-alloc.invariant.0 r.h r.a r.goes }

pub loop-alloc-preserved : goal.loop-alloc-preserved
loop-alloc-preserved g c =
    let next = when_true _ _ c.visit_next.result c.loop-alloc-test.true c.visit_next.ensures.next in (
      λ h a k. c.visit_next.ensures.midway h a (c.loop-alloc.invariant.0 h a k),
      turned_on c.args.session c.args.self.now c.loop-alloc.self c.visit_next.new.self WentOn WentOn WentOn
          (λ x y z p q. went_further x y z p q) c.loop-alloc.invariant.1 next.0,
    )

pub loop-alloc-smaller : goal.loop-alloc-smaller
loop-alloc-smaller g c =
    let r = c.requires in
    let k = c.loop-alloc.invariant.0 r.h r.a r.goes in
    let n = c.visit_next.ensures.midway r.h r.a k in
    let next = when_true _ _ c.visit_next.result c.loop-alloc-test.true c.visit_next.ensures.next in
    work_falls g.H.Hash32.digest r.h r.a c.args.session c.loop-alloc.self c.visit_next.new.self k.midway n next.1

pub returns-clause-midway : goal.returns-clause-midway
returns-clause-midway g c = λ h a k. c.visit_next.ensures.midway h a (c.loop-alloc.invariant.0 h a k)

pub returns-clause-turned : goal.returns-clause-turned
returns-clause-turned g c =
    let next = when_false _ _ c.visit_next.result c.loop-alloc-test.false c.visit_next.ensures.next in
    turned_on c.args.session c.args.self.now c.loop-alloc.self c.visit_next.new.self WentOn WentToEnd WentToEnd
    (λ x y z p q. (went_further x y z p q.0, q.1)) c.loop-alloc.invariant.1 next.1
