use Rattle.std.proofs.Common.{◌≡◌, ◌∙◌, refl, sym, inl, arith}
use Rattle.server_session.specs.Needs.{need_of}
use Rattle.server_session.specs.declared.need.NextVisit.TheVariants as need
use Rattle.server_engine.specs.IsMidway.{WentToEnd}
use Rattle.server_engine.proofs.Calls.{midway_near, seat_of_midway}
use Rattle.server_engine.proofs.Midways.{turned_none}
use Rattle.server_engine.proofs.Pairs.{index_there}
use Rattle.server_engine.proofs.one_thread.Core.visit_next.Goals as goal

pub index-requires : goal.index-requires
index-requires g c =
    let r = c.requires in
    let l = midway_near c.args.self.now c.args.session g.H.Hash32.digest r.h r.a r.goes.midway in
    let ok = c.args.self.now.sessions.ok in omega (arith, l, ok)

pub visit-requires-after_bounds : goal.visit-requires-after_bounds
visit-requires-after_bounds g c κs within =
    let r = c.requires in
    let y = c.index.result.now in
    let there = index_there c.args.self.now.sessions.items c.args.session y
    (midway_near c.args.self.now c.args.session g.H.Hash32.digest r.h r.a r.goes.midway) c.index.ensures in
    record {
      h = r.h;
      a = r.a;
      goes = r.goes;
      needs = seat_of_midway c.args.self.now c.args.session g.H.Hash32.digest r.h r.a r.goes.midway y there
          (λ u. need_of u ≡ need.Cell c.in-Cell.cell) (sym c.need.ensures ∙ c.in-Cell.is);
    }

pub visit_all-requires-after_bounds : goal.visit_all-requires-after_bounds
visit_all-requires-after_bounds g c κs within =
    let r = c.requires in
    let y = c.index.result.now in
    let there = index_there c.args.self.now.sessions.items c.args.session y
    (midway_near c.args.self.now c.args.session g.H.Hash32.digest r.h r.a r.goes.midway) c.index.ensures in
    record {
      h = r.h;
      a = r.a;
      goes = r.goes;
      needs = seat_of_midway c.args.self.now c.args.session g.H.Hash32.digest r.h r.a r.goes.midway y there
          (λ u. need_of u ≡ need.All) (sym c.need.ensures ∙ c.in-All.is);
    }

pub returns-in-Done-clause-next : goal.returns-in-Done-clause-next
returns-in-Done-clause-next g c =
    let r = c.requires in
    let y = c.index.result.now in
    let there = index_there c.args.self.now.sessions.items c.args.session y
    (midway_near c.args.self.now c.args.session g.H.Hash32.digest r.h r.a r.goes.midway) c.index.ensures in
    (refl, turned_none c.args.session c.args.self.now y there WentToEnd (inl refl, sym c.need.ensures ∙ c.in-Done.is))
