use Rattle.std.proofs.Common.{◌≡◌, refl, inr, arith}
use Rattle.server_session.specs.Needs.{need_of}
use Rattle.server_session.specs.declared.need.NextVisit.TheVariants as need
use Rattle.server_engine.specs.IsMidway.{HasRoom}
use Rattle.server_engine.specs.Standing.{cells_seen}
use Rattle.server_engine.proofs.Calls.{midway_near, midway_at, cell_near}
use Rattle.server_engine.proofs.Holding.{seated}
use Rattle.server_engine.proofs.Midways.{among_cell, visit_goes_on, visit_less}
use Rattle.server_engine.proofs.Pairs.{index_there}
use Rattle.server_engine.proofs.one_thread.Core.visit.Goals as goal

pub index_mut-requires : goal.index_mut-requires
index_mut-requires g c =
    let r = c.requires in
    let l = midway_near c.args.self.now c.args.session g.H.Hash32.digest r.h r.a r.goes.midway in
    let ok = c.args.self.now.sessions.ok in omega (arith, l, ok)

pub index_mut-requires-2 : goal.index_mut-requires-2
index_mut-requires-2 g c =
    let r = c.requires in
    let l = cell_near c.args.self.now c.args.session g.H.Hash32.digest r.h r.a r.goes.midway c.args.cell r.needs in
    let ok = c.args.self.now.cells.ok in omega (arith, l, ok)

pub visit-requires-after_bounds : goal.visit-requires-after_bounds
visit-requires-after_bounds g c κs within =
    let r = c.requires in
    let y = c.index_mut.result.now in
    let x = c.index_mut-2.result.now in
    let there = index_there c.args.self.now.sessions.items c.args.session y
    (midway_near c.args.self.now c.args.session g.H.Hash32.digest r.h r.a r.goes.midway) c.index_mut.ensures.value in
    let here = index_there c.args.self.now.cells.items c.args.cell x
    (cell_near c.args.self.now c.args.session g.H.Hash32.digest r.h r.a r.goes.midway c.args.cell r.needs) c.index_mut-2.ensures.value in
    let needs = midway_at c.args.self.now c.args.session g.H.Hash32.digest r.h r.a r.goes.midway
    (λ u. need_of u.seat ≡ need.Cell c.args.cell) r.needs y there in
    among_cell g.H.Hash32.digest r.h r.a c.args.session c.args.self.now r.goes.midway y there x c.args.cell needs here

pub returns-clause-midway : goal.returns-clause-midway
returns-clause-midway g c = λ h a k.
    let r = c.requires in
    let m = k.midway in
    let y = c.index_mut.result.now in
    let x = c.index_mut-2.result.now in
    let there = index_there c.args.self.now.sessions.items c.args.session y
    (midway_near c.args.self.now c.args.session g.H.Hash32.digest r.h r.a r.goes.midway) c.index_mut.ensures.value in
    let here = index_there c.args.self.now.cells.items c.args.cell x
    (cell_near c.args.self.now c.args.session g.H.Hash32.digest r.h r.a r.goes.midway c.args.cell r.needs) c.index_mut-2.ensures.value in
    let needs = midway_at c.args.self.now c.args.session g.H.Hash32.digest r.h r.a r.goes.midway
    (λ u. need_of u.seat ≡ need.Cell c.args.cell) r.needs y there in
    let room = midway_at c.args.self.now c.args.session g.H.Hash32.digest h a m
    (λ u. HasRoom a.size (cells_seen c.args.self.now.cells.items) u.seat) k.room y there in
    visit_goes_on g.H.Hash32.digest h a c.args.session c.args.self.now m y there room _ refl c.args.cell needs x c.visit.new.cell here
    c.visit.new.seat c.visit.ensures.visits c.visit.ensures.stays refl refl

pub returns-clause-turned : goal.returns-clause-turned
returns-clause-turned g c =
    let r = c.requires in record {
      y = c.index_mut.result.now;
      z = seated c.index_mut.result.now c.visit.new.seat;
      there = index_there c.args.self.now.sessions.items c.args.session c.index_mut.result.now
          (midway_near c.args.self.now c.args.session g.H.Hash32.digest r.h r.a r.goes.midway) c.index_mut.ensures.value;
      are = refl;
      went = inr c.visit.ensures.stays;
    }

pub returns-clause-less : goal.returns-clause-less
returns-clause-less g c =
    let r = c.requires in
    let y = c.index_mut.result.now in
    let x = c.index_mut-2.result.now in
    let there = index_there c.args.self.now.sessions.items c.args.session y
    (midway_near c.args.self.now c.args.session g.H.Hash32.digest r.h r.a r.goes.midway) c.index_mut.ensures.value in
    let here = index_there c.args.self.now.cells.items c.args.cell x
    (cell_near c.args.self.now c.args.session g.H.Hash32.digest r.h r.a r.goes.midway c.args.cell r.needs) c.index_mut-2.ensures.value in
    let needs = midway_at c.args.self.now c.args.session g.H.Hash32.digest r.h r.a r.goes.midway
    (λ u. need_of u.seat ≡ need.Cell c.args.cell) r.needs y there in
    let room = midway_at c.args.self.now c.args.session g.H.Hash32.digest r.h r.a r.goes.midway
    (λ u. HasRoom r.a.size (cells_seen c.args.self.now.cells.items) u.seat) r.goes.room y there in
    visit_less g.H.Hash32.digest r.h r.a c.args.session c.args.self.now r.goes.midway y there room c.args.cell needs x
    c.visit.new.cell here c.visit.new.seat c.visit.ensures.visits c.visit.ensures.comes_on
