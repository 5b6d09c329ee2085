use Rattle.std.proofs.Common.{◌≡◌, ◌∙◌, refl, sym, ap, subst, inl, inr, arith}
use Rattle.server_session.specs.Needs.{need_of}
use Rattle.server_session.specs.Steps.{AmongAll, image_in, items_in}
use Rattle.server_session.specs.declared.need.NextVisit.TheVariants as need
use Rattle.spec_protocol.specs.Cells.{ledger_at}
use Rattle.server_engine.specs.IsMidway.{HasRoom}
use Rattle.server_engine.specs.Standing.{cells_seen}
use Rattle.server_engine.specs.Written.{KeepsSessionImage}
use Rattle.server_engine.proofs.Calls.{midway_near, midway_at, items_there}
use Rattle.server_engine.proofs.Midways.{among_cells, image_goes_on, image_less, ledger_near}
use Rattle.server_engine.proofs.Pairs.{index_there}
use Rattle.server_engine.proofs.one_thread.Core.visit_all.Goals as goal

pub index-requires : goal.index-requires
index-requires g c =
    let r = c.requires in
    let l = ledger_near g.H.Hash32.digest r.h r.a c.args.self.now r.goes.midway.holds in
    let ok = c.args.self.now.cells.ok in omega (arith, l, ok)

pub index_mut-requires : goal.index_mut-requires
index_mut-requires g c =
    let r = c.requires in
    let l = midway_near c.args.self.now c.args.session g.H.Hash32.digest r.h r.a r.goes.midway in
    let ok = c.args.self.now.sessions.ok in omega (arith, l, ok)

pub keep_image-requires-clause-among : goal.keep_image-requires-clause-among
keep_image-requires-clause-among g c κs within =
    let r = c.requires in
    let y = c.index_mut.result.now in
    let there = index_there c.args.self.now.sessions.items c.args.session y
    (midway_near c.args.self.now c.args.session g.H.Hash32.digest r.h r.a r.goes.midway) c.index_mut.ensures.value in
    let needs = midway_at c.args.self.now c.args.session g.H.Hash32.digest r.h r.a r.goes.midway
    (λ u. need_of u.seat ≡ need.All) r.needs y there in
    subst (λ cs. AmongAll g.H.Hash32.digest y.seat cs) (sym c.deref.ensures.value)
    (among_cells g.H.Hash32.digest r.h r.a c.args.session c.args.self.now r.goes.midway y there needs)

pub keep_image-requires-clause-items : goal.keep_image-requires-clause-items
keep_image-requires-clause-items g c κs within =
    let r = c.requires in
    c.item_count-items.ensures ∙ items_there c.args.self.now.cells.items c.index.result.now
    (index_there c.args.self.now.cells.items ledger_at c.index.result.now
    (ledger_near g.H.Hash32.digest r.h r.a c.args.self.now r.goes.midway.holds) c.index.ensures)
    ∙ ap (λ cs. items_in cs) (sym c.deref.ensures.value)

pub returns-clause-midway : goal.returns-clause-midway
returns-clause-midway g c = λ h a k.
    let r = c.requires in
    let m = k.midway in
    let y = c.index_mut.result.now in
    let there = index_there c.args.self.now.sessions.items c.args.session y
    (midway_near c.args.self.now c.args.session g.H.Hash32.digest r.h r.a r.goes.midway) c.index_mut.ensures.value in
    let needs = midway_at c.args.self.now c.args.session g.H.Hash32.digest r.h r.a r.goes.midway
    (λ u. need_of u.seat ≡ need.All) r.needs y there in
    let w = subst (λ cs. KeepsSessionImage g.H.Hash32.digest cs y c.keep_image.new.self) c.deref.ensures.value c.keep_image.ensures.kept in
    let room = midway_at c.args.self.now c.args.session g.H.Hash32.digest h a m
    (λ u. HasRoom a.size (cells_seen c.args.self.now.cells.items) u.seat) k.room y there in
    image_goes_on g.H.Hash32.digest h a c.args.session c.args.self.now m y there room _ refl needs c.keep_image.new.self
    (image_in (items_in c.args.self.now.cells.items) w.image) w.keeps w.stays refl refl w.entries w.answer w.last w.images

pub returns-clause-turned : goal.returns-clause-turned
returns-clause-turned g c =
    let r = c.requires in record {
      y = c.index_mut.result.now;
      z = c.keep_image.new.self;
      there = index_there c.args.self.now.sessions.items c.args.session c.index_mut.result.now
          (midway_near c.args.self.now c.args.session g.H.Hash32.digest r.h r.a r.goes.midway) c.index_mut.ensures.value;
      are = refl;
      went = inr c.keep_image.ensures.kept.stays;
    }

pub returns-clause-less : goal.returns-clause-less
returns-clause-less g c =
    let r = c.requires in
    let y = c.index_mut.result.now in
    let there = index_there c.args.self.now.sessions.items c.args.session y
    (midway_near c.args.self.now c.args.session g.H.Hash32.digest r.h r.a r.goes.midway) c.index_mut.ensures.value in
    let needs = midway_at c.args.self.now c.args.session g.H.Hash32.digest r.h r.a r.goes.midway
    (λ u. need_of u.seat ≡ need.All) r.needs y there in
    inl (image_less g.H.Hash32.digest r.h r.a c.args.session c.args.self.now r.goes.midway y there c.keep_image.new.self
    c.keep_image.ensures.comes_on)
