use Rattle.std.proofs.Common.{refl, arith}
use Rattle.server_engine.proofs.Calls.{open_near, open_between}
use Rattle.server_engine.proofs.Pairs.{index_there}
use Rattle.server_engine.proofs.Turns.{finish_goes, finish_ends}
use Rattle.server_engine.proofs.one_thread.Core.finish.Goals as goal

pub index_mut-requires : goal.index_mut-requires
index_mut-requires g c =
    let l = open_near c.args.self.now c.args.session c.requires.open in
    let ok = c.args.self.now.sessions.ok in omega (arith, l, ok)

pub finish-requires-after_bounds : goal.finish-requires-after_bounds
finish-requires-after_bounds g c κs within =
    let y = c.index_mut.result.now in
    let there = index_there c.args.self.now.sessions.items c.args.session y
    (open_near c.args.self.now c.args.session c.requires.open) c.index_mut.ensures.value in
    open_between c.args.self.now c.args.session c.requires.open y there

pub returns-clause-midway : goal.returns-clause-midway
returns-clause-midway g c = λ h a m.
    let y = c.index_mut.result.now in
    let there = index_there c.args.self.now.sessions.items c.args.session y
    (open_near c.args.self.now c.args.session c.requires.open) c.index_mut.ensures.value in
    let f = c.finish.ensures in
    finish_goes g.H.Hash32.digest h a c.args.session c.args.self.now m y there
    (open_between c.args.self.now c.args.session c.requires.open y there)
    c.finish.new.self f.steps f.end f.started f.name f.shown f.apart f.last f.images _ refl refl refl

pub returns-clause-turned : goal.returns-clause-turned
returns-clause-turned g c =
    let y = c.index_mut.result.now in
    let there = index_there c.args.self.now.sessions.items c.args.session y
    (open_near c.args.self.now c.args.session c.requires.open) c.index_mut.ensures.value in
    let s = c.requires.standing in record {
      y = y;
      z = c.finish.new.self;
      there = there;
      are = refl;
      went = finish_ends g.H.Hash32.digest s.h s.a c.args.session c.args.self.now s.stands y there
          (open_between c.args.self.now c.args.session c.requires.open y there) c.finish.new.self.seat c.finish.ensures.end;
    }
