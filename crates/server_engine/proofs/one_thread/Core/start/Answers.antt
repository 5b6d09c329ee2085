use Rattle.std.proofs.Common.{refl, arith}
use Rattle.server_engine.proofs.Calls.{ready_is, ready_near}
use Rattle.server_engine.proofs.Holding.{seated}
use Rattle.server_engine.proofs.Pairs.{index_there}
use Rattle.server_engine.proofs.Turns.{start_goes}
use Rattle.server_engine.proofs.one_thread.Core.start.Goals as goal

pub index_mut-requires : goal.index_mut-requires
index_mut-requires g c =
    let l = ready_near c.args.self.now c.args.session c.requires.ready in
    let ok = c.args.self.now.sessions.ok in omega (arith, l, ok)

pub start-requires-clause-between : goal.start-requires-clause-between
start-requires-clause-between g c κs within =
    let y = c.index_mut.result.now in
    let there = index_there c.args.self.now.sessions.items c.args.session y
    (ready_near c.args.self.now c.args.session c.requires.ready) c.index_mut.ensures.value in
    (ready_is c.args.self.now c.args.session c.requires.ready y there).0

pub returns-clause-midway : goal.returns-clause-midway
returns-clause-midway g c = λ h a name k phase named.
    let m = k.stands in
    let y = c.index_mut.result.now in
    let there = index_there c.args.self.now.sessions.items c.args.session y
    (ready_near c.args.self.now c.args.session c.requires.ready) c.index_mut.ensures.value in
    let ready = ready_is c.args.self.now c.args.session c.requires.ready y there in
    start_goes g.H.Hash32.digest h a c.args.session c.args.self.now m y there k.below ready.1 ready.0 phase name c.args.text c.args.now named
    c.start.new.self c.start.ensures.starts c.start.ensures.started c.start.ensures.name c.start.ensures.inside
    _ refl refl refl

pub returns-clause-turned : goal.returns-clause-turned
returns-clause-turned g c = record {
  y = c.index_mut.result.now;
  z = seated c.index_mut.result.now c.start.new.self;
  there = index_there c.args.self.now.sessions.items c.args.session c.index_mut.result.now
      (ready_near c.args.self.now c.args.session c.requires.ready) c.index_mut.ensures.value;
  are = refl;
  went = c.start.ensures.inside;
}
