use Rattle.std.proofs.Common.{◌≡◌, None, refl, sym, subst, arith}
use Rattle.spec_protocol.proofs.Places.{set_else, set_here}
use Rattle.server_session.specs.ControlPoints.{IsBetween}
use Rattle.server_engine.specs.Standing.{Found}
use Rattle.server_engine.proofs.Calls.{ok_map, open_between, open_near}
use Rattle.server_engine.proofs.Pairs.{index_there}
use Rattle.server_engine.proofs.Unchanged.{same_set}
use Rattle.server_engine.proofs.one_thread.Core.write_answer.Goals as goal

pub index_mut-requires : goal.index_mut-requires
index_mut-requires g c =
    let l = open_near c.args.self.now c.args.session c.requires in
    let ok = c.args.self.now.sessions.ok in omega (arith, l, ok)

pub returns-clause-same : goal.returns-clause-same
returns-clause-same g c =
    let y = c.index_mut.result.now in
    let there = index_there c.args.self.now.sessions.items c.args.session y (open_near c.args.self.now c.args.session c.requires) c.index_mut.ensures.value in record {
      hasher = refl;
      cells = refl;
      sessions = same_set c.args.self.now.sessions.items c.args.session y c.write_answer.new.self there c.write_answer.ensures.same;
    }

pub returns-clause-others : goal.returns-clause-others
returns-clause-others g c = λ k ne. set_else c.args.self.now.sessions.items c.args.session k c.write_answer.new.self ne

pub returns-clause-open : goal.returns-clause-open
returns-clause-open g c =
    let y = c.index_mut.result.now in
    let there = index_there c.args.self.now.sessions.items c.args.session y (open_near c.args.self.now c.args.session c.requires) c.index_mut.ensures.value in
    subst (Found (λ u. IsBetween u.seat)) (sym (set_here c.args.self.now.sessions.items c.args.session c.write_answer.new.self y there))
    (subst IsBetween (sym c.write_answer.ensures.same.seat) (open_between c.args.self.now c.args.session c.requires y there))

pub returns-clause-ready : goal.returns-clause-ready
returns-clause-ready g c =
    let y = c.index_mut.result.now in
    let there = index_there c.args.self.now.sessions.items c.args.session y (open_near c.args.self.now c.args.session c.requires) c.index_mut.ensures.value in
    ok_map c.write_answer.result (λ written.
    subst (Found (λ u. IsBetween u.seat × (u.answer ≡ None))) (sym (set_here c.args.self.now.sessions.items c.args.session c.write_answer.new.self y there))
    (subst IsBetween (sym c.write_answer.ensures.same.seat) (open_between c.args.self.now c.args.session c.requires y there), written)) c.write_answer.ensures.answer
