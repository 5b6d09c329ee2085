use Rattle.std.proofs.Common.{refl, sym, subst, arith}
use Rattle.spec_protocol.specs.Cells.{ledger_at}
use Rattle.server_visits.specs.Full.{ClosesFull}
use Rattle.server_session.specs.KeptCell.{Keeps}
use Rattle.server_engine.proofs.Calls.{err_map, ok_map}
use Rattle.server_engine.proofs.Midways.{close_roomy, keeps_hash, ledger_near}
use Rattle.server_engine.proofs.Pairs.{index_there}
use Rattle.server_engine.proofs.Unchanged.{lent_back}
use Rattle.server_engine.proofs.one_thread.Core.close_full.Goals as goal

pub index_mut-requires : goal.index_mut-requires
index_mut-requires g c =
    let r = c.requires in
    let l = ledger_near g.H.Hash32.digest r.h r.a c.args.self.now r.stands.holds in
    let ok = c.args.self.now.cells.ok in omega (arith, l, ok)

pub close_full-requires-after_bounds : goal.close_full-requires-after_bounds
close_full-requires-after_bounds g c κs within =
    let r = c.requires in
    let x = c.index_mut.result.now in
    let here = index_there c.args.self.now.cells.items ledger_at x
    (ledger_near g.H.Hash32.digest r.h r.a c.args.self.now r.stands.holds) c.index_mut.ensures.value in
    subst (λ k. Keeps (g.H.Hash32.digest k) x) (sym r.stands.hasher) (keeps_hash g.H.Hash32.digest r.h r.a c.args.self.now r.stands.holds x here)

pub returns-clause-roomy : goal.returns-clause-roomy
returns-clause-roomy g c = λ h a m.
    let x = c.index_mut.result.now in
    let then_x = c.close_full.new.self in
    let here = index_there c.args.self.now.cells.items ledger_at x
    (ledger_near g.H.Hash32.digest h a c.args.self.now m.holds) c.index_mut.ensures.value in
    ok_map c.close_full.result (λ closes. close_roomy g.H.Hash32.digest h a c.args.self.now m x here then_x
    (subst (λ k. ClosesFull (g.H.Hash32.digest k) x.cell then_x.cell) m.hasher closes)
    (subst (λ k. Keeps (g.H.Hash32.digest k) then_x) m.hasher c.close_full.ensures.keeps) _ refl refl refl) c.close_full.ensures.closes

pub returns-clause-err : goal.returns-clause-err
returns-clause-err g c =
    let r = c.requires in
    let there = index_there c.args.self.now.cells.items ledger_at c.index_mut.result.now
    (ledger_near g.H.Hash32.digest r.h r.a c.args.self.now r.stands.holds) c.index_mut.ensures.value in
    err_map c.close_full.result (λ same. record {
      hasher = refl;
      cells = lent_back c.args.self.now.cells.items ledger_at c.index_mut.result.now c.close_full.new.self there same;
      sessions = refl;
    }) c.close_full.ensures.err
