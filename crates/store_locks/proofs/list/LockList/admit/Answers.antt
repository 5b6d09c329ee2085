use Rattle.std.proofs.Common.{◌∙◌, sym, refl}
use Rattle.store_locks.proofs.Steps.{refused_more, admitted_more, conflict_all}
use Rattle.store_locks.proofs.list.LockList.admit.Goals as goal

pub returns-in-Some : goal.returns-in-Some
returns-in-Some c = λ other.
    rw (refused_more c.args.self.now c.args.tx c.args.requests.now c.loop-request.request-index c.request-item.result (c.in-Some.holder, c.in-Some.mode) c.in_ok-item.item
    c.loop-request-test.true c.request-item.is c.loop-request.invariant (sym c.in-Some.ensures) c.in_ok-item.ensures) refl

pub loop-request-preserved : goal.loop-request-preserved
loop-request-preserved c =
    admitted_more c.args.self.now c.args.tx c.args.requests.now c.loop-request.request-index c.request-item.result
    c.loop-request-test.true c.request-item.is c.loop-request.invariant (sym c.in_default.ensures)

pub returns : goal.returns
returns c = rw (sym c.loop-request.invariant ∙ conflict_all c.args.self.now c.args.tx c.args.requests.now c.loop-request.request-index c.loop-request-test.false) refl
