use Rattle.std.proofs.Common.{not}
use Rattle.store_locks.specs.Asked.{asked}
use Rattle.spec_model.specs.Holds.{holds_any}
use Rattle.spec_model.specs.InTheWay.{first_conflict}
use Rattle.store_locks.proofs.Steps.{kept_refusal, not_refused}
use Rattle.store_locks.proofs.list.LockList.ask.Goals as goal

pub returns-in_err-admit-clause-answer : goal.returns-in_err-admit-clause-answer
unfolding asked
returns-in_err-admit-clause-answer c =
    kept_refusal (first_conflict c.args.self.now c.args.tx c.args.requests.now) tt (not (holds_any c.args.self.now c.args.tx)) c.from_residual.result c.in_err-admit.field-0.0
    c.from_residual.ensures.1 c.in_err-admit.ensures

pub returns-clause-answer : goal.returns-clause-answer
unfolding asked
returns-clause-answer c =
    rw (c.holds_any-first.ensures) (not_refused (first_conflict c.args.self.now c.args.tx c.args.requests.now) tt (not (holds_any c.args.self.now c.args.tx)) c.in_ok-admit.ensures)
