use Rattle.std.proofs.Common.{◌≡◌, drop}
use Rattle.spec_model.specs.InTheWay.{first_conflict}
use Rattle.store_locks.proofs.list.LockList.admit.Given as goal

abbrev pub invariant-loop-request : goal.invariant-loop-request
invariant-loop-request l = first_conflict l.self l.tx (drop l.request-index l.requests) ≡ first_conflict l.self l.tx l.requests
