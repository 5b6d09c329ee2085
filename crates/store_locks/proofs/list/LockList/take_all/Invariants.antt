use Rattle.std.proofs.Common.{◌≡◌, ◌≤◌, take, drop, length}
use Rattle.spec_model.specs.Holds.{holds_after}
use Rattle.store_locks.proofs.list.LockList.take_all.Given as goal

abbrev pub invariant-loop-request : goal.invariant-loop-request
invariant-loop-request l = record {
  after : holds_after l.self l.tx (drop l.request-index l.requests) ≡ holds_after l.fn.self l.tx l.requests;
  grows : take (length l.fn.self) l.self ≡ l.fn.self;
  longer : length l.fn.self ≤ length l.self;
}
