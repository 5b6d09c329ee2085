use Rattle.std.proofs.Common.{◌≡◌, take}
use Rattle.spec_model.specs.InTheWay.{barrier}
use Rattle.store_locks.specs.Index.{picked}
use Rattle.store_locks.proofs.conflict.barrier.Given as goal

abbrev pub invariant-loop-place : goal.invariant-loop-place
invariant-loop-place l = l.least ≡ barrier (picked l.holds (take l.place-index l.places)) l.tx l.request
