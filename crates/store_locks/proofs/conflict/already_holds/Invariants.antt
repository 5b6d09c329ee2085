use Rattle.std.proofs.Common.{◌≡◌, false, take}
use Rattle.std.specs.List.{list_any}
use Rattle.spec_model.specs.Holds.{answers}
use Rattle.store_locks.specs.Index.{picked}
use Rattle.store_locks.proofs.conflict.already_holds.Given as goal

abbrev pub invariant-loop-place : goal.invariant-loop-place
invariant-loop-place l = list_any (answers l.tx l.request) (picked l.holds (take l.place-index l.places)) ≡ false
