use Rattle.std.proofs.Common.{◌≡◌, ◌++◌, take, drop, map, get_or}
use Rattle.store_locks.proofs.index.move_places.Given as goal

abbrev pub invariant-loop-place : goal.invariant-loop-place
invariant-loop-place l = l.place-items ≡ map (λ p. get_or l.moved p 0) (take l.place-index l.fn.places) ++ drop l.place-index l.fn.places
