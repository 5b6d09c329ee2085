use Rattle.std.proofs.Common.{◌≤◌, ◌-◌, length}
use Rattle.store_locks.proofs.index.end_at.Given as goal

abbrev pub invariant-loop-end : goal.invariant-loop-end
invariant-loop-end l = record { from : l.from ≤ l.end; bound : l.end ≤ length l.places }

abbrev pub decreases-loop-end : goal.decreases-loop-end
decreases-loop-end l = length l.places - l.end
