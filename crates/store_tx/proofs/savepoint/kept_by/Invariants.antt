use Rattle.std.proofs.Common.{◌≤◌, length, take}
use Rattle.store_tx.proofs.OpenSavepoints.{Passed}
use Rattle.store_tx.proofs.savepoint.kept_by.Given as goal

abbrev pub invariant-loop-kept : goal.invariant-loop-kept
invariant-loop-kept l = (l.kept ≤ length l.savepoints) × Passed l.name l.savepoints (take l.kept l.savepoints)

abbrev pub decreases-loop-kept : goal.decreases-loop-kept
decreases-loop-kept l = l.kept
