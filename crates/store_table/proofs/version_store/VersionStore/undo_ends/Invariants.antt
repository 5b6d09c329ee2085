use Rattle.std.proofs.Common.{length}
use Rattle.store_table.specs.Ends.{endings_of}
use Rattle.store_table.proofs.UndoSteps.{Undoing}
use Rattle.store_table.proofs.version_store.VersionStore.undo_ends.Given as goal

abbrev pub invariant-loop-place : goal.invariant-loop-place
invariant-loop-place l = Undoing l.tx l.seq l.fn.self l.self

abbrev pub decreases-loop-place : goal.decreases-loop-place
decreases-loop-place l = length (endings_of l.self.stored.versions)
