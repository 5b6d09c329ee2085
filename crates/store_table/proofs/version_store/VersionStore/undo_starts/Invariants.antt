use Rattle.std.proofs.Common.{length}
use Rattle.store_table.specs.Undoing.{NoEndUndone}
use Rattle.store_table.proofs.UndoSteps.{Undoing}
use Rattle.store_table.proofs.version_store.VersionStore.undo_starts.Given as goal

abbrev pub invariant-loop-place : goal.invariant-loop-place
invariant-loop-place l = Undoing l.tx l.seq l.fn.self l.self × NoEndUndone l.tx l.seq l.self.stored.versions

abbrev pub decreases-loop-place : goal.decreases-loop-place
decreases-loop-place l = length l.self.stored.versions
