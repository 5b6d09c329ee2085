use Rattle.std.proofs.Common.{length}
use Rattle.store_catalog.proofs.noting.+note_all.Given as goal

abbrev pub decreases-note_all : goal.decreases-note_all
decreases-note_all g l = length l.leaves.now
