use Rattle.server_ending.specs.Closing.{StillStand, pending_there}
use Rattle.server_ending.proofs.closing.close_all.Given as goal

abbrev pub invariant-loop : goal.invariant-loop
invariant-loop g l = StillStand (g.H.Hash32.digest l.hasher) l.fn.cells.items l.cells.items

abbrev pub decreases-loop : goal.decreases-loop
decreases-loop g l = pending_there l.cells.items
