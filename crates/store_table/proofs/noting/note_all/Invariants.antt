use Rattle.store_table.proofs.Noted.{Noting}
use Rattle.store_table.proofs.noting.note_all.Given as goal

abbrev pub invariant-loop-leaf : goal.invariant-loop-leaf
invariant-loop-leaf g l = Noting g.H.Hash32.digest l.table l.leaf-index l.leaves l.fn.ctx l.ctx
