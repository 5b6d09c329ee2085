use Rattle.std.proofs.Common.{length}
use Rattle.audit_extract.proofs.Halves.{Sought}
use Rattle.audit_extract.proofs.Nodes.{Under}
use Rattle.audit_extract.proofs.trees.find_in_trees.Given as goal

-- the leaves are those under one node of both trees
abbrev pub invariant-halves : goal.invariant-halves
invariant-halves g l = Sought (g.H.Hash32.digest l.fn.h) l.a l.b × Under l.fn.a l.fn.b l.a l.b

abbrev pub decreases-halves : goal.decreases-halves
decreases-halves g l = length l.a
