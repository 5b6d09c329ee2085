use Rattle.audit_extract.proofs.Linked.{Agreed}
use Rattle.audit_extract.proofs.chain.in_chain.Given as goal

abbrev pub invariant-loop-at : goal.invariant-loop-at
invariant-loop-at g l = Agreed (g.H.Hash32.digest l.fn.h) l.honest l.suspect l.digest.block l.at

abbrev pub decreases-loop-at : goal.decreases-loop-at
decreases-loop-at g l = l.at
