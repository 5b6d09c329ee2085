use Rattle.audit_receipt.proofs.SameRecords.{Level}
use Rattle.audit_receipt.proofs.settling.find_in_records.Given as goal

abbrev pub invariant-loop-at : goal.invariant-loop-at
invariant-loop-at g l = Level (g.H.Hash32.digest l.fn.h) l.a l.b l.at

abbrev pub decreases-loop-at : goal.decreases-loop-at
decreases-loop-at g l = l.at
