use Rattle.std.proofs.Common.{◌≡◌, drop, None}
use Rattle.audit_chain.specs.Continues.{least_unjoined}
use Rattle.audit_chain.proofs.digests.least_unjoined.Given as goal

abbrev pub invariant-loop-digest : goal.invariant-loop-digest
invariant-loop-digest g l =
    least_unjoined (g.H.Hash32.digest l.fn.h) l.database l.from l.records l.least (drop l.digest-index l.digests) ≡ least_unjoined (g.H.Hash32.digest l.fn.h) l.database l.from l.records None l.digests
