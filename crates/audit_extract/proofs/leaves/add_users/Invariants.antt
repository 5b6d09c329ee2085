use Rattle.std.proofs.Common.{length}
use Rattle.audit_extract.proofs.ImageLeaves.{UsersLeft}
use Rattle.audit_extract.proofs.leaves.add_users.Given as goal

abbrev pub invariant-each : goal.invariant-each
invariant-each l = UsersLeft l.initial.leaves.items l.fn.defs l.tables l.leaves.items l.defs l.rest

abbrev pub decreases-each : goal.decreases-each
decreases-each l = length l.rest
