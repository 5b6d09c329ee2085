use Rattle.std.proofs.Common.{length}
use Rattle.audit_paths.proofs.path.+audit_steps.Given as goal

abbrev pub decreases-audit_steps : goal.decreases-audit_steps
decreases-audit_steps g l = length l.leaves.now
