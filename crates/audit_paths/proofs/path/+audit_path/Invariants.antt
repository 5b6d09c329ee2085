use Rattle.std.proofs.Common.{length}
use Rattle.audit_paths.proofs.path.+audit_path.Given as goal

abbrev pub decreases-audit_path : goal.decreases-audit_path
decreases-audit_path g l = length l.leaves.now
