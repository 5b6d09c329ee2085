use Rattle.std.proofs.Common.{length}
use Rattle.audit_asof.proofs.showing.+find.Given as goal

abbrev pub decreases-find : goal.decreases-find
decreases-find l = length l.tables.now
