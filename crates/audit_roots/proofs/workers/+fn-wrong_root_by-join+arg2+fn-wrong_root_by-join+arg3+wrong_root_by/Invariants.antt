use Rattle.std.proofs.Common.{◌+◌, ◌*◌}
use Rattle.audit_roots.proofs.workers.+fn-wrong_root_by-join+arg2+fn-wrong_root_by-join+arg3+wrong_root_by.Given as goal

abbrev pub decreases-join+arg2 : goal.decreases-join+arg2
decreases-join+arg2 g l = 2 * l.fewer + 1

abbrev pub decreases-join+arg3 : goal.decreases-join+arg3
decreases-join+arg3 g l = 2 * l.others + 1

abbrev pub decreases-wrong_root_by : goal.decreases-wrong_root_by
decreases-wrong_root_by g l = 2 * l.workers
