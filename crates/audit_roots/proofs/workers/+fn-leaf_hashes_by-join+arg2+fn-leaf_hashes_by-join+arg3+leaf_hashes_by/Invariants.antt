use Rattle.std.proofs.Common.{◌+◌, ◌*◌}
use Rattle.audit_roots.proofs.workers.+fn-leaf_hashes_by-join+arg2+fn-leaf_hashes_by-join+arg3+leaf_hashes_by.Given as goal

abbrev pub decreases-join+arg2 : goal.decreases-join+arg2
decreases-join+arg2 g l = 2 * l.fewer + 1

abbrev pub decreases-join+arg3 : goal.decreases-join+arg3
decreases-join+arg3 g l = 2 * l.others + 1

abbrev pub decreases-leaf_hashes_by : goal.decreases-leaf_hashes_by
decreases-leaf_hashes_by g l = 2 * l.workers
