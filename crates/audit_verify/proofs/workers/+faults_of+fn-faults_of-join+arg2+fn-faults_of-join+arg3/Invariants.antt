use Rattle.std.proofs.Common.{◌+◌, ◌*◌}
use Rattle.audit_verify.proofs.workers.+faults_of+fn-faults_of-join+arg2+fn-faults_of-join+arg3.Given as goal

abbrev pub decreases-join+arg2 : goal.decreases-join+arg2
decreases-join+arg2 g l = 2 * l.front + 1

abbrev pub decreases-join+arg3 : goal.decreases-join+arg3
decreases-join+arg3 g l = 2 * l.rest + 1

abbrev pub decreases-faults_of : goal.decreases-faults_of
decreases-faults_of g l = 2 * l.count
