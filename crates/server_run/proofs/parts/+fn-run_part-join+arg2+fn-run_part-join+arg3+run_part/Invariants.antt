use Rattle.std.proofs.Common.{◌+◌, ◌*◌, length}
use Rattle.server_run.proofs.parts.+fn-run_part-join+arg2+fn-run_part-join+arg3+run_part.Given as goal

abbrev pub decreases-join+arg2 : goal.decreases-join+arg2
decreases-join+arg2 g l = 2 * length l.left.now + 1

abbrev pub decreases-join+arg3 : goal.decreases-join+arg3
decreases-join+arg3 g l = 2 * length l.right.now + 1

abbrev pub decreases-run_part : goal.decreases-run_part
decreases-run_part g l = 2 * length l.sections.now
