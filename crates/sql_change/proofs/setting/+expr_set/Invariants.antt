use Rattle.std.proofs.Common.{length}
use Rattle.sql_change.proofs.setting.+expr_set.Given as goal

abbrev pub decreases-expr_set : goal.decreases-expr_set
decreases-expr_set l = length l.sets.now
