use Rattle.std.proofs.Common.{length}
use Rattle.sql_change.proofs.keeping.+value_named.Given as goal

abbrev pub decreases-value_named : goal.decreases-value_named
decreases-value_named l = length l.names.now
