use Rattle.std.proofs.Common.{length}
use Rattle.sql_reference.proofs.catalog.+find.Given as goal

abbrev pub decreases-find : goal.decreases-find
decreases-find l = length l.tables.now
