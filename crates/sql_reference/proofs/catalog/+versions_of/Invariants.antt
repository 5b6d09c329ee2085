use Rattle.std.proofs.Common.{length}
use Rattle.sql_reference.proofs.catalog.+versions_of.Given as goal

abbrev pub decreases-versions_of : goal.decreases-versions_of
decreases-versions_of l = length l.tables.now
