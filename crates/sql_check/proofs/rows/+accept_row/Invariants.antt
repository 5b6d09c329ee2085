use Rattle.std.proofs.Common.{length}
use Rattle.sql_check.proofs.rows.+accept_row.Given as goal

abbrev pub decreases-accept_row : goal.decreases-accept_row
decreases-accept_row l = length l.columns.now
