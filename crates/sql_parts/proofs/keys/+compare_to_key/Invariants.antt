use Rattle.std.proofs.Common.{length}
use Rattle.sql_parts.proofs.keys.+compare_to_key.Given as goal

abbrev pub decreases-compare_to_key : goal.decreases-compare_to_key
decreases-compare_to_key g l = length l.places.now
